-- A whole script, and its first bad line.
use Rattle.std.specs.Prelude.{ℕ, ◌-◌, ◌≤◌, Bool, ◌==◌, List, [], ◌∷◌, length, take}
use Rattle.std.specs.List.{slice_split}
use Rattle.std.specs.Io.BufRead.{strip_last}
use Rattle.script.specs.declared.line.Line.{Line}
use Rattle.script.specs.declared.script.Script.{Script}
use Rattle.script.specs.Line.{IsInit, IsLine}

-- a line feed, which ends a line
abbrev pub is_line_feed : ℕ → Bool
is_line_feed byte = byte == 10

-- what stands between line feeds; one at the very end ends the last line, and begins no other
abbrev pub texts_of : List ℕ → List (List ℕ)
texts_of bytes = slice_split is_line_feed (strip_last 10 bytes)

-- each text is a line, one after another
abbrev pub AreLines : List (List ℕ) → List Line → Type 0
AreLines [] [] = Unit {0}
AreLines (text ∷ texts) (line ∷ lines) = IsLine text line × AreLines texts lines
AreLines [] (line ∷ lines) = ⊥
AreLines (text ∷ texts) [] = ⊥

-- the first text says how many entries a ledger has, and each further one is an event
abbrev pub SpellScript : List (List ℕ) → Script → Type 0
SpellScript [] script = ⊥
SpellScript (first ∷ rest) script = IsInit first script.per_ledger × AreLines rest script.lines

-- the bytes are this script
abbrev pub IsScript : List ℕ → Script → Type 0
IsScript bytes script = SpellScript (texts_of bytes) script

-- so far these texts are a script's: none, or those of a script
abbrev pub Begin : List (List ℕ) → Type 0
Begin [] = Unit {0}
Begin (first ∷ rest) = (script : Script) × SpellScript (first ∷ rest) script

-- line k, counted from 1, is the first bad one: those before it begin a script, and with it they don't
abbrev pub IsFirstBad : List ℕ → ℕ → Type 0
IsFirstBad bytes k =
    (1 ≤ k) × (k ≤ length (texts_of bytes)) × Begin (take (k - 1) (texts_of bytes)) × ¬ Begin (take k (texts_of bytes))

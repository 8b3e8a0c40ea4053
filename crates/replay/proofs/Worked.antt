-- Lines that were worked, and one more.
use Rattle.std.proofs.Common.{◌≡◌, ℕ, suc, ◌+◌, true, false, List, [], ◌∷◌, ◌++◌, length, take, Option, Some, None, Result, Ok, Err, refl, sym, ap, ◌∙◌, subst, append_assoc, append-nil, inl, inr, ⊎_elim, arith}
use Rattle.std.specs.Io.KnownBytes.{Appends, Keeps}
use Rattle.std.proofs.KnownBytes.{Appends-trans, Appends-kept, Keeps-refl}
use Rattle.std.proofs.Math.Seq.{take-append_seam}
use Rattle.std.proofs.lemmas.Bool.{true≢false}
use Rattle.std.proofs.lemmas.List.{take_all}
use Rattle.std.specs.Prelude.{is_err, IfOk, IfErr, OnOk, OnErr}
use Rattle.disk.specs.declared.crash_shelf.CrashForm.{CrashForm}
use Rattle.disk.specs.declared.crash_shelf.Fuse.{Fuse}
use Rattle.disk.specs.Laid.{after_arm}
use Rattle.disk_mem.specs.declared.shelf.MemShelf.{MemShelf}
use Rattle.disk_mem.specs.Device.{laid, LeftAs}
use Rattle.script.specs.declared.line.Line.{Line}
use Rattle.script.specs.declared.script.Script.{Script}
use Rattle.script.specs.Script.{IsScript}
use Rattle.replay.specs.declared.event.Task.{Task}
use Rattle.replay.specs.declared.fault.ProgramFault.{ProgramFault}
use Rattle.replay.specs.declared.fault.ProgramFault.TheVariants.{Device, NoMemory, ScriptLine}
use Rattle.replay.specs.Replay.{Moment, Armed, IfRemembered, TaskStep, WorksTask, Begun, LineStep, Prints, Begins, Plays, IsFront, Writes, WorksFront, WorksLines, Replays, ReplaysAll, ReplaysFront, IsAllOf, IsOutage}

-- one line more
pub Prints-more : (number : ℕ) (old : Moment) (lines : List Line) (text : List ℕ) (mid : Moment) (line : Line) (more : List ℕ) (new : Moment)
    → Prints number old lines text mid → LineStep (number + length lines) mid line more new → Prints number old (lines ++ line ∷ []) (text ++ more) new
Prints-more number old [] text mid line more new h step =
    let at : LineStep number old line more new = subst (λ (s : Moment). LineStep number s line more new) h.1 (subst (λ (k : ℕ). LineStep k mid line more new) (let e : number + 0 ≡ number = omega arith in e) step) in
    (more, [], new, at, (refl, refl), ap (λ (t : List ℕ). t ++ more) h.0 ∙ sym (append-nil more))
Prints-more number old (l ∷ lines) text mid line more new h step =
    let place : number + suc (length lines) ≡ number + 1 + length lines = omega arith in
    let rest = Prints-more (number + 1) h.2 lines h.1 mid line more new h.4 (subst (λ (k : ℕ). LineStep k mid line more new) place step) in
    (h.0, h.1 ++ more, h.2, h.3, rest, ap (λ (t : List ℕ). t ++ more) h.5 ∙ append_assoc h.0 h.1 more)

-- what was written before a line, and of it
front_more : (a b c : Option (List ℕ)) (before text : List ℕ) → Appends a b before → Writes {X = Unit {0}} text b c (Err Device)
    → (front : List ℕ) × IsFront front (before ++ text) × Appends a c front
front_more a b c before text p q =
    (before ++ q.0, (q.1.0, ap (λ (x : List ℕ). before ++ x) q.1.1 ∙ sym (append_assoc before q.0 q.1.0)), Appends-trans a b c before q.0 p q.2)

-- one more line was worked, and a front of its line was written, or memory was refused for it
pub one_more_fails : (number : ℕ) (old mid new : Moment) (yielded rest lines : List Line) (line : Line) (text more : List ℕ) (a b c : Option (List ℕ)) (fault : ProgramFault)
    → Prints number old yielded text mid → IfRemembered {X = Unit {0}} (Err fault) (LineStep (number + length yielded) mid line more new) → Appends a b text → Writes {X = Unit {0}} more b c (Err fault)
    → (yielded ++ line ∷ []) ++ rest ≡ lines → WorksLines {X = Unit {0}} number old lines a c (Err fault)
one_more_fails number old mid new yielded rest lines line text more a b c Device prints step so_far written whole =
    let worked : take (length (yielded ++ line ∷ [])) lines ≡ yielded ++ line ∷ [] = ap (take (length (yielded ++ line ∷ []))) (sym whole) ∙ take-append_seam (yielded ++ line ∷ []) rest in
    let front = front_more a b c text more so_far written in (
      length (yielded ++ line ∷ []),
      text ++ more,
      new,
      subst (λ (ls : List Line). Prints number old ls (text ++ more) new) (sym worked) (Prints-more number old yielded text mid line more new prints step),
      front.0,
      front.1,
      front.2,
    )
one_more_fails number old mid new yielded rest lines line text more a b c NoMemory prints step so_far written whole =
    let worked : take (length yielded) lines ≡ yielded = ap (take (length yielded)) (sym whole ∙ append_assoc yielded (line ∷ []) rest) ∙ take-append_seam yielded (line ∷ rest) in (
      length yielded,
      text,
      mid,
      subst (λ (ls : List Line). Prints number old ls text mid) (sym worked) prints,
      text,
      ([], sym (append-nil text)),
      Appends-kept a b c text so_far written,
    )
one_more_fails number old mid new yielded rest lines line text more a b c (ScriptLine k) prints step so_far written whole = absurd written

-- which value there would have been is nothing to a fault
pub writes_fault : (X Y : Type 0) (text : List ℕ) (a b : Option (List ℕ)) (fault : ProgramFault) → Writes {X = X} text a b (Err fault) → Writes {X = Y} text a b (Err fault)
writes_fault X Y text a b Device w = w
writes_fault X Y text a b NoMemory w = w
writes_fault X Y text a b (ScriptLine k) w = absurd w

remembered : (X : Type 0) {P : Type 0} (fault : ProgramFault) → P → IfRemembered {X = X} (Err fault) P
remembered X Device p = p
remembered X NoMemory p = tt
remembered X (ScriptLine k) p = p

pub remembered_fault : (X Y P : Type 0) (fault : ProgramFault) → IfRemembered {X = X} (Err fault) P → IfRemembered {X = Y} (Err fault) P
remembered_fault X Y P Device p = p
remembered_fault X Y P NoMemory p = p
remembered_fault X Y P (ScriptLine k) p = p

-- a task was worked, and what it prints couldn't be written
pub task_fails : {R : Type 0} (lives : R → Moment → Type 0) (number : ℕ) (old : Moment) (task : Task) (text : List ℕ) (new : Moment) (a b : Option (List ℕ)) (fault : ProgramFault)
    → TaskStep number old task text new → Writes {X = Unit {0}} text a b (Err fault) → WorksTask lives number old task a b (Err fault)
task_fails {R} lives number old task text new a b fault step writes = record { text = text; new = new; step = remembered R fault step; writes = writes_fault (Unit {0}) R text a b fault writes; goes_on = tt }

-- memory was refused
pub task_forgets : {R : Type 0} (lives : R → Moment → Type 0) (number : ℕ) (old : Moment) (task : Task) (a : Option (List ℕ)) → WorksTask lives number old task a a (Err NoMemory)
task_forgets lives number old task a = record { text = []; new = old; step = tt; writes = Keeps-refl a; goes_on = tt }

-- the first line was worked, and couldn't be written
pub begin_fails : {R : Type 0} (lives : R → Moment → Type 0) (per_ledger : ℕ) (text : List ℕ) (life : Moment) (a b : Option (List ℕ)) (fault : ProgramFault)
    → Begins per_ledger text life → Writes {X = Unit {0}} text a b (Err fault) → Begun lives per_ledger a b (Err fault)
begin_fails lives per_ledger text life a b Device begins w = inr (text, life, begins, w.0, w.1, w.2)
begin_fails lives per_ledger text life a b NoMemory begins w = w
begin_fails lives per_ledger text life a b (ScriptLine k) begins w = absurd w

-- its line was written or wasn't, and where it was the replay lives on
pub task_told : {R : Type 0} (lives : R → Moment → Type 0) (number : ℕ) (old : Moment) (task : Task) (text : List ℕ) (new : Moment) (a b : Option (List ℕ)) (replay : R) (result : Result R ProgramFault)
    → Writes text a b result → IfOk result (λ r. r ≡ replay) → TaskStep number old task text new → lives replay new → WorksTask lives number old task a b result
task_told {R} lives number old task text new a b replay (Ok r) writes same step goes =
    record { text = text; new = new; step = step; writes = writes; goes_on = subst (λ (r : R). lives r new) (sym same) goes }
task_told {R} lives number old task text new a b replay (Err fault) writes same step goes = record { text = text; new = new; step = remembered R fault step; writes = writes; goes_on = tt }

pub is_ok_so : {A E P : Type 0} (r : Result A E) → is_err r ≡ false → OnOk r P → P
is_ok_so (Ok a) is h = h
is_ok_so (Err e) is h = absurd (true≢false is)

pub is_err_so : {A E P : Type 0} (r : Result A E) → is_err r ≡ true → OnErr r P → P
is_err_so (Ok a) is h = absurd (true≢false (sym is))
is_err_so (Err e) is h = h

-- ---- fuses

module _ (old : Moment) (before device : MemShelf) (is : old.device ≡ before) (files : (form : CrashForm) (after : MemShelf) → LeftAs form device after → LeftAs form before after) where
  -- the moment with this device
  abbrev pub with_device : Moment
  with_device = record { life = old.life; device = device; known = old.known }

  files_before : (form : CrashForm) (after : MemShelf) → LeftAs form device after → LeftAs form old.device after
  files_before form after left = subst (λ (d : MemShelf). LeftAs form d after) (sym is) (files form after left)

  pub lays : (fuse : Fuse) → laid device ≡ after_arm fuse (laid before) → Armed (after_arm fuse (laid old.device)) old with_device
  lays fuse now = record { life = refl; known = refl; files = files_before; laid = now ∙ ap (λ (d : MemShelf). after_arm fuse (laid d)) (sym is) }

  pub lays_none : laid device ≡ laid before → Armed (laid old.device) old with_device
  lays_none now = record { life = refl; known = refl; files = files_before; laid = now ∙ ap (λ (d : MemShelf). laid d) (sym is) }

-- the lines that were worked, the next one and the others are the whole
pub next_of_whole : (yielded rest after lines : List Line) (line : Line) → yielded ++ rest ≡ lines → rest ≡ line ∷ after → (yielded ++ line ∷ []) ++ after ≡ lines
next_of_whole yielded rest after lines line whole next = append_assoc yielded (line ∷ []) after ∙ ap (λ (ls : List Line). yielded ++ ls) (sym next) ∙ whole

pub none_left : (rest : List Line) → length rest ≡ 0 → rest ≡ []
none_left [] h = refl
none_left (line ∷ rest) h = absurd (omega arith)

-- all lines were worked
pub worked_all : (yielded rest lines : List Line) → yielded ++ rest ≡ lines → length rest ≡ 0 → yielded ≡ lines
worked_all yielded rest lines whole none = sym (append-nil yielded) ∙ ap (λ (ls : List Line). yielded ++ ls) (sym (none_left rest none)) ∙ whole

-- ---- a whole script

module _ (bytes : List ℕ) (script : Script) (is : IsScript bytes script) (a : Option (List ℕ)) where
  -- only the first line was worked
  begun_alone : (text : List ℕ) (life : Moment) → Begins script.per_ledger text life → Plays script.per_ledger (take 0 script.lines) text
  begun_alone text life begins = record { begun = life; first = text; begins = begins; rest = []; last = life; prints = (refl, refl); printed = sym (append-nil text) }

  -- the first line failed
  pub begun_fails : {R : Type 0} (lives : R → Moment → Type 0) (c : Option (List ℕ)) (fault : ProgramFault) → Begun lives script.per_ledger a c (Err fault) → Replays {X = Unit {0}} bytes a c (Err fault)
  begun_fails lives c Device h = ⊎_elim (λ (k : Keeps a c). let r : Replays {X = Unit {0}} bytes a c (Err Device) = inl k in r)
      (λ (f : (text : List ℕ) × (life : Moment) × Begins script.per_ledger text life × (front : List ℕ) × IsFront front text × Appends a c front). inr (script, is, 0, f.0, begun_alone f.0 f.1 f.2, f.3, f.4, f.5)) h
  begun_fails lives c NoMemory h = inl h
  begun_fails lives c (ScriptLine k) h = absurd h

  works_front_from : (b c : Option (List ℕ)) (text : List ℕ) (life : Moment) → Begins script.per_ledger text life → Appends a b text → WorksFront 2 life script.lines b c → ReplaysFront bytes a c
  works_front_from b c text life begins p h =
      let plays : Plays script.per_ledger (take h.0 script.lines) (text ++ h.1) = record { begun = life; first = text; begins = begins; rest = h.1; last = h.2; prints = h.3; printed = refl } in
      (script, is, h.0, text ++ h.1, plays, text ++ h.4, (h.5.0, ap (λ (x : List ℕ). text ++ x) h.5.1 ∙ sym (append_assoc text h.4 h.5.0)), Appends-trans a b c text h.4 p h.6)

  -- a further line failed
  pub run_fails : (b c : Option (List ℕ)) (text : List ℕ) (life : Moment) (fault : ProgramFault) → Begins script.per_ledger text life → Appends a b text
      → WorksLines {X = Unit {0}} 2 life script.lines b c (Err fault) → Replays {X = Unit {0}} bytes a c (Err fault)
  run_fails b c text life Device begins p h = inr (works_front_from b c text life begins p h)
  run_fails b c text life NoMemory begins p h = inr (works_front_from b c text life begins p h)
  run_fails b c text life (ScriptLine k) begins p h = absurd h

  module _ (b c d : Option (List ℕ)) (text rest : List ℕ) (life last : Moment) (begins : Begins script.per_ledger text life) (p : Appends a b text)
      (prints : Prints 2 life script.lines rest last) (q : Appends b c rest) (kept : Keeps c d) where
    -- all went well
    run_ends : ReplaysAll bytes a d
    run_ends = (
      script,
      is,
      text ++ rest,
      record { begun = life; first = text; begins = begins; rest = rest; last = last; prints = prints; printed = refl },
      Appends-kept a c d _ (Appends-trans a b c _ _ p q) kept,
    )

    -- all was written, but for what a flush may have lost
    flush_fails : Replays {X = Unit {0}} bytes a d (Err Device)
    flush_fails =
        let all : take (length script.lines) script.lines ≡ script.lines = take_all (length script.lines) script.lines (omega arith) in
        inr (
          script,
          is,
          length script.lines,
          text ++ rest,
          subst (λ (ls : List Line). Plays script.per_ledger ls (text ++ rest)) (sym all) (record { begun = life; first = text; begins = begins; rest = rest; last = last; prints = prints; printed = refl }),
          text ++ rest,
          ([], sym (append-nil (text ++ rest))),
          Appends-kept a c d _ (Appends-trans a b c _ _ p q) kept,
        )

    pub run_finished : (finished : Result (Unit {0}) ProgramFault) → IfErr finished (λ fault. fault ≡ Device) → Replays bytes a d finished
    run_finished (Ok done) is = run_ends
    run_finished (Err fault) is = subst (λ (f : ProgramFault). Replays {X = Unit {0}} bytes a d (Err f)) (sym is) flush_fails

-- the script couldn't be read
pub read_fails : (known a : Option (List ℕ)) (fault : ProgramFault) → IsOutage fault → (bytes : List ℕ) × IsAllOf known bytes × Replays {X = Unit {0}} bytes a a (Err fault)
read_fails None a Device h = ([], tt, inl (Keeps-refl a))
read_fails None a NoMemory h = ([], tt, inl (Keeps-refl a))
read_fails (Some left) a Device h = (left, refl, inl (Keeps-refl a))
read_fails (Some left) a NoMemory h = (left, refl, inl (Keeps-refl a))
read_fails known a (ScriptLine k) h = absurd h

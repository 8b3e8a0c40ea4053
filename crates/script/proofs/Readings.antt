-- What is read is what the bytes spell, and a bad line is the first one.
use Rattle.std.proofs.Common.{◌≡◌, ℕ, zero, suc, ◌+◌, ◌-◌, ◌*◌, ◌<◌, ◌≤◌, ◌^◌, ◌≢◌, Bool, true, false, cond, ◌&&◌, ◌⊎◌, inl, inr, List, [], ◌∷◌, ◌++◌, length, get_or, take, Option, Some, None, Result, Ok, Err, refl, sym, ap, ◌∙◌, subst, arith}
use Rattle.std.specs.Prelude.{nat_lt, not, codes, option_map, slice_get, ◌==◌, IfOk}
use Rattle.std.proofs.lemmas.Option.{cond_some}
use Rattle.std.specs.Option.{option_map_or}
use Rattle.std.specs.List.{list_all}
use Rattle.std.proofs.lemmas.List.Folds.{list_all_at}
use Rattle.std.specs.Result.{result_ok}
use Rattle.std.specs.Str.{all_ascii_digits, bytes_eq}
use Rattle.std.specs.Str.Parse.{digits_value}
use Rattle.std.proofs.lemmas.Bool.{cases_eq, cases_lt, and_parts, ne_eqb, eq-eqb, lt-ltb, le-ltb}
use Rattle.std.proofs.lemmas.Bool.Decides.{nat_tests}
use Rattle.std.specs.Io.BufRead.{strip_last}
use Rattle.std.proofs.lemmas.List.Splits.{length-slice_split}
use Rattle.std.proofs.lemmas.Slice.Eq.{bytes_eq-Decides}
use Rattle.std.proofs.lemmas.Str.Parse.{not_in_digits}
use Rattle.hex.specs.Hex.{decode_of, decode_sized}
use Rattle.hex.proofs.HexLemmas.{decode_of-ok, decode_sized-ok, decode_sized-twice}
use Rattle.script.specs.declared.line.Line.{Line}
use Rattle.script.specs.declared.line.Line.TheVariants.{Open, Bytes, Pump, Close, Flush, Take, Write, Finish, Fail, Stop, FailRead, Crash, Reopen, Status}
use Rattle.script.specs.declared.line.CrashAs.{CrashAs}
use Rattle.script.specs.declared.line.CrashAs.TheVariants.{Old, New, Fill}
use Rattle.script.specs.declared.script.Script.{Script}
use Rattle.script.specs.declared.script.ScriptFault.{ScriptFault}
use Rattle.script.specs.declared.script.ScriptFault.TheVariants.{BadLine}
use Rattle.script.specs.Line.{IsNumber, IsHex, IsNumbered, IsInit, IsCrashAs, IsLine}
use Rattle.script.specs.Script.{is_line_feed, texts_of, AreLines, SpellScript, IsScript, Begin, IsFirstBad}
use Rattle.script.specs.Reading.{after, number_of, hex_of, byte_of, init_of, around, bytes_line_of, crash_as_of, event_of, numbered_line_of, line_of, lines_from, lines_after, onto_lines, script_after, script_of_texts, script_of, ReadsScript, ◌>>=◌}
use Rattle.script.proofs.Numbers.{digits_model, number_of-some}
use Rattle.script.proofs.Texts.{after-append, after-some, around-some, around-first}

-- ---- numbers and hex

some_same : {A : Type 0} (x y : A) → Some x ≡ Some y → x ≡ y
some_same x y h = cc h

pub number_of-only : (text : List ℕ) (n : ℕ) → IsNumber text n → number_of text ≡ Some n
number_of-only text n h =
    number_of-some text (digits_model.from text h.0.1) h.0.0 (rw h.1 h.2) ∙ ap Some h.1

number_parts : (v m n : ℕ) (digits : Bool) → cond (nat_lt 0 m && digits && nat_lt v (2 ^ 64)) (Some v) None ≡ Some n → (digits ≡ true) × (0 < m) × (v ≡ n) × (v < 2 ^ 64)
number_parts v m n digits h =
    let g = cond_some (nat_lt 0 m && digits && nat_lt v (2 ^ 64)) v n h in
    let all = and_parts (nat_lt 0 m && digits) (nat_lt v (2 ^ 64)) g.0 in
    let front = and_parts (nat_lt 0 m) digits all.0 in
    (front.1, grind (arith, nat_tests, front.0), g.1, grind (arith, nat_tests, all.1))

pub number_of-is : (text : List ℕ) (n : ℕ) → number_of text ≡ Some n → IsNumber text n
unfolding number_of
number_of-is text n h =
    let p = number_parts (digits_value 10 text) (length text) n (all_ascii_digits text) h in
    ((p.1, digits_model.to text p.0), p.2, rw (← p.2) p.3)

pub hex_of-only : (text bytes : List ℕ) → IsHex text bytes → hex_of text ≡ Some bytes
unfolding hex_of
hex_of-only text bytes h =
    let some : (length text == 0) ≡ false = ne_eqb (length text) 0 (λ e. omega (arith, h.0, e)) in
    rw some (ap result_ok h.1)

-- what a value under `>>=` shows
bind_some : {A B : Type 0} (o : Option A) (f : A → Option B) (y : B) → (o >>= f) ≡ Some y → (x : A) × (o ≡ Some x) × (f x ≡ Some y)
bind_some (Some x) f y h = (x, refl, h)
bind_some None f y h = cc h

-- and under `option_map`
map_some : {A B : Type 0} (f : A → B) (o : Option A) (y : B) → option_map f o ≡ Some y → (x : A) × (o ≡ Some x) × (f x ≡ y)
map_some f (Some x) y h = (x, refl, cc h)
map_some f None y h = cc h

ok_of_some : {A E : Type 0} (r : Result A E) (x : A) → result_ok r ≡ Some x → r ≡ Ok x
ok_of_some (Ok y) x h = cc h
ok_of_some (Err e) x h = cc h

pub hex_of-is : (text bytes : List ℕ) → hex_of text ≡ Some bytes → IsHex text bytes
unfolding hex_of
hex_of-is text bytes h =
    elim (cases_eq (length text) 0) [
      | inl none ↦ let e : (length text == 0) ≡ true = eq-eqb (length text) 0 none in cc (rw e at h)
      | inr some ↦ let e : (length text == 0) ≡ false = ne_eqb (length text) 0 some in (omega arith, ok_of_some (decode_of text) bytes (rw e at h))
    ]

first_of_two : (bytes : List ℕ) (byte : ℕ) → 2 * length bytes ≡ 2 → slice_get bytes 0 ≡ Some byte → bytes ≡ byte ∷ []
first_of_two [] byte two h = absurd (omega (arith, two))
first_of_two (x ∷ []) byte two h = ap (λ (b : ℕ). b ∷ []) (some_same x byte h)
first_of_two (x ∷ y ∷ rest) byte two h = absurd (omega arith)

pub byte_of-only : (text : List ℕ) (byte : ℕ) → IsHex text (byte ∷ []) → byte_of text ≡ Some byte
unfolding byte_of
byte_of-only text byte h =
    let two = (decode_of-ok text (byte ∷ []) h.1).2 in
    let sized : decode_sized text 1 ≡ Ok (byte ∷ []) = decode_sized-twice text 1 (omega (arith, two)) ∙ h.1 in
    rw sized refl

pub byte_of-is : (text : List ℕ) (byte : ℕ) → byte_of text ≡ Some byte → IsHex text (byte ∷ [])
unfolding byte_of
byte_of-is text byte h =
    let a = bind_some (result_ok (decode_sized text 1)) _ byte h in
    let sized = ok_of_some (decode_sized text 1) a.0 a.1 in
    let two = decode_sized-ok text 1 a.0 sized in
    let whole = sym (decode_sized-twice text 1 two) ∙ sized in
    let one = first_of_two a.0 byte (omega (arith, two, (decode_of-ok text a.0 whole).2)) a.2 in
    (omega (arith, two), whole ∙ ap Ok one)

-- ---- a line

-- what holds of what a choice gave, where it holds of both
chosen : {A P : Type 0} (b : Bool) (x y : A) (o : Option A) → (b ≡ true → x ≡ y → P) → (o ≡ Some y → P) → cond b (Some x) o ≡ Some y → P
chosen true x y o this other h = this refl (some_same x y h)
chosen false x y o this other h = other h

-- the same of a choice by a front
chosen_after : {P : Type 0} (o : Option (List ℕ)) (found : List ℕ → Option Line) (otherwise : Option Line) (y : Line)
    → ((rest : List ℕ) → o ≡ Some rest → found rest ≡ Some y → P) → (otherwise ≡ Some y → P) → option_map_or found o otherwise ≡ Some y → P
chosen_after (Some rest) found otherwise y this other h = this rest refl h
chosen_after None found otherwise y this other h = other h

between_some : (n m : ℕ) → cond (nat_lt n 1) None (cond (nat_lt 50000 n) None (Some n)) ≡ Some m → (n ≡ m) × (1 ≤ n) × (n ≤ 50000)
between_some n m h =
    elim (cases_lt n 1) [
      | inl low ↦ let e : nat_lt n 1 ≡ true = lt-ltb n 1 low in cc (rw e at h)
      | inr high ↦
          let e : nat_lt n 1 ≡ false = le-ltb n 1 high in
          elim (cases_lt 50000 n) [
            | inl over ↦ let f : nat_lt 50000 n ≡ true = lt-ltb 50000 n over in cc (rw (e, f) at h)
            | inr within ↦ let f : nat_lt 50000 n ≡ false = le-ltb 50000 n within in (some_same n m (rw (e, f) at h), omega arith, omega arith)
          ]
    ]

between_only : (n : ℕ) → 1 ≤ n → n ≤ 50000 → cond (nat_lt n 1) None (cond (nat_lt 50000 n) None (Some n)) ≡ Some n
between_only n low high = grind (arith, nat_tests)

pub init_of-is : (text : List ℕ) (n : ℕ) → init_of text ≡ Some n → IsInit text n
unfolding init_of
init_of-is text n h =
    let a = bind_some (after (codes "init ") text) _ n h in
    let b = bind_some (number_of a.0) _ n a.2 in
    let c = between_some b.0 n b.2 in
    ((a.0, after-some (codes "init ") text a.0 a.1, subst (IsNumber a.0) c.0 (number_of-is a.0 b.0 b.1)), subst (λ (m : ℕ). 1 ≤ m) c.0 c.1, subst (λ (m : ℕ). m ≤ 50000) c.0 c.2)

pub init_of-only : (text : List ℕ) (n : ℕ) → IsInit text n → init_of text ≡ Some n
unfolding init_of
init_of-only text n h =
    let number = h.0.0 in
    let found : after (codes "init ") text ≡ Some number = ap (after (codes "init ")) h.0.1 ∙ after-append (codes "init ") number in
    rw (found, number_of-only number n h.0.2) (between_only n h.1 h.2)

-- the event of a word, where the text is the word, one space and a number
event_is : (text number : List ℕ) (n : ℕ) (line : Line) (word : List ℕ) → text ≡ word ++ 32 ∷ number → IsNumber number n → event_of word n ≡ Some line → IsLine text line
event_is text number n line word spelled is =
    one_of (codes "pump") Pump (λ h. h) _ (
    one_of (codes "close") Close (λ h. h) _ (
    one_of (codes "flush") Flush (λ h. h) _ (
    one_of (codes "take") Take (λ h. h) _ (
    one_of (codes "write") Write (λ h. h) _ (
    one_of (codes "finish") Finish (λ h. h) _ (
    one_of (codes "fail") Fail (λ h. h) _ (
    one_of (codes "stop") Stop (λ h. h) _ (
    one_of (codes "failread") FailRead (λ h. h) _ (
    one_of (codes "reopen") Reopen (λ h. h) _ (λ h. cc h))))))))))
  where
    one_of : (known : List ℕ) (event : ℕ → Line) → (IsNumbered text known n → IsLine text (event n)) → (others : Option Line) → (others ≡ Some line → IsLine text line)
        → cond (bytes_eq word known) (Some (event n)) others ≡ Some line → IsLine text line
    one_of known event same others other =
        chosen (bytes_eq word known) (event n) line others
        (λ e made. subst (IsLine text) made (same (number, spelled ∙ ap (λ (w : List ℕ). w ++ 32 ∷ number) ((bytes_eq-Decides word known).0 e), is))) other

numbered_line_is : (text : List ℕ) (line : Line) → numbered_line_of text ≡ Some line → IsLine text line
unfolding numbered_line_of
numbered_line_is text line h =
    let a = bind_some (around 32 text) _ line h in
    let b = bind_some (number_of a.0.1) _ line a.2 in
    event_is text a.0.1 b.0 line a.0.0 (around-some 32 text a.0 a.1) (number_of-is a.0.1 b.0 b.1) b.2

crash_as_is : (text : List ℕ) (form : CrashAs) → crash_as_of text ≡ Some form → IsCrashAs text form
unfolding crash_as_of
crash_as_is text form =
    chosen _ Old form _ (λ e made. subst (IsCrashAs text) made ((bytes_eq-Decides text (codes "old")).0 e)) (
    chosen _ New form _ (λ e made. subst (IsCrashAs text) made ((bytes_eq-Decides text (codes "new")).0 e)) (λ h.
    let a = map_some Fill (after (codes "fill ") text >>= byte_of) form h in
    let b = bind_some (after (codes "fill ") text) byte_of a.0 a.1 in
    let fact : IsCrashAs text (Fill a.0) = (b.0, after-some (codes "fill ") text b.0 b.1, byte_of-is b.0 a.0 b.2) in
    subst (IsCrashAs text) a.2 fact))

crash_line_is : (text words : List ℕ) (line : Line) → text ≡ codes "crash " ++ words → option_map Crash (crash_as_of words) ≡ Some line → IsLine text line
crash_line_is text words line spelled h =
    let a = map_some Crash (crash_as_of words) line h in
    let fact : IsLine text (Crash a.0) = (words, spelled, crash_as_is words a.0 a.1) in
    subst (IsLine text) a.2 fact

bytes_line_is : (text words : List ℕ) (line : Line) → text ≡ codes "bytes " ++ words → bytes_line_of words ≡ Some line → IsLine text line
unfolding bytes_line_of
bytes_line_is text words line spelled h =
    let a = bind_some (around 32 words) _ line h in
    let b = bind_some (number_of a.0.0) _ line a.2 in
    let c = bind_some (hex_of a.0.1) _ line b.2 in
    let whole : text ≡ codes "bytes " ++ (a.0.0 ++ 32 ∷ a.0.1) = spelled ∙ ap (λ (w : List ℕ). codes "bytes " ++ w) (around-some 32 words a.0 a.1) in
    let fact : IsLine text (Bytes b.0 c.0) = (a.0.0, a.0.1, whole, number_of-is a.0.0 b.0 b.1, hex_of-is a.0.1 c.0 c.1) in
    subst (IsLine text) (some_same (Bytes b.0 c.0) line c.2) fact

pub line_of-is : (text : List ℕ) (line : Line) → line_of text ≡ Some line → IsLine text line
unfolding line_of
line_of-is text line =
    chosen _ Open line _ (λ e made. subst (IsLine text) made ((bytes_eq-Decides text (codes "open")).0 e)) (
    chosen _ Status line _ (λ e made. subst (IsLine text) made ((bytes_eq-Decides text (codes "status")).0 e)) (
    chosen_after _ _ _ line (λ words e. bytes_line_is text words line (after-some (codes "bytes ") text words e)) (
    chosen_after _ _ _ line (λ words e. crash_line_is text words line (after-some (codes "crash ") text words e)) (numbered_line_is text line))))

bytes_line_only : (number hex bytes : List ℕ) (session : ℕ) → IsNumber number session → IsHex hex bytes → bytes_line_of (number ++ 32 ∷ hex) ≡ Some (Bytes session bytes)
unfolding bytes_line_of
bytes_line_only number hex bytes session n h =
    let no_space = not_in_digits digits_model number 32 (digits_model.from number n.0.1) (λ r. omega (arith, r.0, r.1)) in
    rw (around-first 32 number hex no_space, number_of-only number session n, hex_of-only hex bytes h) refl

line_of-bytes : (words : List ℕ) → line_of (codes "bytes " ++ words) ≡ bytes_line_of words
unfolding line_of after
line_of-bytes words = refl

line_of-crash : (words : List ℕ) → line_of (codes "crash " ++ words) ≡ option_map Crash (crash_as_of words)
unfolding line_of after
line_of-crash words = refl

crash_as_only : (text : List ℕ) (form : CrashAs) → IsCrashAs text form → crash_as_of text ≡ Some form
unfolding crash_as_of after
crash_as_only text Old h = rw h refl
crash_as_only text New h = rw h refl
crash_as_only text (Fill byte) h = rw h.1 (ap (option_map Fill) (byte_of-only h.0 byte h.2))

no_space : (word : List ℕ) → list_all (λ byte. not (byte == 32)) word ≡ true → (i : ℕ) → i < length word → get_or word i 0 ≢ 32
no_space word all i lt e =
    let found : not (get_or word i 0 == 32) ≡ false = ap not (eq-eqb (get_or word i 0) 32 e) in
    cc (sym all ∙ list_all_at (λ byte. not (byte == 32)) word i 0 lt found)

-- a word without a space, one space and a number
numbered_line_only : (text word : List ℕ) (n : ℕ) → list_all (λ byte. not (byte == 32)) word ≡ true → IsNumbered text word n → numbered_line_of text ≡ event_of word n
unfolding numbered_line_of
numbered_line_only text word n none h = rw (h.1, around-first 32 word h.0 (no_space word none), number_of-only h.0 n h.2) refl

-- a line of a known word that no earlier form begins with
numbered_only : (text word : List ℕ) (n : ℕ) → list_all (λ byte. not (byte == 32)) word ≡ true → ((number : List ℕ) → line_of (word ++ 32 ∷ number) ≡ numbered_line_of (word ++ 32 ∷ number))
    → IsNumbered text word n → line_of text ≡ event_of word n
numbered_only text word n none falls h = ap line_of h.1 ∙ falls h.0 ∙ ap numbered_line_of (sym h.1) ∙ numbered_line_only text word n none h

line_of-pump : (number : List ℕ) → line_of (codes "pump" ++ 32 ∷ number) ≡ numbered_line_of (codes "pump" ++ 32 ∷ number)
unfolding line_of after
line_of-pump number = refl

line_of-close : (number : List ℕ) → line_of (codes "close" ++ 32 ∷ number) ≡ numbered_line_of (codes "close" ++ 32 ∷ number)
unfolding line_of after
line_of-close number = refl

line_of-flush : (number : List ℕ) → line_of (codes "flush" ++ 32 ∷ number) ≡ numbered_line_of (codes "flush" ++ 32 ∷ number)
unfolding line_of after
line_of-flush number = refl

line_of-take : (number : List ℕ) → line_of (codes "take" ++ 32 ∷ number) ≡ numbered_line_of (codes "take" ++ 32 ∷ number)
unfolding line_of after
line_of-take number = refl

line_of-write : (number : List ℕ) → line_of (codes "write" ++ 32 ∷ number) ≡ numbered_line_of (codes "write" ++ 32 ∷ number)
unfolding line_of after
line_of-write number = refl

line_of-finish : (number : List ℕ) → line_of (codes "finish" ++ 32 ∷ number) ≡ numbered_line_of (codes "finish" ++ 32 ∷ number)
unfolding line_of after
line_of-finish number = refl

line_of-fail : (number : List ℕ) → line_of (codes "fail" ++ 32 ∷ number) ≡ numbered_line_of (codes "fail" ++ 32 ∷ number)
unfolding line_of after
line_of-fail number = refl

line_of-stop : (number : List ℕ) → line_of (codes "stop" ++ 32 ∷ number) ≡ numbered_line_of (codes "stop" ++ 32 ∷ number)
unfolding line_of after
line_of-stop number = refl

line_of-failread : (number : List ℕ) → line_of (codes "failread" ++ 32 ∷ number) ≡ numbered_line_of (codes "failread" ++ 32 ∷ number)
unfolding line_of after
line_of-failread number = refl

line_of-reopen : (number : List ℕ) → line_of (codes "reopen" ++ 32 ∷ number) ≡ numbered_line_of (codes "reopen" ++ 32 ∷ number)
unfolding line_of after
line_of-reopen number = refl

line_of-open : line_of (codes "open") ≡ Some Open
unfolding line_of
line_of-open = refl

line_of-status : line_of (codes "status") ≡ Some Status
unfolding line_of
line_of-status = refl

pub line_of-only : (text : List ℕ) (line : Line) → IsLine text line → line_of text ≡ Some line
line_of-only text Open h = ap line_of h ∙ line_of-open
line_of-only text (Bytes session bytes) h = ap line_of h.2 ∙ line_of-bytes (h.0 ++ 32 ∷ h.1) ∙ bytes_line_only h.0 h.1 bytes session h.3 h.4
line_of-only text (Pump session) h = numbered_only text (codes "pump") session refl line_of-pump h
line_of-only text (Close session) h = numbered_only text (codes "close") session refl line_of-close h
line_of-only text (Flush topic) h = numbered_only text (codes "flush") topic refl line_of-flush h
line_of-only text (Take topic) h = numbered_only text (codes "take") topic refl line_of-take h
line_of-only text (Write topic) h = numbered_only text (codes "write") topic refl line_of-write h
line_of-only text (Finish topic) h = numbered_only text (codes "finish") topic refl line_of-finish h
line_of-only text (Fail k) h = numbered_only text (codes "fail") k refl line_of-fail h
line_of-only text (Stop k) h = numbered_only text (codes "stop") k refl line_of-stop h
line_of-only text (FailRead k) h = numbered_only text (codes "failread") k refl line_of-failread h
line_of-only text (Crash form) h = ap line_of h.1 ∙ line_of-crash h.0 ∙ ap (option_map Crash) (crash_as_only h.0 form h.2)
line_of-only text (Reopen topic) h = numbered_only text (codes "reopen") topic refl line_of-reopen h
line_of-only text Status h = ap line_of h ∙ line_of-status

-- ---- the lines behind the first

onto_ok : (line : Line) (read : Result (List Line) ℕ) (lines : List Line) → onto_lines line read ≡ Ok lines → (rest : List Line) × (read ≡ Ok rest) × (line ∷ rest ≡ lines)
onto_ok line (Ok rest) lines h = (rest, refl, cc h)
onto_ok line (Err k) lines h = cc h

after_ok : (number : ℕ) (o : Option Line) (read : Result (List Line) ℕ) (lines : List Line) → lines_after number o read ≡ Ok lines
    → (line : Line) × (rest : List Line) × (o ≡ Some line) × (read ≡ Ok rest) × (line ∷ rest ≡ lines)
after_ok number None read lines h = cc h
after_ok number (Some line) read lines h = let p = onto_ok line read lines h in (line, p.0, refl, p.1, p.2)

ok_same : {A E : Type 0} (x y : A) → ◌≡◌ {A = Result A E} (Ok x) (Ok y) → x ≡ y
ok_same x y h = cc h

pub lines_from-is : (texts : List (List ℕ)) (number : ℕ) (lines : List Line) → lines_from number texts ≡ Ok lines → AreLines texts lines
unfolding lines_from
lines_from-is [] number lines h = let none : [] ≡ lines = cc h in let fact : AreLines [] [] = tt in subst (AreLines []) none fact
lines_from-is (text ∷ texts) number lines h =
    let p = after_ok number (line_of text) (lines_from (number + 1) texts) lines h in
    let fact : AreLines (text ∷ texts) (p.0 ∷ p.1) = (line_of-is text p.0 p.2, lines_from-is texts (number + 1) p.1 p.3) in
    subst (AreLines (text ∷ texts)) p.4 fact

pub lines_from-only : (texts : List (List ℕ)) (number : ℕ) (lines : List Line) → AreLines texts lines → lines_from number texts ≡ Ok lines
unfolding lines_from
lines_from-only [] number [] h = refl
lines_from-only [] number (line ∷ lines) h = absurd h
lines_from-only (text ∷ texts) number [] h = absurd h
lines_from-only (text ∷ texts) number (line ∷ lines) h = rw (line_of-only text line h.0, lines_from-only texts (number + 1) lines h.1) refl

-- some events have these texts
abbrev pub AreEvents : List (List ℕ) → Type 0
AreEvents texts = (lines : List Line) × AreLines texts lines

-- the text at place i is the first that is no event
pub record BreaksAt (texts : List (List ℕ)) (i : ℕ) : Type 0 where
  pub within : i < length texts
  pub before : AreEvents (take i texts)
  pub broken : AreEvents (take (suc i) texts) → ⊥

onto_err : (line : Line) (read : Result (List Line) ℕ) (k : ℕ) → onto_lines line read ≡ Err k → read ≡ Err k
onto_err line (Ok rest) k h = cc h
onto_err line (Err j) k h = h

after_err : (number : ℕ) (o : Option Line) (read : Result (List Line) ℕ) (k : ℕ) → lines_after number o read ≡ Err k
    → ((o ≡ None) × (number ≡ k)) ⊎ ((line : Line) × (o ≡ Some line) × (read ≡ Err k))
after_err number None read k h = inl (refl, cc h)
after_err number (Some line) read k h = inr (line, refl, onto_err line read k h)

no_event : (text : List ℕ) (texts : List (List ℕ)) → line_of text ≡ None → AreEvents (text ∷ texts) → ⊥
no_event text texts none ([], h) = h
no_event text texts none (line ∷ lines, h) = let some = line_of-only text line h.0 in cc (sym none ∙ some)

event_first : (text : List ℕ) (texts : List (List ℕ)) → AreEvents (text ∷ texts) → AreEvents texts
event_first text texts ([], h) = absurd h
event_first text texts (line ∷ lines, h) = (lines, h.1)

pub lines_from-bad : (texts : List (List ℕ)) (number k : ℕ) → lines_from number texts ≡ Err k → (i : ℕ) × (k ≡ number + i) × BreaksAt texts i
unfolding lines_from
lines_from-bad [] number k h = cc h
lines_from-bad (text ∷ texts) number k h =
    elim (after_err number (line_of text) (lines_from (number + 1) texts) k h) [
      | inl bad ↦ (0, omega (arith, bad.1), record { within = omega arith; before = ([], tt); broken = no_event text [] bad.0 })
      | inr good ↦
          let p = lines_from-bad texts (number + 1) k good.2 in
          let e = p.1 in (
            suc p.0,
            omega arith,
            record {
              within = omega (arith, p.2.within);
              before = (good.0 ∷ p.2.before.0, (line_of-is text good.0 good.1, p.2.before.1));
              broken = λ h. p.2.broken (event_first text (take (suc p.0) texts) h);
            },
          )
    ]

-- ---- a script

script_ok : (o : Option ℕ) (read : Result (List Line) ℕ) (script : Script) → script_after o read ≡ Ok script
    → (n : ℕ) × (lines : List Line) × (o ≡ Some n) × (read ≡ Ok lines) × (◌≡◌ {A = Script} (record { per_ledger = n; lines = lines }) script)
script_ok None read script h = cc h
script_ok (Some n) (Ok lines) script h = (n, lines, refl, refl, ok_same _ script h)
script_ok (Some n) (Err k) script h = cc h

script_err : (o : Option ℕ) (read : Result (List Line) ℕ) (k : ℕ) → script_after o read ≡ Err k → ((o ≡ None) × (1 ≡ k)) ⊎ ((n : ℕ) × (o ≡ Some n) × (read ≡ Err k))
script_err None read k h = inl (refl, cc h)
script_err (Some n) (Ok lines) k h = cc h
script_err (Some n) (Err j) k h = inr (n, refl, cc h)

pub script_of_texts-is : (texts : List (List ℕ)) (script : Script) → script_of_texts texts ≡ Ok script → SpellScript texts script
unfolding script_of_texts
script_of_texts-is [] script h = cc h
script_of_texts-is (first ∷ rest) script h =
    let p = script_ok (init_of first) (lines_from 2 rest) script h in
    let fact : SpellScript (first ∷ rest) (record { per_ledger = p.0; lines = p.1 }) = (init_of-is first p.0 p.2, lines_from-is rest 2 p.1 p.3) in
    subst (SpellScript (first ∷ rest)) p.4 fact

pub script_of_texts-only : (texts : List (List ℕ)) (script : Script) → SpellScript texts script → script_of_texts texts ≡ Ok script
unfolding script_of_texts
script_of_texts-only [] script h = absurd h
script_of_texts-only (first ∷ rest) script h = rw (init_of-only first script.per_ledger h.0, lines_from-only rest 2 script.lines h.1) refl

-- line k of the texts is the first bad one
abbrev pub IsFirstBadOf : List (List ℕ) → ℕ → Type 0
IsFirstBadOf texts k = (1 ≤ k) × (k ≤ length texts) × Begin (take (k - 1) texts) × (Begin (take k texts) → ⊥)

no_start : (first : List ℕ) (rest : List (List ℕ)) → init_of first ≡ None → Begin (first ∷ rest) → ⊥
no_start first rest none h = cc (sym none ∙ init_of-only first h.0.per_ledger h.1.0)

start_events : (first : List ℕ) (rest : List (List ℕ)) → Begin (first ∷ rest) → AreEvents rest
start_events first rest h = (h.0.lines, h.1.1)

first_is_bad : (first : List ℕ) (rest : List (List ℕ)) → init_of first ≡ None → IsFirstBadOf (first ∷ rest) 1
first_is_bad first rest none = (omega arith, omega arith, tt, no_start first [] none)

later_is_bad : (first : List ℕ) (rest : List (List ℕ)) (n i : ℕ) → init_of first ≡ Some n → BreaksAt rest i → IsFirstBadOf (first ∷ rest) (suc (suc i))
later_is_bad first rest n i some breaks =
    let back : suc i ≡ suc (suc i) - 1 = omega arith in
    let start : Begin (take (suc i) (first ∷ rest)) = (record { per_ledger = n; lines = breaks.before.0 }, (init_of-is first n some, breaks.before.1)) in
    (omega arith, omega (arith, breaks.within), subst (λ (m : ℕ). Begin (take m (first ∷ rest))) back start, λ h. breaks.broken (start_events first (take (suc i) rest) h))

pub script_of_texts-bad : (texts : List (List ℕ)) (k : ℕ) → 0 < length texts → script_of_texts texts ≡ Err k → IsFirstBadOf texts k
unfolding script_of_texts
script_of_texts-bad [] k some h = absurd (omega arith)
script_of_texts-bad (first ∷ rest) k some h =
    elim (script_err (init_of first) (lines_from 2 rest) k h) [
      | inl bad ↦ subst (IsFirstBadOf (first ∷ rest)) bad.1 (first_is_bad first rest bad.0)
      | inr good ↦
          let p = lines_from-bad rest 2 k good.2 in
          let number : suc (suc p.0) ≡ k = omega (arith, p.1) in
          subst (IsFirstBadOf (first ∷ rest)) number (later_is_bad first rest good.0 p.0 good.1 p.2)
    ]

-- ---- one reading

AreLines-take : (texts : List (List ℕ)) (lines : List Line) (n : ℕ) → AreLines texts lines → AreLines (take n texts) (take n lines)
AreLines-take texts lines zero h = tt
AreLines-take [] [] (suc n) h = tt
AreLines-take [] (line ∷ lines) (suc n) h = absurd h
AreLines-take (text ∷ texts) [] (suc n) h = absurd h
AreLines-take (text ∷ texts) (line ∷ lines) (suc n) h = (h.0, AreLines-take texts lines n h.1)

Begin-take : (texts : List (List ℕ)) (n : ℕ) → Begin texts → Begin (take n texts)
Begin-take texts zero h = tt
Begin-take [] (suc n) h = tt
Begin-take (first ∷ rest) (suc n) h = (record { per_ledger = h.0.per_ledger; lines = take n h.0.lines }, (h.1.0, AreLines-take rest h.0.lines n h.1.1))

take_shorter : {A : Type 0} (m n : ℕ) (xs : List A) → m ≤ n → take m (take n xs) ≡ take m xs
take_shorter zero n xs h = refl
take_shorter (suc m) zero xs h = absurd (omega arith)
take_shorter (suc m) (suc n) [] h = refl
take_shorter (suc m) (suc n) (x ∷ xs) h = ap (λ rest. x ∷ rest) (take_shorter m n xs (omega arith))

Begin-shorter : (texts : List (List ℕ)) (m n : ℕ) → m ≤ n → Begin (take n texts) → Begin (take m texts)
Begin-shorter texts m n h start = subst Begin (take_shorter m n texts h) (Begin-take (take n texts) m start)

whole_starts : (texts : List (List ℕ)) (script : Script) → SpellScript texts script → Begin texts
whole_starts [] script h = tt
whole_starts (first ∷ rest) script h = (script, h)

pub no_bad_line : (texts : List (List ℕ)) (script : Script) (k : ℕ) → SpellScript texts script → IsFirstBadOf texts k → ⊥
no_bad_line texts script k h bad = bad.3 (Begin-take texts k (whole_starts texts script h))

pub one_bad_line : (texts : List (List ℕ)) (j k : ℕ) → IsFirstBadOf texts j → IsFirstBadOf texts k → j ≡ k
one_bad_line texts j k p q =
    elim (cases_lt j k) [
      | inl less ↦ absurd (p.3 (Begin-shorter texts j (k - 1) (omega arith) q.2))
      | inr more ↦
          elim (cases_lt k j) [
            | inl less ↦ absurd (q.3 (Begin-shorter texts k (j - 1) (omega arith) p.2))
            | inr same ↦ omega arith
          ]
    ]

bad_only_by : (texts : List (List ℕ)) (k : ℕ) (read : Result Script ℕ) → 0 < length texts → script_of_texts texts ≡ read → IsFirstBadOf texts k → script_of_texts texts ≡ Err k
bad_only_by texts k (Ok script) some e bad = absurd (no_bad_line texts script k (script_of_texts-is texts script e) bad)
bad_only_by texts k (Err j) some e bad = e ∙ ap Err (one_bad_line texts j k (script_of_texts-bad texts j some e) bad)

pub script_of_texts-bad_only : (texts : List (List ℕ)) (k : ℕ) → 0 < length texts → IsFirstBadOf texts k → script_of_texts texts ≡ Err k
script_of_texts-bad_only texts k some bad = bad_only_by texts k (script_of_texts texts) some refl bad

-- there is a line
pub some_text : (bytes : List ℕ) → 0 < length (texts_of bytes)
some_text bytes = omega (arith, length-slice_split is_line_feed (strip_last 10 bytes))

-- ---- what a reader returned

pub found_by : (bytes : List ℕ) (result : Result Script ScriptFault) → ReadsScript result (script_of bytes) → IfOk result (λ script. IsScript bytes script)
found_by bytes (Ok script) h = script_of_texts-is (texts_of bytes) script h
found_by bytes (Err fault) h = tt

pub only_by : (bytes : List ℕ) (result : Result Script ScriptFault) → ReadsScript result (script_of bytes) → (script : Script) → IsScript bytes script → ReadsScript result (Ok script)
only_by bytes result h script is = subst (ReadsScript result) (script_of_texts-only (texts_of bytes) script is) h

pub bad_by : (bytes : List ℕ) (result : Result Script ScriptFault) → ReadsScript result (script_of bytes) → (k : ℕ) → result ≡ Err (BadLine k) → IsFirstBad bytes k
bad_by bytes result h k e = script_of_texts-bad (texts_of bytes) k (some_text bytes) (subst (λ (r : Result Script ScriptFault). ReadsScript r (script_of bytes)) e h)

pub bad_only_of : (bytes : List ℕ) (result : Result Script ScriptFault) → ReadsScript result (script_of bytes) → (k : ℕ) → IsFirstBad bytes k → ReadsScript result (Err k)
bad_only_of bytes result h k bad = subst (ReadsScript result) (script_of_texts-bad_only (texts_of bytes) k (some_text bytes) bad) h

-- ---- the laws

pub one_line : (text : List ℕ) (a b : Line) → IsLine text a → IsLine text b → a ≡ b
one_line text a b p q = some_same a b (sym (line_of-only text a p) ∙ line_of-only text b q)

pub one_script : (bytes : List ℕ) (a b : Script) → IsScript bytes a → IsScript bytes b → a ≡ b
one_script bytes a b p q = ok_same a b (sym (script_of_texts-only (texts_of bytes) a p) ∙ script_of_texts-only (texts_of bytes) b q)

read_either : (bytes : List ℕ) (read : Result Script ℕ) → script_of bytes ≡ read → ((script : Script) × IsScript bytes script) ⊎ ((k : ℕ) × IsFirstBad bytes k)
read_either bytes (Ok script) e = inl (script, script_of_texts-is (texts_of bytes) script e)
read_either bytes (Err k) e = inr (k, script_of_texts-bad (texts_of bytes) k (some_text bytes) e)

pub script_or_bad : (bytes : List ℕ) → ((script : Script) × IsScript bytes script) ⊎ ((k : ℕ) × IsFirstBad bytes k)
script_or_bad bytes = read_either bytes (script_of bytes) refl

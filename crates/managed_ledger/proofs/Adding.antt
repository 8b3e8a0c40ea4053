-- The entries of a body are read one after another.
use Rattle.std.proofs.Common.{◌≡◌, ◌≢◌, ℕ, ◌+◌, ◌-◌, ◌^◌, ◌<◌, ◌≤◌, List, [], ◌∷◌, ◌++◌, length, map, take, drop, Option, None, Some, Ok, refl, sym, ◌∙◌, ap, subst, arith, append_assoc, length-append, length-take, length-drop}
use Rattle.std.proofs.lemmas.Grind.{flat_map-append}
use Rattle.std.proofs.lemmas.List.{drop-drop, append-nil, take_all, length-map}
use Rattle.gated_log.specs.Batches.{sized}
use Rattle.commands.specs.Metadata.{entry_of}
use Rattle.managed_ledger.specs.declared.first_entry.FirstEntry.{FirstEntry}
use Rattle.managed_ledger.specs.declared.place.Place.{Place}
use Rattle.managed_ledger.specs.Entries.{Entries, IsEntry, AreEntries, body_of}
use Rattle.managed_ledger.specs.Bodies.{IsBody, IsFirst, BeginsWith}
use Rattle.managed_ledger.specs.Ledgers.{places_in}
use Rattle.managed_ledger.proofs.FirstEntry.{begins}
use Rattle.managed_ledger.specs.Places.{length_sized, length-places_in}

pub body_push : (done : Entries) (entry : List ℕ) → body_of (done ++ entry ∷ []) ≡ body_of done ++ sized entry
body_push done entry = flat_map-append sized done (entry ∷ []) ∙ ap (λ (l : List ℕ). body_of done ++ l) (append-nil (sized entry))

pub each_push : (done : Entries) (entry : List ℕ) → AreEntries done → IsEntry entry → AreEntries (done ++ entry ∷ [])
each_push [] entry each is = (is, tt)
each_push (e ∷ done) entry each is = (each.0, each_push done entry each.1 is)

pub places_push : (at : ℕ) (done : Entries) (entry : List ℕ) → places_in at (map length (done ++ entry ∷ [])) ≡ places_in at (map length done) ++ record { offset = at + length (body_of done) + 4; size = length entry } ∷ []
places_push at [] entry =
    let here : at + 4 ≡ at + 0 + 4 = omega arith in
    ap (λ (n : ℕ). (record { offset = n; size = length entry }) ∷ []) here
places_push at (e ∷ done) entry =
    let here : at + 4 + length e + length (body_of done) + 4 ≡ at + length (body_of (e ∷ done)) + 4 = omega (arith, length_sized e, length-append (sized e) (body_of done)) in
    let first : Place = record { offset = at + 4; size = length e } in
    ap (λ (l : List Place). first ∷ l) (places_push (at + 4 + length e) done entry ∙ ap (λ (n : ℕ). places_in (at + 4 + length e) (map length done) ++ (record { offset = n; size = length entry }) ∷ []) here)

-- so far these entries were read, up to this offset
pub record Adding (body : List ℕ) (start first : ℕ) (old : List Place) (at : ℕ) (places : List Place) : Type 0 where
  pub done : Entries
  pub within : at ≤ length body
  pub bytes : body ≡ body_of done ++ drop at body
  pub at_is : at ≡ length (body_of done)
  pub each : AreEntries done
  pub places_are : places ≡ old ++ places_in start (map length done)
  pub few : first + length places ≤ 2 ^ 62
  pub only : (all : Entries) → IsBody body all → (more : Entries) × (all ≡ done ++ more) × (drop at body ≡ body_of more)

pub adding_none : (body : List ℕ) (start first : ℕ) (old : List Place) → first + length old ≤ 2 ^ 62 → Adding body start first old 0 old
adding_none body start first old few = record {
  done = [];
  within = omega arith;
  bytes = refl;
  at_is = refl;
  each = tt;
  places_are = sym (append-nil old);
  few = few;
  only = λ all is. (all, refl, is.bytes);
}

-- another reading has the same entry here
same_entry : (bytes entry rest : List ℕ) (more : Entries) → 0 < length bytes → IsEntry entry → bytes ≡ sized entry ++ rest → AreEntries more → bytes ≡ body_of more → (behind : Entries) × (more ≡ entry ∷ behind) × (rest ≡ body_of behind)
same_entry bytes entry rest [] some entry_is is each is' = absurd (omega (arith, some, ap length is'))
same_entry bytes entry rest (m ∷ more) some entry_is is each is' =
    let fits : length entry < 2 ^ 32 = omega (arith, entry_is.no_longer) in
    let fits' : length m < 2 ^ 32 = omega (arith, each.0.no_longer) in
    let one = begins bytes entry rest fits is in
    let other = begins bytes m (body_of more) fits' is' in
    let size : length m ≡ length entry = sym other.said_is ∙ one.said_is in
    let head : m ≡ entry = sym other.entry_is ∙ ap (λ (n : ℕ). take n (drop 4 bytes)) size ∙ one.entry_is in
    let tail : rest ≡ body_of more = sym one.rest_is ∙ ap (λ (n : ℕ). drop (4 + n) bytes) (sym size) ∙ other.rest_is in
    (more, ap (λ (e : List ℕ). e ∷ more) head, tail)

each_behind : (done more : Entries) → AreEntries (done ++ more) → AreEntries more
each_behind [] more each = each
each_behind (e ∷ done) more each = each_behind done more each.1

module _ (body : List ℕ) (start first : ℕ) (old : List Place) (at : ℕ) (places : List Place) (so_far : Adding body start first old at places) (some : at < length body) where
  left : 0 < length (drop at body)
  left = omega (arith, some, length-drop at body)

  -- what is left of a body of these entries
  behind : (all : Entries) → IsBody body all → (more : Entries) × (all ≡ so_far.done ++ more) × (drop at body ≡ body_of more) × AreEntries more
  behind all is =
      let o = so_far.only all is in
      (o.0, o.1, o.2, each_behind so_far.done o.0 (subst (λ (l : Entries). AreEntries l) o.1 is.each))

  pub adding_unformed : ((entry rest : List ℕ) → IsEntry entry → drop at body ≢ sized entry ++ rest) → (all : Entries) → IsBody body all → ⊥
  adding_unformed none all is = nothing (behind all is).0 (behind all is).2 (behind all is).3
    where
      nothing : (more : Entries) → drop at body ≡ body_of more → AreEntries more → ⊥
      nothing [] same each = absurd (omega (arith, left, ap length same))
      nothing (e ∷ more) same each = none e (body_of more) each.0 same

  pub adding_full : 2 ^ 62 ≤ first + length places → (all : Entries) → IsBody body all → ¬ (first + (length old + length all) ≤ 2 ^ 62)
  adding_full full all is few = too_many (behind all is).0 (behind all is).1 (behind all is).2
    where
      counted : length places ≡ length old + length so_far.done
      counted = omega (arith, ap length so_far.places_are, length-append old (places_in start (map length so_far.done)), length-places_in start (map length so_far.done), length-map so_far.done (λ (e : List ℕ). length e))

      too_many : (more : Entries) → all ≡ so_far.done ++ more → drop at body ≡ body_of more → ⊥
      too_many [] same none = absurd (omega (arith, left, ap length none))
      too_many (e ∷ more) same some_left = absurd (omega (arith, counted, full, few, ap length same, length-append so_far.done (e ∷ more)))

  pub adding_more : (size : ℕ) → BeginsWith size (drop at body) → first + length places < 2 ^ 62
      → Adding body start first old (at + (4 + size)) (places ++ record { offset = start + at + 4; size = size } ∷ [])
  adding_more size next few = record {
    done = so_far.done ++ entry ∷ [];
    within = omega (arith, next.there, length-drop at body);
    bytes = so_far.bytes ∙ ap (λ (l : List ℕ). body_of so_far.done ++ l) bytes_here ∙ sym (append_assoc (body_of so_far.done) (sized entry) (drop (at + (4 + size)) body))
        ∙ ap (λ (l : List ℕ). l ++ drop (at + (4 + size)) body) (sym (body_push so_far.done entry));
    at_is = omega (arith, so_far.at_is, entry_size, length_sized entry, ap length (body_push so_far.done entry), length-append (body_of so_far.done) (sized entry));
    each = each_push so_far.done entry so_far.each next.is_entry;
    places_are = ap (λ (l : List Place). l ++ place ∷ []) so_far.places_are ∙ append_assoc old (places_in start (map length so_far.done)) (place ∷ [])
        ∙ ap (λ (l : List Place). old ++ l) (ap (λ (p : Place). places_in start (map length so_far.done) ++ p ∷ []) place_is ∙ sym (places_push start so_far.done entry));
    few = omega (arith, few, length-append places (place ∷ []));
    only = λ all is.
        let o = behind all is in
        let s = same_entry (drop at body) entry (drop (at + (4 + size)) body) o.0 left next.is_entry bytes_here o.3 o.2 in
        (s.0, o.1 ∙ ap (λ (l : Entries). so_far.done ++ l) s.1 ∙ sym (append_assoc so_far.done (entry ∷ []) s.0), s.2);
  }
    where
      entry : List ℕ
      entry = take size (drop 4 (drop at body))

      entry_size : length entry ≡ size
      entry_size = omega (arith, next.there, length-take size (drop 4 (drop at body)), length-drop 4 (drop at body))

      place : Place
      place = record { offset = start + at + 4; size = size }

      place_is : place ≡ record { offset = start + length (body_of so_far.done) + 4; size = length entry }
      place_is =
          let offset_is : start + at + 4 ≡ start + length (body_of so_far.done) + 4 = omega (arith, so_far.at_is) in
          (λ i. record { offset = offset_is i; size = (sym entry_size) i })

      bytes_here : drop at body ≡ sized entry ++ drop (at + (4 + size)) body
      bytes_here = next.bytes_are ∙ ap (λ (l : List ℕ). sized entry ++ l) (drop-drop (4 + size) at body)

-- one entry more
adding_step : (body : List ℕ) (start first : ℕ) (old : List Place) (at : ℕ) (places : List Place) (so_far : Adding body start first old at places) → at < length body → (size : ℕ) → BeginsWith size (drop at body) → first + length places < 2 ^ 62
    → (places' : List Place) → places' ≡ places ++ record { offset = start + at + 4; size = size } ∷ [] → Adding body start first old (at + (4 + size)) places'
unfolding adding_more
adding_step body start first old at places so_far some size next few places' is =
    let more = adding_more body start first old at places so_far some size next few in
    record {
      done = so_far.done ++ take size (drop 4 (drop at body)) ∷ [];
      within = more.within;
      bytes = more.bytes;
      at_is = more.at_is;
      each = more.each;
      places_are = is ∙ more.places_are;
      few = subst (λ (l : List Place). first + length l ≤ 2 ^ 62) (sym is) more.few;
      only = more.only;
    }

-- at the end
pub adding_done : (body : List ℕ) (start first : ℕ) (old : List Place) (at : ℕ) (places : List Place) → Adding body start first old at places → length body ≤ at → length body ≤ 33554432
    → (entries : Entries) × IsBody body entries × (places ≡ old ++ places_in start (map length entries))
adding_done body start first old at places so_far end fits =
    let none : drop at body ≡ [] = nothing_left (drop at body) (omega (arith, end, length-drop at body)) in
    (so_far.done, record { bytes = so_far.bytes ∙ ap (λ (l : List ℕ). body_of so_far.done ++ l) none ∙ append-nil (body_of so_far.done); each = so_far.each; fits = fits }, so_far.places_are)
  where
    nothing_left : (l : List ℕ) → length l ≤ 0 → l ≡ []
    nothing_left [] le = refl
    nothing_left (x ∷ l) le = absurd (omega (arith, le))

-- and a fold that held some entries has taken these behind them
abbrev pub Handing : (Entries → Type 0) → (Entries → Type 0) → List ℕ → ℕ → ℕ → List Place → ℕ → List Place → Type 0
Handing held holds body start first old at places = (so_far : Adding body start first old at places) × ((before : Entries) → held before → holds (before ++ so_far.done))

pub handing_none : (held : Entries → Type 0) (body : List ℕ) (start first : ℕ) (old : List Place) → first + length old ≤ 2 ^ 62 → Handing held held body start first old 0 old
unfolding adding_none
handing_none held body start first old few = (adding_none body start first old few, λ before is. subst held (sym (append-nil before)) is)

pub handing_step : (held holds holds' : Entries → Type 0) (body : List ℕ) (start first : ℕ) (old : List Place) (at : ℕ) (places : List Place) (so_far : Handing held holds body start first old at places) → at < length body → (size : ℕ) → BeginsWith size (drop at body)
    → first + length places < 2 ^ 62 → (places' : List Place) → places' ≡ places ++ record { offset = start + at + 4; size = size } ∷ [] → (handed : List ℕ) → handed ≡ take size (drop 4 (drop at body))
    → ((entries : Entries) → holds entries → holds' (entries ++ handed ∷ [])) → Handing held holds' body start first old (at + (4 + size)) places'
unfolding adding_step
handing_step held holds holds' body start first old at places so_far some size next few places' is handed handed_is takes = (
  adding_step body start first old at places so_far.0 some size next few places' is,
  λ before before_is. subst holds' (ap (λ (e : List ℕ). (before ++ so_far.0.done) ++ e ∷ []) handed_is ∙ append_assoc before so_far.0.done (take size (drop 4 (drop at body)) ∷ [])) (takes (before ++ so_far.0.done) (so_far.1 before before_is)),
)

pub handing_done : (held holds : Entries → Type 0) (body : List ℕ) (start first : ℕ) (old : List Place) (at : ℕ) (places : List Place) → Handing held holds body start first old at places → length body ≤ at → length body ≤ 33554432
    → (before : Entries) → held before → (entries : Entries) × IsBody body entries × (places ≡ old ++ places_in start (map length entries)) × holds (before ++ entries)
unfolding adding_done
handing_done held holds body start first old at places so_far end fits before before_is =
    let done = adding_done body start first old at places so_far.0 end fits in
    (so_far.0.done, done.1, done.2, so_far.1 before before_is)

-- what is handed over
pub handed_entry : (at : ℕ) (body : List ℕ) (size : ℕ)
    → take size (take (length (take (length body - at) (drop at body)) - 4) (drop 4 (take (length body - at) (drop at body)))) ≡ take size (drop 4 (drop at body))
handed_entry at body size =
    let all : take (length body - at) (drop at body) ≡ drop at body = take_all (length body - at) (drop at body) (omega (arith, length-drop at body)) in
    ap (λ (l : List ℕ). take size (take (length l - 4) (drop 4 l))) all ∙ ap (λ (l : List ℕ). take size l) (take_all (length (drop at body) - 4) (drop 4 (drop at body)) (omega (arith, length-drop 4 (drop at body))))

sliced : (at : ℕ) (body : List ℕ) → take (length body - at) (drop at body) ≡ drop at body
sliced at body = take_all (length body - at) (drop at body) (omega (arith, length-drop at body))

-- the first entry of a slice
abbrev There : List ℕ → FirstEntry → Type 0
There bytes first = BeginsWith first.size bytes × (entry_of (take first.size (drop 4 bytes)) ≡ Ok first.metadata)

pub first_there : (at : ℕ) (body : List ℕ) (found : Option FirstEntry) (first : FirstEntry) → found ≡ Some first → IsFirst (take (length body - at) (drop at body)) found → There (drop at body) first
first_there at body (Some f) first is read = let same : f ≡ first = cc in subst (λ (k : FirstEntry). There (drop at body) k) same (subst (λ (l : List ℕ). There l f) (sliced at body) read)
first_there at body None first is read = cc

pub first_not_there : (at : ℕ) (body : List ℕ) (found : Option FirstEntry) → found ≡ None → IsFirst (take (length body - at) (drop at body)) found → (entry rest : List ℕ) → IsEntry entry → drop at body ≢ sized entry ++ rest
first_not_there at body None is first = subst (λ (l : List ℕ). (entry rest : List ℕ) → IsEntry entry → l ≢ sized entry ++ rest) (sliced at body) first
first_not_there at body (Some n) is first = cc

-- its metadata is that of what is handed over
pub handed_meta : (at : ℕ) (body handed : List ℕ) (first : FirstEntry) → There (drop at body) first → handed ≡ take first.size (drop 4 (drop at body)) → entry_of handed ≡ Ok first.metadata
handed_meta at body handed first is same = ap entry_of same ∙ is.1

-- A whole log is written over a file: all behind its closed gate, and then the gate.
use Rattle.std.proofs.Common.{◌≡◌, ◌≢◌, ◌⊎◌, inl, inr, ℕ, ◌+◌, ◌-◌, List, [], ◌∷◌, ◌++◌, length, get_or, take, drop, refl, sym, ◌∙◌, ap, subst, arith, append_assoc, length-append}
use Rattle.std.proofs.lemmas.Bool.{cases_eq}
use Rattle.std.proofs.lemmas.Grind.{common_steps}
use Rattle.disk.specs.declared.file_id.FileId.{FileId}
use Rattle.disk.specs.Disk.{Disk, Image, Changes, Overwritten, Torn, Synced, Leaves, After, Outcome, Undisturbed}
use Rattle.disk.specs.Moments.{joins, weaken, calm_both}
use Rattle.disk.specs.Areas.{Within}
use Rattle.disk.specs.declared.file_id.Folder.{Folder}
use Rattle.disk.specs.declared.file_id.Folder.TheVariants.{One, Two}
use Rattle.gated_log.specs.declared.label.Label.{Label}
use Rattle.gated_log.specs.Labels.{header, header_size, IsLabel}
use Rattle.gated_log.specs.Batches.{Bodies, batches, opened, AllFit, IsLog}
use Rattle.gated_log.specs.Headers.{HasOpenHeader, IsShut}
use Rattle.gated_log.specs.Sizes.{length-opened}
use Rattle.gated_log.specs.Torn.{torn_behind, written_behind, torn_gate, written_gate}

-- the header but for its gate, the batches and a closed gate
abbrev pub laid : Folder → Label → Bodies → List ℕ
laid folder label bodies = drop 1 (header folder 1 label) ++ (batches bodies ++ 0 ∷ [])

behind_gate : (folder : Folder) (label : Label) → length (drop 1 (header folder 1 label)) ≡ header_size folder - 1
behind_gate One label = omega arith
behind_gate Two label = omega arith

pub laid_bytes : (given folder : Folder) (label : Label) (bodies : Bodies) (old new room : List ℕ) → given ≡ folder → new ≡ drop 1 (header given 1 label) ++ drop (length (drop 1 (header given 1 label))) old → old ≡ room
    → drop (header_size given - 1) room ≡ batches bodies ++ 0 ∷ [] → new ≡ laid folder label bodies
laid_bytes given folder label bodies old new room one put same is =
    put
    ∙ ap (λ (l : List ℕ). drop 1 (header given 1 label) ++ drop (length (drop 1 (header given 1 label))) l) same
    ∙ ap (λ (n : ℕ). drop 1 (header given 1 label) ++ drop n room) (behind_gate given label)
    ∙ ap (λ (l : List ℕ). drop 1 (header given 1 label) ++ l) is
    ∙ ap (λ (f : Folder). laid f label bodies) one

pub length-laid : (folder : Folder) (label : Label) (bodies : Bodies) → length (laid folder label bodies) ≡ length (opened folder label bodies)
length-laid One label bodies = omega (arith, length-append (drop 1 (header One 1 label)) (batches bodies ++ 0 ∷ []), length-append (batches bodies) (0 ∷ []), length-opened One label bodies)
length-laid Two label bodies = omega (arith, length-append (drop 1 (header Two 1 label)) (batches bodies ++ 0 ∷ []), length-append (batches bodies) (0 ∷ []), length-opened Two label bodies)

-- what was written over all of it is all of it
pub whole_of : (len : ℕ) (put items : List ℕ) → length put ≡ len → length items ≡ len → take len (put ++ drop (length put) items) ≡ put
whole_of len put items long items_long = grind (arith, common_steps)

-- the log, but for its gate
pub record IsLaidOut (folder : Folder) (label : Label) (bodies : Bodies) (file : List ℕ) : Type 0 where
  pub gate : ℕ
  pub rest : List ℕ
  pub closed : gate ≢ 1
  pub bytes : file ≡ gate ∷ (drop 1 (header folder 1 label) ++ (batches bodies ++ 0 ∷ rest))

pub not_open : (folder : Folder) (gate : ℕ) (rest file : List ℕ) → gate ≢ 1 → file ≡ gate ∷ rest → ¬ HasOpenHeader folder file
not_open folder gate rest file closed is = λ is_open. closed (ap (λ (l : List ℕ). get_or l 0 0) (sym is ∙ is_open.bytes))

module _ (folder : Folder) (label : Label) (bodies : Bodies) (small : IsLabel folder label) (fit : AllFit bodies) where
  pub laid_out : (old new : List ℕ) → IsShut old → Overwritten 1 (laid folder label bodies) old new → IsLaidOut folder label bodies new
  laid_out old new shut is =
      let tail = drop (1 + length (laid folder label bodies)) (shut.gate ∷ shut.rest) in
      record {
        gate = shut.gate;
        rest = tail;
        closed = shut.closed;
        bytes =
            written_behind [] shut.rest shut.gate 0 refl (laid folder label bodies) new (subst (λ (f : List ℕ). Overwritten 1 (laid folder label bodies) f new) shut.bytes is)
            ∙ ap (λ (l : List ℕ). shut.gate ∷ l) (append_assoc (drop 1 (header folder 1 label)) (batches bodies ++ 0 ∷ []) tail)
            ∙ ap (λ (l : List ℕ). shut.gate ∷ (drop 1 (header folder 1 label) ++ l)) (append_assoc (batches bodies) (0 ∷ []) tail);
      }

  whole : (gate : ℕ) (rest file : List ℕ) → gate ≡ 1 → file ≡ gate ∷ (drop 1 (header folder 1 label) ++ (batches bodies ++ 0 ∷ rest)) → IsLog folder label bodies file
  unfolding opened
  whole gate rest file is_open bytes = record {
    gate = 0;
    rest = rest;
    closed = λ e. cc;
    in_range = small;
    fit = fit;
    bytes = bytes ∙ ap (λ (g : ℕ). g ∷ (drop 1 (header folder 1 label) ++ (batches bodies ++ 0 ∷ rest))) is_open ∙ sym (append_assoc (header folder 1 label) (batches bodies) (0 ∷ rest));
  }

  pub gate_torn : (old new : List ℕ) → IsLaidOut folder label bodies old → Torn 0 1 old new → (¬ HasOpenHeader folder new) ⊎ IsLog folder label bodies new
  gate_torn old new is torn =
      let rest = drop 1 (header folder 1 label) ++ (batches bodies ++ 0 ∷ is.rest) in
      let bytes = torn_gate [] rest is.gate 0 refl new (subst (λ (f : List ℕ). Torn 0 1 f new) is.bytes torn) in
      elim (cases_eq (get_or new 0 0) 1) [
        | inl is_open ↦ inr (whole (get_or new 0 0) is.rest new is_open bytes)
        | inr closed ↦ inl (not_open folder (get_or new 0 0) rest new closed bytes)
      ]

  pub gate_written : (old new : List ℕ) → IsLaidOut folder label bodies old → Overwritten 0 (1 ∷ []) old new → IsLog folder label bodies new
  gate_written old new is written =
      whole 1 is.rest new refl (written_gate [] (drop 1 (header folder 1 label) ++ (batches bodies ++ 0 ∷ is.rest)) is.gate 0 refl 1 new (subst (λ (f : List ℕ). Overwritten 0 (1 ∷ []) f new) is.bytes written))

  module _ (file : FileId) (d0 : Disk) (synced : Synced file d0) (shut : IsShut (d0.seen file)) where
    abbrev Either : Image → Type 0
    Either c = (¬ HasOpenHeader folder (c file)) ⊎ IsLog folder label bodies (c file)

    abbrev Q : Image → Type 0
    Q = Outcome d0 (λ f. f ≡ file) Either

    -- while all behind the gate is written
    first : (d1 : Disk) (n : ℕ) → Leaves (After d0 (Changes file (Torn 1 n))) d0 d1 → Leaves Q d0 d1
    first d1 n leaves = weaken _ Q d0 d1 leaves (λ c after. record {
      from = after.0;
      left = after.1;
      elsewhere = after.2.elsewhere;
      own =
          let was : Torn 1 n (d0.seen file) (c file) = subst (λ (f : List ℕ). Torn 1 n f (c file)) (synced after.0 after.1) after.2.there in
          inl (not_open folder shut.gate _ (c file) shut.closed (torn_behind [] shut.rest shut.gate 0 refl n (c file) (subst (λ (f : List ℕ). Torn 1 n f (c file)) shut.bytes was)));
    })

    pub first_within : (d1 : Disk) (n : ℕ) → Undisturbed (λ f. f ≢ file) d0 d1 → Leaves (After d0 (Changes file (Torn 1 n))) d0 d1 → Within (λ f. f ≡ file) Either d0 d1
    first_within d1 n calm leaves = record { seen = calm.seen; any_moment = first d1 n leaves }

    -- while the gate is written
    pub both_within : (d1 d2 : Disk) (n : ℕ) → Undisturbed (λ f. f ≢ file) d0 d1 → Leaves (After d0 (Changes file (Torn 1 n))) d0 d1 → IsLaidOut folder label bodies (d1.seen file) → Synced file d1
        → Undisturbed (λ f. f ≢ file) d1 d2 → Leaves (After d1 (Changes file (Torn 0 1))) d1 d2 → Within (λ f. f ≡ file) Either d0 d2
    both_within d1 d2 n calm1 leaves1 is now_synced calm2 leaves2 =
        let so_far = first d1 n leaves1 in
        record {
          seen = (calm_both _ d0 d1 d2 calm1 calm2).seen;
          any_moment = joins Q _ Q d0 d1 d2 so_far leaves2 (λ c q. q) (λ c after.
              let was = so_far.now after.0 after.1 in
              record {
                from = was.from;
                left = was.left;
                elsewhere = λ f other. after.2.elsewhere f other ∙ was.elsewhere f other;
                own = gate_torn (d1.seen file) (c file) is (subst (λ (f : List ℕ). Torn 0 1 f (c file)) (now_synced after.0 after.1) after.2.there);
              });
        }

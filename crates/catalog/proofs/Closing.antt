-- The header of the list of topics of a folder of version 1 is closed.
use Rattle.std.proofs.Common.{◌≡◌, ◌≢◌, ◌⊎◌, inl, inr, ⊎_elim, ℕ, List, [], ◌∷◌, get_or, drop, refl, sym, ◌∙◌, ap, subst}
use Rattle.std.proofs.lemmas.Bool.{cases_eq}
use Rattle.disk.specs.declared.file_id.FileId.{FileId}
use Rattle.disk.specs.declared.file_id.Folder.{Folder}
use Rattle.disk.specs.Disk.{Disk, Changes, Torn, Synced, Leaves, After, Undisturbed}
use Rattle.disk.specs.Moments.{weaken}
use Rattle.disk.specs.Areas.{Within, weaken_within}
use Rattle.gated_log.specs.Headers.{HasOpenHeader}
use Rattle.gated_log.specs.Torn.{torn_gate}
use Rattle.catalog.specs.Catalogs.{IsClosedOf, not_open}

-- a crash while the gate is written leaves the file, or all of it but a gate that isn't open
kept_or_closed : (folder : Folder) (old new : List ℕ) → HasOpenHeader folder old → Torn 0 1 old new → (new ≡ old) ⊎ IsClosedOf old new
kept_or_closed folder old new is torn =
    let bytes : new ≡ get_or new 0 0 ∷ is.rest = torn_gate [] is.rest 1 0 refl new (subst (λ (f : List ℕ). Torn 0 1 f new) is.bytes torn) in
    elim (cases_eq (get_or new 0 0) 1) [
      | inl still ↦ inl (bytes ∙ ap (λ (g : ℕ). g ∷ is.rest) still ∙ sym is.bytes)
      | inr shut ↦ inr (record { gate = get_or new 0 0; closed = shut; bytes = bytes ∙ ap (λ (l : List ℕ). get_or new 0 0 ∷ drop 1 l) (sym is.bytes) })
    ]

pub left : (folder : Folder) (file : FileId) (old new : Disk) → Synced file old → HasOpenHeader folder (old.seen file) → Undisturbed (λ f. f ≢ file) old new → Leaves (After old (Changes file (Torn 0 1))) old new
    → Within (λ f. f ≡ file) (λ c. (c file ≡ old.seen file) ⊎ IsClosedOf (old.seen file) (c file)) old new
left folder file old new synced is calm leaves = record {
  seen = calm.seen;
  any_moment = weaken _ _ old new leaves (λ c after. record {
    from = after.0;
    left = after.1;
    elsewhere = after.2.elsewhere;
    own = kept_or_closed folder (old.seen file) (c file) is (subst (λ (f : List ℕ). Torn 0 1 f (c file)) (synced after.0 after.1) after.2.there);
  });
}

pub closing : (folder : Folder) (file : FileId) (old new : Disk) → Synced file old → HasOpenHeader folder (old.seen file) → Undisturbed (λ f. f ≢ file) old new → Leaves (After old (Changes file (Torn 0 1))) old new
    → Within (λ f. f ≡ file) (λ c. (c file ≡ old.seen file) ⊎ (¬ HasOpenHeader folder (c file))) old new
closing folder file old new synced is calm leaves =
    weaken_within _ _ _ old new (λ c here. ⊎_elim (λ kept. inl kept) (λ closed. inr (not_open folder (old.seen file) (c file) closed)) here) (left folder file old new synced is calm leaves)

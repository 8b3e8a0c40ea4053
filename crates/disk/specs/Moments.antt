-- How crash clauses of calls made one after another go together.
use Rattle.std.specs.Prelude.{◌≢◌, ℕ, List, ◌≤◌, ◌^◌, length}
use Rattle.std.proofs.Common.{inl, inr, ⊎_elim, refl, sym, ◌∙◌, subst, arith}
use Rattle.disk.specs.declared.file_id.FileId.{FileId}
use Rattle.disk.specs.Disk.{Disk, Image, Same, Changes, Advances, Lawful, Leaves, After, Undisturbed, Kept}

-- before the first call
pub starts : (P : Image → Type 0) (d : Disk) → ((c : Image) → d.may_leave c → P c) → Leaves P d d
starts P d here = record { later = omega arith; now = here; since = λ t c le left. inl left }

-- one device call
pub call : (P : Image → Type 0) (step : Image → Image → Type 0) (old new : Disk) → Advances step old new → ((c : Image) → After old step c → P c) → Leaves P old new
call P step old new time here = record {
  later = time.later;
  now = λ c left. here c (time.crash c left);
  since = λ t c le left. ⊎_elim (λ was. inl was) (λ is. inr (here c (time.crash c is))) (time.nothing_else t c le left);
}

-- one call after another
pub joins : (P Q R : Image → Type 0) (old mid new : Disk) → Leaves P old mid → Leaves Q mid new → ((c : Image) → P c → R c) → ((c : Image) → Q c → R c) → Leaves R old new
joins P Q R old mid new first second p q = record {
  later = omega (arith, first.later, second.later);
  now = λ c left. q c (second.now c left);
  since = λ t c le left. ⊎_elim (λ was. ⊎_elim (λ w. inl w) (λ x. inr (p c x)) (first.since t c le was)) (λ x. inr (q c x)) (second.since t c (omega (arith, le, first.later)) left);
}

pub weaken : (P Q : Image → Type 0) (old new : Disk) → Leaves P old new → ((c : Image) → P c → Q c) → Leaves Q old new
weaken P Q old new leaves q = record {
  later = leaves.later;
  now = λ c left. q c (leaves.now c left);
  since = λ t c le left. ⊎_elim (λ was. inl was) (λ x. inr (q c x)) (leaves.since t c le left);
}

-- a step, and then a call that changes nothing
pub settles : (step : Image → Image → Type 0) (old mid new : Disk) → Advances step old mid → Advances Same mid new → Leaves (After old step) old new
settles step old mid new first second =
    joins _ _ (After old step) old mid new (call (After old step) step old mid first (λ c is. is)) (call (After mid Same) Same mid new second (λ c is. is)) (λ c is. is)
    (λ c is. subst (λ (x : Image). After old step x) (sym is.2) (first.crash is.0 is.1))

-- work on one file leaves the others alone
pub calm : (file : FileId) (change change' : List ℕ → List ℕ → Type 0) (old new : Disk) → Kept old new → Changes file change old.seen new.seen → Leaves (After old (Changes file change')) old new → Undisturbed (λ f. f ≢ file) old new
calm file change change' old new kept seen leaves = record {
  honest = kept.honest;
  seen = seen.elsewhere;
  left = λ c may. let was = leaves.now c may in (was.0, was.1, was.2.elsewhere);
}

-- one after the other
pub calm_both : (area : FileId → Type 0) (old mid new : Disk) → Undisturbed area old mid → Undisturbed area mid new → Undisturbed area old new
calm_both area old mid new first second = record {
  honest = λ h. second.honest (first.honest h);
  seen = λ f own. second.seen f own ∙ first.seen f own;
  left = λ c may.
      let mid_is = second.left c may in
      let old_is = first.left mid_is.0 mid_is.1 in
      (old_is.0, old_is.1, λ f own. mid_is.2 f own ∙ old_is.2 f own);
}

pub calm_none : (area : FileId → Type 0) (d : Disk) → Undisturbed area d d
calm_none area d = record { honest = λ h. h; seen = λ f own. refl; left = λ c may. (c, may, λ f own. refl) }

-- no file that reads give is longer
pub seen_bounded : (d : Disk) → Lawful d → (f : FileId) → length (d.seen f) ≤ 2 ^ 62
seen_bounded d law f = law.bounded d.seen f law.leaves_seen

-- The files of a node have one first fault.
use Rattle.std.proofs.Common.{◌≡◌, inl, inr, ⊎_elim, ℕ, ◌<◌, length, sym, subst, ◌∙◌, arith}
use Rattle.std.proofs.lemmas.Bool.{cases_lt}
use Rattle.disk.specs.Disk.{Image}
use Rattle.gated_log.specs.declared.refusal.Refusal.{Refusal}
use Rattle.managed_ledger.specs.Entries.{Ledger}
use Rattle.records.specs.Maps.{Kept}
use Rattle.catalog.specs.Names.{Names}
use Rattle.catalog.specs.Catalogs.{OldCounts, StandsFor}
use Rattle.catalog.specs.Folded.{IsNewestFault}
use Rattle.catalog.specs.Laws.{one_fault, no_fault}
use Rattle.node.specs.Opening.{IsTopicFault, HaveOneFault}

module _ (stands : ℕ → Image → Ledger → Kept → Type 0) (faulty : ℕ → Image → Refusal → Type 0) (one : (t : ℕ) (files : Image) (one other : Refusal) → faulty t files one → faulty t files other → one ≡ other)
    (sound : (t : ℕ) (files : Image) (ledger : Ledger) (k : Kept) (refusal : Refusal) → stands t files ledger k → ¬ faulty t files refusal) where
  -- no topic before the first one with a fault has one
  not_before : (n m : ℕ) (files : Image) (a b : Refusal) (x : IsTopicFault stands faulty n files a) (y : IsTopicFault stands faulty m files b) → ¬ (x.number < y.number)
  not_before n m files a b x y = λ low. let s = y.first x.number low in sound x.number files s.0 s.1 a s.2 x.fault

  pub topics_one : (n m : ℕ) (files : Image) (a b : Refusal) → IsTopicFault stands faulty n files a → IsTopicFault stands faulty m files b → a ≡ b
  topics_one n m files a b x y =
      let same : y.number ≡ x.number = ⊎_elim (λ low. absurd (not_before m n files b a y x low)) (λ high. ⊎_elim (λ low. absurd (not_before n m files a b x y low)) (λ high'. omega (arith, high, high')) (cases_lt x.number y.number)) (cases_lt y.number x.number) in
      one x.number files a b x.fault (subst (λ k. faulty k files b) same y.fault)

  -- so is that of the lists of both versions
  one_list_fault : (files : Image) (a b : Refusal) → IsNewestFault files a → IsNewestFault files b → a ≡ b
  one_list_fault files a b (inl x) (inl y) = x.1 ∙ sym y.1
  one_list_fault files a b (inl x) (inr y) = absurd (y.0 x.0)
  one_list_fault files a b (inr x) (inl y) = absurd (x.0 y.0)
  one_list_fault files a b (inr x) (inr y) = one_fault files a b x.1 y.1

  -- names that stand where none of version 1 counts have no fault
  list_sound : (n : ℕ) (files : Image) (names : Names) (why : Refusal) → ¬ OldCounts files → StandsFor n files names → ¬ IsNewestFault files why
  list_sound n files names why newest is (inl x) = newest x.0
  list_sound n files names why newest is (inr x) = no_fault n files names why is x.1

  pub one_first_fault : HaveOneFault stands faulty
  one_first_fault files a b (inl x) (inl y) = one_list_fault files a b x y
  one_first_fault files a b (inl x) (inr y) = absurd (list_sound y.1 files y.2 a y.0 y.3 x)
  one_first_fault files a b (inr x) (inl y) = absurd (list_sound x.1 files x.2 b x.0 x.3 y)
  one_first_fault files a b (inr x) (inr y) = topics_one (length x.2) (length y.2) files a b x.4 y.4

-- What each reply has that a topic owes.
use Rattle.std.proofs.Common.{◌≡◌, ℕ, not, List, [], ◌∷◌, map, filter, sym, ap, subst}
use Rattle.std.specs.List.{AllByRecursion}
use Rattle.commands.specs.declared.reply.Reply.{Reply}
use Rattle.reply_queues.specs.Replies.{SessionReplies, is_for, due_to, queued, collected_from}
use Rattle.topic_core.proofs.Receipts.{all-append}
use Rattle.node.specs.Moves.{Handed}
use Rattle.node.proofs.Queues.{Debt, Due, Pending, debts_to, AreWithin, by_session, debts-queued, others-queued, debts-collected, others-collected, debts-left, others-left}

abbrev pub handed : ℕ → Reply → Handed
handed who reply = record { session = who; reply = reply; entry = [] }

-- what has no entry behind it
pub same_handed : (h : Handed) → h.entry ≡ [] → handed h.session h.reply ≡ h
same_handed h plain = ap (λ (e : List ℕ). let x : Handed = record { session = h.session; reply = h.reply; entry = e } in x) (sym plain)

-- all that a session is owed has R
abbrev pub AllOwed : (ℕ → Debt → Type 0) → List SessionReplies → Type 0
AllOwed R qs = (who : ℕ) → AllByRecursion (R who) (debts_to who qs)

module _ (R : ℕ → Debt → Type 0) (qs : List SessionReplies) (all : AllOwed R qs) where
  all_in : (who : ℕ) (ds : List Debt) → ds ≡ debts_to who qs → AllByRecursion (R who) ds
  all_in who ds is = subst (λ (l : List Debt). AllByRecursion (R who) l) (sym is) (all who)

  pub queued_owed : (who : ℕ) (r : Reply) → AreWithin qs → R who (Pending r) → AllOwed R (queued who r qs)
  queued_owed who r within one = λ other. by_session (λ s. AllByRecursion (R s) (debts_to s (queued who r qs))) who other
      (subst (λ (l : List Debt). AllByRecursion (R who) l) (sym (debts-queued who r qs within)) (all-append (R who) (debts_to who qs) (Pending r ∷ []) (all who) (one, tt)))
      (λ apart. all_in other (debts_to other (queued who r qs)) (others-queued who other r qs apart))

  -- the first due reply, and the others
  module _ (who : ℕ) (r : Reply) (rs : List Reply) (is : due_to who qs ≡ r ∷ rs) where
    taken : R who (Due r) × AllByRecursion (R who) (debts_to who (collected_from who qs))
    taken = subst (λ (l : List Debt). AllByRecursion (R who) l) (debts-collected who qs r rs is) (all who)

    pub due_owed : R who (Due r)
    due_owed = taken.0

    pub collected_owed : AllOwed R (collected_from who qs)
    collected_owed = λ other. by_session (λ s. AllByRecursion (R s) (debts_to s (collected_from who qs))) who other
        taken.1
        (λ apart. all_in other (debts_to other (collected_from who qs)) (others-collected who other qs apart))

  pub left_owed : (who : ℕ) → AllOwed R (filter (λ q. not (is_for who q)) qs)
  left_owed who = λ other. by_session (λ s. AllByRecursion (R s) (debts_to s (filter (λ q. not (is_for who q)) qs))) who other
      (subst (λ (l : List Debt). AllByRecursion (R who) l) (sym (debts-left who qs)) tt)
      (λ apart. all_in other (debts_to other (filter (λ q. not (is_for who q)) qs)) (others-left who other qs apart))

  module _ (R' : ℕ → Debt → Type 0) where
    -- where each has more
    each_in : (who : ℕ) → ((d : Debt) → R who d → R' who d) → (ds : List Debt) → AllByRecursion (R who) ds → AllByRecursion (R' who) ds
    each_in who f [] every = tt
    each_in who f (d ∷ ds) every = (f d every.0, each_in who f ds every.1)

    pub each_owed : ((who : ℕ) (d : Debt) → R who d → R' who d) → AllOwed R' qs
    each_owed f = λ who. each_in who (f who) (debts_to who qs) (all who)

    -- where each is changed
    turned_in : (g : Debt → Debt) (who : ℕ) → ((d : Debt) → R who d → R' who (g d)) → (ds : List Debt) → AllByRecursion (R who) ds → AllByRecursion (R' who) (map (λ d. g d) ds)
    turned_in g who f [] every = tt
    turned_in g who f (d ∷ ds) every = (f d every.0, turned_in g who f ds every.1)

    pub turned_owed : (g : Debt → Debt) (others : List SessionReplies) → ((who : ℕ) → debts_to who others ≡ map (λ d. g d) (debts_to who qs)) → ((who : ℕ) (d : Debt) → R who d → R' who (g d)) → AllOwed R' others
    turned_owed g others same f = λ who. subst (λ (l : List Debt). AllByRecursion (R' who) l) (sym (same who)) (turned_in g who (f who) (debts_to who qs) (all who))

-- Between two moves: whose turn each reply is, and that each promise that was told or is due lasts.
use Rattle.std.proofs.Common.{◌≡◌, ◌∙◌, ℕ, true, false, cond, not, Option, Some, None, List, [], ◌∷◌, ◌++◌, length, map, filter, take, drop, refl, sym, ap, subst, append-nil}
use Rattle.std.proofs.lemmas.Bool.{eq-eqb}
use Rattle.std.specs.List.{AllByRecursion}
use Rattle.commands.specs.declared.reply.Reply.{Reply}
use Rattle.records.specs.declared.record.Record.{Record}
use Rattle.records.specs.Maps.{Kept}
use Rattle.records.specs.Records.{after_all}
use Rattle.subscriptions.proofs.Kept.{after_parts}
use Rattle.reply_queues.specs.Replies.{SessionReplies, is_for, due_to, queued, collected_from, hand_on, make_due, take_back, refuse_pending}
use Rattle.topic_core.proofs.Receipts.{all-append}
use Rattle.node.specs.Moves.{Handed}
use Rattle.node.specs.Promising.{Promise, IsKept, Owed, Word, Release, is_released, unless_released, released, with_owed, is_to, first_owed, without_first, is_acceptance, promised, promised_by, told, IsInTurn}
use Rattle.node.proofs.Lasting.{Lasts, LastsBehind, lasts_front, lasts_behind, behind_last, behind_all}
use Rattle.node.proofs.Queues.{Debt, Due, HandedOn, Pending, hands_on, makes_due, takes_back, refuses, debts_to, AreWithin, by_session, debts-queued, others-queued, debts-collected, others-collected, debts-left, others-left, debts-handed_on, debts-made_due, debts-taken_back, debts-refused, debts-due}
use Rattle.node.proofs.Turns.{IsDue, IsPending, IsOwed, Matches, HasFirst, to_each, due_more, pending_more, now_due, now_refused, matches_more, matches_first, matches_to, matches_each, matches_turned, matches_due, owed_to, owed-map, owed-more, first-owed, first-gone, others-stay, left-none, left-others}

-- a promise is kept by what all changes make of the durable subscriptions
abbrev pub Lands : List Record → Kept → Promise → Type 0
Lands changes kept p = IsKept (after_all changes kept) p

-- a promise that is due lasts through the changes; one that a flush was handed is kept by the first n changes, and lasts through the
-- others; and one that awaits the next flush is kept behind all
abbrev pub Stands : ℕ → List Record → Kept → Owed → Debt → Type 0
Stands n changes kept = IsOwed (Lasts changes kept) (LastsBehind n changes kept) (Lands changes kept)

-- each session is owed what its topic owes it; a promise that was told lasts through the changes
pub record Holds (n : ℕ) (changes : List Record) (kept : Kept) (queues : List SessionReplies) (word : Word) : Type 0 where
  pub turns : (who : ℕ) → Matches (Stands n changes kept) (debts_to who queues) (owed_to who word.owed)
  pub given : AllByRecursion (Lasts changes kept) word.given

other_lists : (R : Owed → Debt → Type 0) (ds ds' : List Debt) (os os' : List Owed) → ds' ≡ ds → os' ≡ os → Matches R ds os → Matches R ds' os'
other_lists R ds ds' os os' debts owed all = subst (λ (x : List Debt). Matches R x os') (sym debts) (subst (λ (x : List Owed). Matches R ds x) (sym owed) all)

-- a promise that isn't released
abbrev pub Remains : Option Release → Promise → Type 0
Remains None p = Unit {0}
Remains (Some release) p = is_released release p ≡ false

module _ (P P' : Promise → Type 0) (release : Release) (f : (p : Promise) → is_released release p ≡ false → P p → P' p) where
  each_remaining : (o : Option Promise) → AllByRecursion P (promised o) → AllByRecursion P' (promised (unless_released release o))
  each_remaining None all = tt
  each_remaining (Some p) all = elim (is_released release p) as (λ b. is_released release p ≡ b → AllByRecursion P' (promised (cond b None (Some p)))) [
    | true ↦ λ _. tt
    | false ↦ λ other. (f p other all.0, tt)
  ] refl

  given_remaining : (ps : List Promise) → AllByRecursion P ps → AllByRecursion P' (filter (λ p. not (is_released release p)) ps)
  given_remaining [] all = tt
  given_remaining (p ∷ ps) all = elim (is_released release p) as (λ b. is_released release p ≡ b → AllByRecursion P' (cond (not b) (p ∷ filter (λ x. not (is_released release x)) ps) (filter (λ x. not (is_released release x)) ps))) [
    | true ↦ λ _. given_remaining ps all.1
    | false ↦ λ other. (f p other all.0, given_remaining ps all.1)
  ] refl

  -- what is left of an owed answer
  abbrev unless : Owed → Owed
  unless o = record o { promise = unless_released release o.promise }

  due_remaining : (o : Owed) (r : Reply) → IsDue P o r → IsDue P' (unless o) r
  due_remaining o r is = record { reply = is.reply; answers = is.answers; same = is.same; kept = λ accepted. each_remaining o.promise (is.kept accepted) }

  pending_remaining : (o : Owed) (r : Reply) → IsPending P o r → IsPending P' (unless o) r
  pending_remaining o r is = record { answers = is.answers; kept = each_remaining o.promise is.kept }

-- more is kept of what remains
module _ (n n' : ℕ) (cs cs' : List Record) (kept kept' : Kept) where
  abbrev More : Option Release → (Promise → Type 0) → (Promise → Type 0) → Type 0
  More release P P' = (p : Promise) → Remains release p → P p → P' p

  stands_remaining : (release : Release) → More (Some release) (Lasts cs kept) (Lasts cs' kept') → More (Some release) (LastsBehind n cs kept) (LastsBehind n' cs' kept') → More (Some release) (Lands cs kept) (Lands cs' kept')
      → (o : Owed) (d : Debt) → Stands n cs kept o d → Stands n' cs' kept' (record o { promise = unless_released release o.promise }) d
  stands_remaining release f g h o (Due r) is = due_remaining (Lasts cs kept) (Lasts cs' kept') release f o r is
  stands_remaining release f g h o (HandedOn r) is = pending_remaining (LastsBehind n cs kept) (LastsBehind n' cs' kept') release g o r is
  stands_remaining release f g h o (Pending r) is = pending_remaining (Lands cs kept) (Lands cs' kept') release h o r is

  stands_more : More None (Lasts cs kept) (Lasts cs' kept') → More None (LastsBehind n cs kept) (LastsBehind n' cs' kept') → More None (Lands cs kept) (Lands cs' kept')
      → (o : Owed) (d : Debt) → Stands n cs kept o d → Stands n' cs' kept' o d
  stands_more f g h o (Due r) is = due_more (Lasts cs kept) (Lasts cs' kept') (λ p. f p tt) o r is
  stands_more f g h o (HandedOn r) is = pending_more (LastsBehind n cs kept) (LastsBehind n' cs' kept') (λ p. g p tt) o r is
  stands_more f g h o (Pending r) is = pending_more (Lands cs kept) (Lands cs' kept') (λ p. h p tt) o r is

  pub holds_released : (release : Option Release) (qs : List SessionReplies) (word : Word) → More release (Lasts cs kept) (Lasts cs' kept') → More release (LastsBehind n cs kept) (LastsBehind n' cs' kept')
      → More release (Lands cs kept) (Lands cs' kept') → Holds n cs kept qs word → Holds n' cs' kept' qs (released release word)
  holds_released None qs word f g h holds = record {
    turns = λ who. matches_to (Stands n cs kept) (Stands n' cs' kept') (stands_more f g h) (debts_to who qs) (owed_to who word.owed) (holds.turns who);
    given = to_each (Lasts cs kept) (Lasts cs' kept') (λ p is. f p tt is) word.given holds.given;
  }
  holds_released (Some release) qs word f g h holds =
      let change : Owed → Owed = λ o. record o { promise = unless_released release o.promise } in
      record {
        turns = λ who.
            other_lists (Stands n' cs' kept') (debts_to who qs) (debts_to who qs) _ _ refl (owed-map change (λ o. refl) who word.owed)
            (matches_each (Stands n cs kept) (Stands n' cs' kept') change (stands_remaining release f g h) (debts_to who qs) (owed_to who word.owed) (holds.turns who));
        given = given_remaining (Lasts cs kept) (Lasts cs' kept') release f word.given holds.given;
      }

module _ (n : ℕ) (cs : List Record) (kept : Kept) (qs : List SessionReplies) (word : Word) (h : Holds n cs kept qs word) where
  abbrev R : Owed → Debt → Type 0
  R = Stands n cs kept

  -- one more answer is owed
  pub holds_queued : (who : ℕ) (r : Reply) (promise : Option Promise) → AreWithin qs → AllByRecursion (Lands cs kept) (promised promise)
      → Holds n cs kept (queued who r qs) (with_owed (record { session = who; reply = Some r; promise = promise }) word)
  holds_queued who r promise within lands =
      let o : Owed = record { session = who; reply = Some r; promise = promise } in
      record {
        turns = λ other. by_session (λ s. Matches R (debts_to s (queued who r qs)) (owed_to s (word.owed ++ o ∷ []))) who other
            (other_lists R (debts_to who qs ++ Pending r ∷ []) _ (owed_to who word.owed ++ o ∷ []) _
            (debts-queued who r qs within)
            (owed-more who word.owed o ∙ ap (λ b. owed_to who word.owed ++ cond b (o ∷ []) []) (eq-eqb who who refl))
            (matches_more R (debts_to who qs) (owed_to who word.owed) (Pending r) o (record { answers = refl; kept = lands }) (h.turns who)))
            (λ apart. other_lists R (debts_to other qs) _ (owed_to other word.owed) _
            (others-queued who other r qs apart)
            (owed-more other word.owed o ∙ ap (λ b. owed_to other word.owed ++ cond b (o ∷ []) []) apart ∙ append-nil (owed_to other word.owed))
            (h.turns other));
        given = h.given;
      }

  -- the first due reply of a session leaves
  module _ (handed : Handed) (rs : List Reply) (first : due_to handed.session qs ≡ handed.reply ∷ rs) where
    taken : HasFirst R (Due handed.reply) (debts_to handed.session (collected_from handed.session qs)) (owed_to handed.session word.owed)
    taken = matches_first R (Due handed.reply) (debts_to handed.session (collected_from handed.session qs)) (owed_to handed.session word.owed)
        (subst (λ (x : List Debt). Matches R x (owed_to handed.session word.owed)) (debts-collected handed.session qs handed.reply rs first) (h.turns handed.session))

    is_due : IsDue (Lasts cs kept) taken.owed handed.reply
    is_due = taken.is_first

    pub in_turn : IsInTurn word handed
    in_turn = record {
      owed = taken.owed;
      reply = is_due.reply;
      first = first-owed handed.session word.owed taken.owed taken.others taken.splits;
      answers = is_due.answers;
      same = is_due.same;
    }

    pub holds_lost : Holds n cs kept (collected_from handed.session qs) (record word { owed = without_first handed.session word.owed })
    holds_lost =
        let who = handed.session in
        record {
          turns = λ other. by_session (λ s. Matches R (debts_to s (collected_from who qs)) (owed_to s (without_first who word.owed))) who other
              (other_lists R (debts_to who (collected_from who qs)) _ taken.others _ refl (first-gone who word.owed taken.owed taken.others taken.splits) taken.rest)
              (λ apart. other_lists R (debts_to other qs) _ (owed_to other word.owed) _ (others-collected who other qs apart) (others-stay who other word.owed apart) (h.turns other));
          given = h.given;
        }

    given_told : AllByRecursion (Lasts cs kept) (told handed word).given
    given_told = elim (is_acceptance handed.reply) as (λ b. is_acceptance handed.reply ≡ b → AllByRecursion (Lasts cs kept) (cond b (word.given ++ promised_by (first_owed handed.session word.owed)) word.given)) [
      | true ↦ λ accepted.
          all-append (Lasts cs kept) word.given (promised_by (first_owed handed.session word.owed)) h.given
          (subst (λ (o : Option Owed). AllByRecursion (Lasts cs kept) (promised_by o)) (sym (first-owed handed.session word.owed taken.owed taken.others taken.splits)) (is_due.kept accepted))
      | false ↦ λ _. h.given
    ] refl

    pub holds_told : Holds n cs kept (collected_from handed.session qs) (told handed word)
    holds_told = record { turns = holds_lost.turns; given = given_told }

  -- a session leaves
  pub holds_left : (who : ℕ) → Holds n cs kept (filter (λ q. not (is_for who q)) qs) (record word { owed = filter (λ o. not (is_to who o)) word.owed })
  holds_left who = record {
    turns = λ other. by_session (λ s. Matches R (debts_to s (filter (λ q. not (is_for who q)) qs)) (owed_to s (filter (λ o. not (is_to who o)) word.owed))) who other
        (other_lists R [] _ [] _ (debts-left who qs) (left-none who word.owed) tt)
        (λ apart. other_lists R (debts_to other qs) _ (owed_to other word.owed) _ (others-left who other qs apart) (left-others who other word.owed apart) (h.turns other));
    given = h.given;
  }

  -- ---- a flush and its ends

  -- each reply is changed
  module _ (n' : ℕ) (cs' : List Record) (kept' : Kept) (g : Debt → Debt) (qs' : List SessionReplies) where
    turned : ((who : ℕ) → debts_to who qs' ≡ map (λ d. g d) (debts_to who qs)) → ((o : Owed) (d : Debt) → R o d → Stands n' cs' kept' o (g d))
        → ((p : Promise) → Lasts cs kept p → Lasts cs' kept' p) → Holds n' cs' kept' qs' word
    turned same step more = record {
      turns = λ who. other_lists (Stands n' cs' kept') (map (λ d. g d) (debts_to who qs)) _ (owed_to who word.owed) _ (same who) refl
          (matches_turned R (Stands n' cs' kept') g step (debts_to who qs) (owed_to who word.owed) (h.turns who));
      given = to_each (Lasts cs kept) (Lasts cs' kept') more word.given h.given;
    }

  -- all changes are handed on
  lands_behind : (p : Promise) → Lands cs kept p → LastsBehind (length cs) cs kept p
  lands_behind p is = behind_all cs kept p is

  on_hands : (o : Owed) (d : Debt) → R o d → Stands (length cs) cs kept o (hands_on d)
  on_hands o (Due r) is = is
  on_hands o (HandedOn r) is = pending_more (LastsBehind n cs kept) (LastsBehind (length cs) cs kept) (λ p x. lands_behind p (behind_last n cs kept p x)) o r is
  on_hands o (Pending r) is = pending_more (Lands cs kept) (LastsBehind (length cs) cs kept) lands_behind o r is

  pub holds_handed_on : Holds (length cs) cs kept (map (λ q. hand_on q) qs) word
  holds_handed_on = turned (length cs) cs kept hands_on (map (λ q. hand_on q) qs) (λ who. debts-handed_on who qs) on_hands (λ p is. is)

  -- those are durable
  lands_still : (p : Promise) → Lands cs kept p → Lands (drop n cs) (after_all (take n cs) kept) p
  lands_still p is = subst (λ (k : Kept). IsKept k p) (sym (after_parts n cs kept)) is

  on_due : (o : Owed) (d : Debt) → R o d → Stands 0 (drop n cs) (after_all (take n cs) kept) o (makes_due d)
  on_due o (Due r) is = due_more (Lasts cs kept) (Lasts (drop n cs) (after_all (take n cs) kept)) (lasts_behind n cs kept) o r is
  on_due o (HandedOn r) is = now_due (LastsBehind n cs kept) (Lasts (drop n cs) (after_all (take n cs) kept)) (λ p x. x) o r is
  on_due o (Pending r) is = pending_more (Lands cs kept) (Lands (drop n cs) (after_all (take n cs) kept)) lands_still o r is

  pub holds_finished : Holds 0 (drop n cs) (after_all (take n cs) kept) (map (λ q. make_due q) qs) word
  holds_finished = turned 0 (drop n cs) (after_all (take n cs) kept) makes_due (map (λ q. make_due q) qs) (λ who. debts-made_due who qs) on_due (lasts_behind n cs kept)

  -- they wait again
  on_back : (o : Owed) (d : Debt) → R o d → Stands 0 cs kept o (takes_back d)
  on_back o (Due r) is = is
  on_back o (HandedOn r) is = pending_more (LastsBehind n cs kept) (Lands cs kept) (behind_last n cs kept) o r is
  on_back o (Pending r) is = is

  pub holds_taken_back : Holds 0 cs kept (map (λ q. take_back q) qs) word
  holds_taken_back = turned 0 cs kept takes_back (map (λ q. take_back q) qs) (λ who. debts-taken_back who qs) on_back (λ p is. is)

  -- each pending reply is due as a refusal
  on_refused : (o : Owed) (d : Debt) → R o d → R o (refuses d)
  on_refused o (Due r) is = is
  on_refused o (HandedOn r) is = now_refused (Lasts cs kept) (LastsBehind n cs kept) o r is
  on_refused o (Pending r) is = now_refused (Lasts cs kept) (Lands cs kept) o r is

  pub holds_failed : Holds n cs kept (map (λ q. refuse_pending q) qs) word
  holds_failed = turned n cs kept refuses (map (λ q. refuse_pending q) qs) (λ who. debts-refused who qs) on_refused (λ p is. is)

  -- ---- openings and crashes

  -- a front of the changes is durable; nothing was pending
  pub holds_reopened : (k : ℕ) → AllByRecursion (λ q. q.pending ≡ []) qs → Holds 0 [] (after_all (take k cs) kept) qs word
  holds_reopened k none =
      let R' = Stands 0 [] (after_all (take k cs) kept) in
      record {
        turns = λ who. other_lists R' (map (λ r. Due r) (due_to who qs)) _ (owed_to who word.owed) _ (debts-due who qs none) refl
            (matches_due R R' (due_more (Lasts cs kept) (Lasts [] (after_all (take k cs) kept)) (λ p is. lasts_front k cs kept p is)) (due_to who qs) (owed_to who word.owed)
            (other_lists R (debts_to who qs) _ (owed_to who word.owed) _ (sym (debts-due who qs none)) refl (h.turns who)));
        given = to_each (Lasts cs kept) (Lasts [] (after_all (take k cs) kept)) (λ p is. lasts_front k cs kept p is) word.given h.given;
      }

  -- a front of the changes is durable, and nothing is owed
  pub holds_crashed : (k : ℕ) → Holds 0 [] (after_all (take k cs) kept) [] (record word { owed = [] })
  holds_crashed k = record { turns = λ who. tt; given = to_each (Lasts cs kept) (Lasts [] (after_all (take k cs) kept)) (λ p is. lasts_front k cs kept p is) word.given h.given }

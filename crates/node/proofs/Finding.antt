-- Each entry is that of the latest SEND for its position, and what a receipt promised is found ever after.
use Rattle.std.proofs.Common.{◌≡◌, inl, inr, ⊎_elim, ◌∙◌, ℕ, ◌+◌, ◌<◌, ◌≤◌, Bool, true, false, Option, Some, None, List, [], ◌∷◌, ◌++◌, length, map, take, refl, sym, ap, subst, arith, length-append, append-nil, append_assoc}
use Rattle.std.proofs.lemmas.List.{length-take-le, take_all, take-append-le}
use Rattle.std.specs.List.{AllByRecursion}
use Rattle.commands.specs.declared.reply.Reply.{Reply}
use Rattle.commands.specs.declared.reply.Reply.TheVariants.{Connected}
use Rattle.topic_core.specs.declared.command.Answer.{Answer}
use Rattle.topic_core.specs.declared.command.Send.{Send}
use Rattle.topic_core.specs.declared.command.TopicCommand.{TopicCommand}
use Rattle.managed_ledger.specs.Entries.{Entries, Ledger, end_of, entry_at, lengthened, trimmed}
use Rattle.managed_ledger.specs.Trims.{end_lengthened, end_trimmed, entry_within, entry_last, entry_or_last, lengthened_none, lengthened_both}
use Rattle.topic_core.specs.Messages.{marks_of}
use Rattle.topic_core.specs.State.{Topic, Doubt, floor, floor_of, next_position, opened, entries_of, entries_in_doubt}
use Rattle.reply_queues.specs.Replies.{SessionReplies, is_receipt, due_to, hand_on, make_due, take_back, refused, refuse_pending}
use Rattle.topic_core.specs.Steps.{TopicStep, bytes_of, accepted, receipt, collected, left}
use Rattle.topic_core.specs.Flush.{IsTrimPoint, handed_on, finished, taken_back, failed}
use Rattle.topic_core.specs.Crashes.{IsLeft, TopicCrash, reopened, longer}
use Rattle.topic_core.proofs.Receipts.{all-append}
use Rattle.node.specs.Moves.{Handed, Move, Command, Tell, Lose, Grant, Deliver, Miss, Leave, Flush, Take, Finish, Reopen, Crash, Cut, MoveStep, Moves, Takes, told_on, told_by}
use Rattle.node.specs.Finding.{Sent, sent_at, sent_by, sends_on, sends_by, IsLatest, Finds, FindsEach, IsPublished, IsQuiet}
use Rattle.node.proofs.Commands.{Awaits, by_command, granted_topic, sent_topic}
use Rattle.node.proofs.Endings.{RespectedByFlushes, taking, finishing, flushing, reopen_cases, Reopened, moves_grow, quiet_counts, cutting}
use Rattle.node.proofs.Extending.{Extends, keeps_below, extends_then, more_extends, more_within, trim_extends, trim_within, longer_extends, finished_log, left_extends, left_within}
use Rattle.node.proofs.Queues.{Debt, Due, HandedOn, Pending, hands_on, makes_due, takes_back, refuses, debts_to, AreWithin, within-queued, within-collected, within-left, within-mapped, debts-handed_on, debts-made_due, debts-taken_back, debts-refused}
use Rattle.node.proofs.Owed.{handed, same_handed, AllOwed, each_owed, queued_owed, due_owed, collected_owed, left_owed, turned_owed}

not_receipt : (r : Reply) → is_receipt r ≡ false → is_receipt r ≡ true → ⊥
not_receipt r isnt is = cc

-- what a failure makes of a reply is no receipt
refused_plain : (r : Reply) → is_receipt (refused r) ≡ false
refused_plain Connected = refl
refused_plain _ = refl

-- ---- SENDs

-- an entry is that of the latest SEND for its position
abbrev IsOf : List Sent → ℕ → List ℕ → Type 0
IsOf sends i entry = (send : Sent) × IsLatest sends send × (send.position ≡ i) × (send.entry ≡ entry)

-- the last one is the latest
last_is_latest : (sends : List Sent) (s : Sent) → IsLatest (sends ++ s ∷ []) s
last_is_latest sends s = record { before = sends; after = []; splits = refl; latest = tt }

-- one more, for another position
latest_more : (sends : List Sent) (s send : Sent) → (s.position ≡ send.position → ⊥) → IsLatest sends send → IsLatest (sends ++ s ∷ []) send
latest_more sends s send other is = record {
  before = is.before;
  after = is.after ++ s ∷ [];
  splits = ap (λ (l : List Sent). l ++ s ∷ []) is.splits ∙ append_assoc is.before (send ∷ is.after) (s ∷ []);
  latest = all-append (λ (x : Sent). x.position ≡ send.position → ⊥) is.after (s ∷ []) is.latest (other, tt);
}

-- what was found is found in a ledger that extends that one
finds_more : (sends : List Sent) (ledger other : Ledger) (h : Handed) → Extends ledger other → Finds sends ledger h → Finds sends other h
finds_more sends ledger other h more found = λ is.
    let f = found is in
    record { send = f.send; sent = f.sent; promised = f.promised; stands = more f.send.position f.send.entry f.stands }

-- and after one more SEND for a position behind it
finds_sent : (sends : List Sent) (s : Sent) (ledger : Ledger) (h : Handed) → end_of ledger ≤ s.position → Finds sends ledger h → Finds (sends ++ s ∷ []) ledger h
finds_sent sends s ledger h behind found = λ is.
    let f = found is in
    let within = keeps_below ledger f.send.position f.send.entry f.stands in
    record { send = f.send; sent = latest_more sends s f.send (λ same. omega (arith, same, within, behind)) f.sent; promised = f.promised; stands = f.stands }

of_more : (sends : List Sent) (s : Sent) (i : ℕ) (entry : List ℕ) → i < s.position → IsOf sends i entry → IsOf (sends ++ s ∷ []) i entry
of_more sends s i entry behind is = (is.0, latest_more sends s is.0 (λ same. omega (arith, same, behind, is.2)) is.1, is.2, is.3)

-- ---- what is owed

-- A due receipt has its entry in the ledger, one that a flush was handed there or among the entries in doubt, and another pending
-- one there or among all that wait. Where something is pending the topic works.
abbrev Found : List Sent → Ledger → Entries → Entries → Bool → ℕ → Debt → Type 0
Found sends ledger entries waiting fails who (Due r) = Finds sends ledger (handed who r)
Found sends ledger entries waiting fails who (HandedOn r) = Finds sends (lengthened ledger entries) (handed who r) × (fails ≡ false)
Found sends ledger entries waiting fails who (Pending r) = Finds sends (lengthened ledger waiting) (handed who r) × (fails ≡ false)

abbrev FoundIn : List Sent → Topic → ℕ → Debt → Type 0
FoundIn sends t = Found sends t.ledger (entries_in_doubt t) t.waiting t.failed

-- between two moves: the entries from one position on are those of the latest SENDs, each receipt has its entry, and a trim takes
-- committed entries alone
record Owes (base : ℕ) (sends : List Sent) (t : Topic) : Type 0 where
  counted : end_of t.ledger ≡ t.committed
  trims : floor t ≤ t.committed
  fits : entries_of t.doubt ≤ length t.waiting
  within : AreWithin t.queues
  entries : (i : ℕ) (entry : List ℕ) → base ≤ i → entry_at (lengthened t.ledger t.waiting) i ≡ Some entry → IsOf sends i entry
  queues : AllOwed (FoundIn sends t) t.queues

-- a move keeps what is owed, and what was found
record Upholds (base : ℕ) (before after : List Sent) (t u : Topic) : Type 0 where
  owes : Owes base after u
  found : (h : Handed) → Finds before t.ledger h → Finds after u.ledger h

module _ (base : ℕ) (before : List Sent) where
  -- without a SEND
  abbrev KeepsOn : Topic → Topic → Type 0
  KeepsOn t u = Upholds base before before t u

  -- the ledger stays
  still : (t u : Topic) → Owes base before u → u.ledger ≡ t.ledger → KeepsOn t u
  still t u o ledger = record { owes = o; found = λ h f. subst (λ (l : Ledger). Finds before l h) (sym ledger) f }

  same_topic : (t u : Topic) → u ≡ t → Owes base before t → KeepsOn t u
  same_topic t u is o = subst (λ (x : Topic). KeepsOn t x) (sym is) (still t t o refl)

  -- ---- commands

  -- a SEND is accepted: what was found stays so
  module _ (t : Topic) (who : ℕ) (send : Send) (works : t.failed ≡ false) (o : Owes base before t) where
    abbrev s : Sent
    s = sent_at t.per_ledger (next_position t) who send

    abbrev u : Topic
    u = accepted t who send.producer_id send.sequence_id (bytes_of send.entry)

    abbrev with_sent : List Sent
    with_sent = before ++ s ∷ []

    abbrev log : Ledger
    log = lengthened t.ledger t.waiting

    one_behind : lengthened t.ledger u.waiting ≡ lengthened log (bytes_of send.entry ∷ [])
    one_behind = sym (lengthened_both t.ledger t.waiting (bytes_of send.entry ∷ []))

    size : end_of log ≡ s.position
    size = omega (arith, o.counted, end_lengthened t.ledger t.waiting)

    short : end_of t.ledger ≤ s.position
    short = omega (arith, size, end_lengthened t.ledger t.waiting)

    more : Extends log (lengthened t.ledger u.waiting)
    more = subst (λ (l : Ledger). Extends log l) (sym one_behind) (more_extends log (bytes_of send.entry ∷ []))

    there : entry_at (lengthened t.ledger u.waiting) s.position ≡ Some (bytes_of send.entry)
    there = ap (λ (l : Ledger). entry_at l s.position) one_behind ∙ entry_last log (bytes_of send.entry) s.position (sym size)

    -- the entries in doubt are the same
    same_doubt : entries_in_doubt u ≡ entries_in_doubt t
    same_doubt = take-append-le (entries_of t.doubt) t.waiting (bytes_of send.entry ∷ []) o.fits

    in_log : end_of (lengthened t.ledger (entries_in_doubt t)) ≤ s.position
    in_log = omega (arith, o.counted, o.fits, end_lengthened t.ledger (entries_in_doubt t), length-take-le (entries_of t.doubt) t.waiting o.fits)

    stays_found : (other : ℕ) (d : Debt) → FoundIn before t other d → FoundIn with_sent u other d
    stays_found other (Due r) f = finds_sent before s t.ledger (handed other r) short f
    stays_found other (HandedOn r) f = (
      subst (λ (e : List (List ℕ)). Finds with_sent (lengthened t.ledger e) (handed other r)) (sym same_doubt) (finds_sent before s (lengthened t.ledger (entries_in_doubt t)) (handed other r) in_log f.0),
      works,
    )
    stays_found other (Pending r) f = (finds_more with_sent log (lengthened t.ledger u.waiting) (handed other r) more (finds_sent before s log (handed other r) (omega (arith, size)) f.0), works)

    accepts : Upholds base before with_sent t u
    accepts = record {
      owes = record {
        counted = o.counted;
        trims = o.trims;
        fits = omega (arith, o.fits, length-append t.waiting (bytes_of send.entry ∷ []));
        within = within-queued who (receipt t send.producer_id send.sequence_id) t.queues o.within;
        entries = λ i entry from stands. ⊎_elim
            (λ old. of_more before s i entry (omega (arith, size, (entry_within log i entry old).1)) (o.entries i entry from old))
            (λ new. (s, last_is_latest before s, sym size ∙ new.0, new.1))
            (entry_or_last log (bytes_of send.entry) i entry (ap (λ (l : Ledger). entry_at l i) (sym one_behind) ∙ stands));
        queues =
            queued_owed (FoundIn with_sent u) t.queues (each_owed (FoundIn before t) t.queues o.queues (FoundIn with_sent u) stays_found) who (receipt t send.producer_id send.sequence_id) o.within
            (λ is. record { send = s; sent = last_is_latest before s; promised = refl; stands = inr there }, works);
      };
      found = λ h f. finds_sent before s t.ledger h short f;
    }

  -- what is found of a topic is found of one with the same entries
  alike : (t u : Topic) → u.ledger ≡ t.ledger → u.waiting ≡ t.waiting → u.doubt ≡ t.doubt → u.failed ≡ t.failed → (qs : List SessionReplies) → AllOwed (FoundIn before t) qs → AllOwed (FoundIn before u) qs
  alike t u ledger waiting doubt fails qs all =
      let first : entries_in_doubt t ≡ entries_in_doubt u = ap (λ d. take (entries_of d) t.waiting) (sym doubt) ∙ ap (λ (w : List (List ℕ)). take (entries_of u.doubt) w) (sym waiting) in
      subst (λ (l : Ledger). AllOwed (Found before l (entries_in_doubt u) u.waiting u.failed) qs) (sym ledger)
      (subst (λ (e : List (List ℕ)). AllOwed (Found before t.ledger e u.waiting u.failed) qs) first
      (subst (λ (w : List (List ℕ)). AllOwed (Found before t.ledger (entries_in_doubt t) w u.failed) qs) (sym waiting)
      (subst (λ (b : Bool). AllOwed (Found before t.ledger (entries_in_doubt t) t.waiting b) qs) (sym fails) all)))

  -- one more reply at most is owed, which is no receipt
  awaits : (t u : Topic) (who : ℕ) → Awaits who t u → Owes base before t → KeepsOn t u
  awaits t u who a o = still t u (record {
    counted = ap (λ (l : Ledger). end_of l) a.ledger ∙ o.counted ∙ sym a.committed;
    trims = omega (arith, o.trims, a.committed, ap (λ (l : Ledger). floor_of l.base u.doubt) a.ledger, ap (λ (d : Option Doubt). floor_of t.ledger.base d) a.doubt);
    fits = omega (arith, o.fits, ap (λ d. entries_of d) a.doubt, ap (λ (w : List (List ℕ)). length w) a.waiting);
    within = ⊎_elim
        (λ same. subst AreWithin (sym same) o.within)
        (λ more. subst AreWithin (sym more.3) (within-queued who more.0 t.queues o.within))
        a.queues;
    entries = λ i entry from stands.
        o.entries i entry from (ap (λ (w : Entries). entry_at (lengthened t.ledger w) i) (sym a.waiting) ∙ ap (λ (l : Ledger). entry_at (lengthened l u.waiting) i) (sym a.ledger) ∙ stands);
    queues = alike t u a.ledger a.waiting a.doubt a.failed u.queues
        (⊎_elim
        (λ same. subst (λ (qs : List SessionReplies). AllOwed (FoundIn before t) qs) (sym same) o.queues)
        (λ more. subst (λ (qs : List SessionReplies). AllOwed (FoundIn before t) qs) (sym more.3)
        (queued_owed (FoundIn before t) t.queues o.queues who more.0 o.within (λ is. absurd (not_receipt more.0 more.1.no_receipt is), more.2)))
        a.queues);
  }) a.ledger

  -- after no SEND
  none_sent : (t u : Topic) → KeepsOn t u → Upholds base before (before ++ []) t u
  none_sent t u k = subst (λ (l : List Sent). Upholds base before l t u) (sym (append-nil before)) k

  commanded : (t : Topic) (who : ℕ) (c : TopicCommand) (a : Answer) (u : Topic) → TopicStep t who c a u → Owes base before t
      → Upholds base before (before ++ sent_by t.per_ledger (next_position t) who c a) t u
  commanded t who c a u s o = by_command t who (λ c a u. Upholds base before (before ++ sent_by t.per_ledger (next_position t) who c a) t u)
      (λ c a u none more. subst (λ (l : List Sent). Upholds base before l t u) (sym (ap (λ (l : List Sent). before ++ l) (none t.per_ledger (next_position t)) ∙ append-nil before)) (awaits t u who more o))
      (λ send u works is. subst (λ (x : Topic). Upholds base before (before ++ sent_at t.per_ledger (next_position t) who send ∷ []) t x) (sym is) (accepts t who send works o))
      c a u s

  -- ---- sessions

  takes_reply : (t u : Topic) (h : Handed) → Takes t h u → Owes base before t → KeepsOn t u
  takes_reply t u h takes o = subst (λ (x : Topic). KeepsOn t x) (sym takes.taken) (still t (collected t h.session h.reply) (record {
    counted = o.counted;
    trims = o.trims;
    fits = o.fits;
    within = within-collected h.session t.queues o.within;
    entries = o.entries;
    queues = collected_owed (FoundIn before t) t.queues o.queues h.session h.reply (due_to h.session u.queues) takes.first;
  }) refl)

  leaves : (t u : Topic) (who : ℕ) → u ≡ left t who → Owes base before t → KeepsOn t u
  leaves t u who is o = subst (λ (x : Topic). KeepsOn t x) (sym is) (still t (left t who) (record {
    counted = o.counted;
    trims = o.trims;
    fits = o.fits;
    within = within-left who t.queues o.within;
    entries = o.entries;
    queues = left_owed (FoundIn before t) t.queues o.queues who;
  }) refl)

  -- ---- flushes

  -- all that waits is in doubt
  on_hands : (t : Topic) (p : ℕ) (who : ℕ) (d : Debt) → FoundIn before t who d → FoundIn before (handed_on t p) who (hands_on d)
  on_hands t p who (Due r) f = f
  on_hands t p who (HandedOn r) f = (
    subst (λ (e : List (List ℕ)). Finds before (lengthened t.ledger e) (handed who r)) (sym (take_all (length t.waiting) t.waiting (omega arith)))
        (finds_more before (longer t) (lengthened t.ledger t.waiting) (handed who r) (longer_extends t) f.0),
    f.1,
  )
  on_hands t p who (Pending r) f = (subst (λ (e : List (List ℕ)). Finds before (lengthened t.ledger e) (handed who r)) (sym (take_all (length t.waiting) t.waiting (omega arith))) f.0, f.1)

  point_low : (t : Topic) (p : ℕ) → IsTrimPoint t p → end_of t.ledger ≡ t.committed → p ≤ t.committed
  point_low t p (inl is) counted = omega (arith, is, counted)
  point_low t p (inr is) counted = is.committed

  takes : (t : Topic) (p : ℕ) → IsTrimPoint t p → Owes base before t → KeepsOn t (handed_on t p)
  takes t p point o = still t (handed_on t p) (record {
    counted = o.counted;
    trims = point_low t p point o.counted;
    fits = omega arith;
    within = within-mapped (λ q. hand_on q) (λ q. omega arith) t.queues;
    entries = o.entries;
    queues = turned_owed (FoundIn before t) t.queues o.queues (FoundIn before (handed_on t p)) hands_on (map (λ q. hand_on q) t.queues) (λ who. debts-handed_on who t.queues) (on_hands t p);
  }) refl

  -- what was in doubt is committed, and the ledger trimmed up to a position
  module _ (t : Topic) (b : ℕ) (low : b ≤ floor t) (o : Owes base before t) where
    all_doubted : end_of (longer t) ≡ t.committed + entries_of t.doubt
    all_doubted = omega (arith, o.counted, end_lengthened t.ledger (entries_in_doubt t), length-take-le (entries_of t.doubt) t.waiting o.fits)

    in_longer : b ≤ end_of (longer t)
    in_longer = omega (arith, low, o.trims, all_doubted)

    more_found : (h : Handed) → Finds before t.ledger h → Finds before (finished t b).ledger h
    more_found h f = finds_more before t.ledger (finished t b).ledger h (extends_then t.ledger (longer t) (finished t b).ledger (more_extends t.ledger (entries_in_doubt t)) (trim_extends (longer t) b)) f

    on_due : (who : ℕ) (d : Debt) → FoundIn before t who d → FoundIn before (finished t b) who (makes_due d)
    on_due who (Due r) f = more_found (handed who r) f
    on_due who (HandedOn r) f = finds_more before (longer t) (finished t b).ledger (handed who r) (trim_extends (longer t) b) f.0
    on_due who (Pending r) f = (
      subst (λ (l : Ledger). Finds before l (handed who r)) (sym (finished_log t b in_longer))
          (finds_more before (lengthened t.ledger t.waiting) (trimmed b (lengthened t.ledger t.waiting)) (handed who r) (trim_extends (lengthened t.ledger t.waiting) b) f.0),
      f.1,
    )

    finishes : KeepsOn t (finished t b)
    finishes = record {
      owes = record {
        counted = end_trimmed (longer t) b in_longer ∙ all_doubted;
        trims = omega (arith, low, o.trims, o.counted);
        fits = omega arith;
        within = within-mapped (λ q. make_due q) (λ q. omega arith) t.queues;
        entries = λ i entry from stands. o.entries i entry from (trim_within (lengthened t.ledger t.waiting) b i entry (ap (λ (l : Ledger). entry_at l i) (sym (finished_log t b in_longer)) ∙ stands));
        queues = turned_owed (FoundIn before t) t.queues o.queues (FoundIn before (finished t b)) makes_due (map (λ q. make_due q) t.queues) (λ who. debts-made_due who t.queues) on_due;
      };
      found = more_found;
    }

  -- it waits again
  on_back : (t : Topic) (who : ℕ) (d : Debt) → FoundIn before t who d → FoundIn before (taken_back t) who (takes_back d)
  on_back t who (Due r) f = f
  on_back t who (HandedOn r) f = (finds_more before (longer t) (lengthened t.ledger t.waiting) (handed who r) (longer_extends t) f.0, f.1)
  on_back t who (Pending r) f = f

  takes_all_back : (t : Topic) → Owes base before t → KeepsOn t (taken_back t)
  takes_all_back t o = still t (taken_back t) (record {
    counted = o.counted;
    trims = omega (arith, o.counted);
    fits = omega arith;
    within = within-mapped (λ q. take_back q) (λ q. omega arith) t.queues;
    entries = o.entries;
    queues = turned_owed (FoundIn before t) t.queues o.queues (FoundIn before (taken_back t)) takes_back (map (λ q. take_back q) t.queues) (λ who. debts-taken_back who t.queues) (on_back t);
  }) refl

  -- the device failed, and each pending reply is due as a refusal
  on_refused : (t : Topic) (who : ℕ) (d : Debt) → FoundIn before t who d → FoundIn before (failed t) who (refuses d)
  on_refused t who (Due r) f = f
  on_refused t who (HandedOn r) f = λ is. absurd (not_receipt (refused r) (refused_plain r) is)
  on_refused t who (Pending r) f = λ is. absurd (not_receipt (refused r) (refused_plain r) is)

  fails : (t : Topic) → Owes base before t → KeepsOn t (failed t)
  fails t o = still t (failed t) (record {
    counted = o.counted;
    trims = o.trims;
    fits = o.fits;
    within = within-mapped (λ q. refuse_pending q) (λ q. omega arith) t.queues;
    entries = o.entries;
    queues = turned_owed (FoundIn before t) t.queues o.queues (FoundIn before (failed t)) refuses (map (λ q. refuse_pending q) t.queues) (λ who. debts-refused who t.queues) (on_refused t);
  }) refl

  abbrev KeepsOwed : Topic → Topic → Type 0
  KeepsOwed t u = Owes base before t → KeepsOn t u

  flush_keeps : RespectedByFlushes KeepsOwed
  flush_keeps = record {
    same = λ t o. still t t o refl;
    then = λ t u v first second o. let k = first o in let l = second k.owes in record { owes = l.owes; found = λ h f. l.found h (k.found h f) };
    take = takes;
    finish = finishes;
    take_back = takes_all_back;
    fail = fails;
  }

  -- ---- openings and crashes

  -- a topic over what a crash left, where nothing waits now
  fronted : (t u : Topic) → end_of u.ledger ≡ u.committed → u.waiting ≡ [] → u.doubt ≡ None → IsLeft t u.ledger u.kept → AreWithin u.queues
      → (((h : Handed) → Finds before t.ledger h → Finds before u.ledger h) → AllOwed (FoundIn before u) u.queues)
      → Owes base before t → KeepsOn t u
  fronted t u counted none sure left within queues o =
      let more = λ (h : Handed) (f : Finds before t.ledger h). finds_more before t.ledger u.ledger h (left_extends t u.ledger u.kept left) f in
      record {
        owes = record {
          counted = counted;
          trims = omega (arith, counted, ap (λ (d : Option Doubt). floor_of u.ledger.base d) sure);
          fits = omega (arith, ap (λ d. entries_of d) sure);
          within = within;
          entries = λ i entry from stands. o.entries i entry from
              (left_within t u.ledger u.kept left i entry (ap (λ (l : Ledger). entry_at l i) (sym (ap (λ (w : Entries). lengthened u.ledger w) none ∙ lengthened_none u.ledger)) ∙ stands));
          queues = queues more;
        };
        found = more;
      }

  -- a failed topic is opened again: nothing of it is pending
  on_again : (t u : Topic) → t.failed ≡ true → ((h : Handed) → Finds before t.ledger h → Finds before u.ledger h) → (who : ℕ) (d : Debt) → FoundIn before t who d → FoundIn before u who d
  on_again t u fails more who (Due r) f = more (handed who r) f
  on_again t u fails more who (HandedOn r) f = absurd (let works = f.1 in cc)
  on_again t u fails more who (Pending r) f = absurd (let works = f.1 in cc)

  opens_again : (t u : Topic) → Reopened t u → Owes base before t → KeepsOn t u
  opens_again t u s o =
      let v : Topic = reopened t u.ledger (marks_of u.ledger) u.kept in
      subst (λ (x : Topic). KeepsOn t x) (sym s.again)
      (fronted t v refl refl refl s.left o.within (λ more. each_owed (FoundIn before t) t.queues o.queues (FoundIn before v) (on_again t v s.failed more)) o)

  crashes : (t u : Topic) → TopicCrash t u → Owes base before t → KeepsOn t u
  crashes t u s o =
      let v : Topic = opened t.per_ledger u.ledger (marks_of u.ledger) u.kept in
      subst (λ (x : Topic). KeepsOn t x) (sym s.again) (fronted t v refl refl refl s.left tt (λ more who. tt) o)

  -- ---- moves

  moved : (t : Topic) (m : Move) (u : Topic) → MoveStep t m u → Owes base before t → Upholds base before (before ++ sends_on t m) t u
  moved t (Command who c a) u s o = commanded t who c a u s o
  moved t (Tell h) u s o = none_sent t u (takes_reply t u h s o)
  moved t (Lose h) u s o = none_sent t u (takes_reply t u h s o)
  moved t (Grant who id permits result) u s o = none_sent t u (awaits t u who (granted_topic result t who id permits u s) o)
  moved t (Deliver id h) u s o = none_sent t u (awaits t u h.session (sent_topic h.session t _ s.0 u s.1.sent) o)
  moved t (Miss id h) u s o = none_sent t u (awaits t u h.session (sent_topic h.session t _ s.0 u s.1.sent) o)
  moved t (Leave who) u s o = none_sent t u (leaves t u who s o)
  moved t (Flush result) u s o = none_sent t u (flushing KeepsOwed flush_keeps t result u s o)
  moved t (Take result) u s o = none_sent t u (taking KeepsOwed flush_keeps t result u s o)
  moved t (Finish written result) u s o = none_sent t u (finishing KeepsOwed flush_keeps t written result u s o)
  moved t (Reopen result) u s o = none_sent t u (⊎_elim (λ is. same_topic t u is o) (λ again. opens_again t u again o) (reopen_cases t result u s))
  moved t Crash u s o = none_sent t u (crashes t u s o)
  moved t Cut u s o = none_sent t u (cutting KeepsOwed flush_keeps t u s o)

  -- what goes out on a move is found before it
  told_found : (t : Topic) (m : Move) (u : Topic) → MoveStep t m u → Owes base before t → FindsEach before t.ledger (told_on m)
  told_found t (Tell h) u s o = (
    subst (Finds before t.ledger) (same_handed h s.plain) (due_owed (FoundIn before t) t.queues o.queues h.session h.reply (due_to h.session u.queues) s.first),
    tt,
  )
  told_found t (Deliver id h) u s o = (λ is. absurd (not_receipt h.reply (ap (λ (r : Reply). is_receipt r) s.1.reply) is), tt)
  told_found t _ u s o = tt

each_found : (before : List Sent) (ledger : Ledger) (after : List Sent) (ledger' : Ledger) → ((h : Handed) → Finds before ledger h → Finds after ledger' h) → (hs : List Handed) → FindsEach before ledger hs → FindsEach after ledger' hs
each_found before ledger after ledger' f [] all = tt
each_found before ledger after ledger' f (h ∷ hs) all = (f h all.0, each_found before ledger after ledger' f hs all.1)

both_found : (sends : List Sent) (ledger : Ledger) (xs ys : List Handed) → FindsEach sends ledger xs → FindsEach sends ledger ys → FindsEach sends ledger (xs ++ ys)
both_found sends ledger [] ys a b = b
both_found sends ledger (x ∷ xs) ys a b = (a.0, both_found sends ledger xs ys a.1 b)

-- moves keep what is owed and found, and tell what is found at their end
record Carried (base : ℕ) (before after : List Sent) (t : Topic) (moves : List Move) (u : Topic) : Type 0 where
  owes : Owes base after u
  told : FindsEach after u.ledger (told_by moves)
  found : (h : Handed) → Finds before t.ledger h → Finds after u.ledger h

none_carried : (base : ℕ) (before : List Sent) (t u : Topic) → u ≡ t → Owes base before t → Carried base before (before ++ []) t [] u
none_carried base before t u is o =
    subst (λ (x : Topic). Carried base before (before ++ []) t [] x) (sym is)
    (subst (λ (l : List Sent). Carried base before l t [] t) (sym (append-nil before)) (record { owes = o; told = tt; found = λ h f. f }))

one_carried : (base : ℕ) (before sends later : List Sent) (t : Topic) (m : Move) (u : Topic) (ms : List Move) (v : Topic) → Upholds base before (before ++ sends) t u → FindsEach before t.ledger (told_on m)
    → Carried base (before ++ sends) ((before ++ sends) ++ later) u ms v → Carried base before (before ++ (sends ++ later)) t (m ∷ ms) v
one_carried base before sends later t m u ms v k told c =
    let after = (before ++ sends) ++ later in
    subst (λ (l : List Sent). Carried base before l t (m ∷ ms) v) (append_assoc before sends later) (record {
      owes = c.owes;
      told = both_found after v.ledger (told_on m) (told_by ms)
          (each_found before t.ledger after v.ledger (λ h f. c.found h (k.found h f)) (told_on m) told)
          c.told;
      found = λ h f. c.found h (k.found h f);
    })

carried : (base : ℕ) (before : List Sent) (t : Topic) (moves : List Move) (u : Topic) (steps : Moves t moves u) → Owes base before t
    → Carried base before (before ++ sends_by t moves u steps) t moves u
carried base before t [] u steps o = none_carried base before t u steps o
carried base before t (m ∷ ms) v steps o =
    let u = steps.0 in
    let k = moved base before t m u steps.1 o in
    one_carried base before (sends_on t m) (sends_by u ms v steps.2) t m u ms v k (told_found base before t m u steps.1 o)
    (carried base (before ++ sends_on t m) u ms v steps.2 k.owes)

-- a topic that owes nothing
quiet_owes : (t : Topic) → IsQuiet t → Owes (end_of t.ledger) [] t
quiet_owes t quiet =
    let all : lengthened t.ledger t.waiting ≡ t.ledger = ap (λ (w : Entries). lengthened t.ledger w) quiet.waiting ∙ lengthened_none t.ledger in
    record {
      counted = quiet.counted;
      trims = quiet.trims;
      fits = omega (arith, quiet.sure);
      within = subst AreWithin (sym quiet.queues) tt;
      entries = λ i entry from stands. absurd (omega (arith, from, (entry_within t.ledger i entry (ap (λ (l : Ledger). entry_at l i) (sym all) ∙ stands)).1));
      queues = λ who. subst (λ (qs : List SessionReplies). AllByRecursion (FoundIn [] t who) (debts_to who qs)) (sym quiet.queues) tt;
    }

pub moves_found : (t : Topic) (moves : List Move) (u : Topic) (steps : Moves t moves u) → IsQuiet t → FindsEach (sends_by t moves u steps) u.ledger (told_by moves)
moves_found t moves u steps quiet = (carried (end_of t.ledger) [] t moves u steps (quiet_owes t quiet)).told

pub moves_publish : (t : Topic) (moves : List Move) (u : Topic) (steps : Moves t moves u) → IsQuiet t → IsPublished (sends_by t moves u steps) t.ledger u.ledger
moves_publish t moves u steps quiet =
    let c = carried (end_of t.ledger) [] t moves u steps (quiet_owes t quiet) in
    record { grown = (moves_grow t moves u steps (quiet_counts t quiet)).grown; each = λ i entry from stands. c.owes.entries i entry from (more_within u.ledger u.waiting i entry stands) }

-- How flushes and their parts, openings and crashes end, and that ledgers only grow, but for a front that a trim took.
use Rattle.std.proofs.Common.{◌≡◌, ◌⊎◌, inl, inr, ⊎_elim, ◌∙◌, ℕ, ◌+◌, ◌≤◌, min, max, Bool, true, false, Option, Some, None, Result, Ok, Err, List, [], ◌∷◌, ◌++◌, length, take, drop, refl, sym, ap, subst, arith, length-append}
use Rattle.std.proofs.lemmas.List.{take-append-drop, length-take-le}
use Rattle.records.specs.Maps.{Kept}
use Rattle.gated_log.specs.declared.refusal.Refusal.{Refusal}
use Rattle.gated_log.specs.declared.refusal.Refusal.TheVariants as refusal
use Rattle.topic_stores.specs.declared.batch.Batch.{Batch}
use Rattle.topic_stores.specs.declared.error.WriteError.{WriteError}
use Rattle.topic_stores.specs.declared.error.WriteError.TheVariants.{Device, NoMemory}
use Rattle.managed_ledger.specs.Entries.{Ledger, end_of, lengthened, trimmed}
use Rattle.managed_ledger.specs.Trims.{IsGrown, grows_both, lengthened_none, end_lengthened, end_trimmed}
use Rattle.topic_core.specs.Messages.{marks_of}
use Rattle.topic_core.specs.declared.command.Answer.{Answer}
use Rattle.topic_core.specs.declared.command.Send.{Send}
use Rattle.topic_core.specs.declared.command.TopicCommand.{TopicCommand}
use Rattle.topic_core.specs.State.{Topic, Doubt, floor, floor_of, entries_of, entries_in_doubt}
use Rattle.topic_core.specs.Steps.{TopicStep, accepted, collected, left, bytes_of}
use Rattle.topic_core.specs.Flush.{IsTrimPoint, TakeStep, FinishStep, FlushStep, FlushIn, FlushEnds, has_no_flush, handed_on, finished, taken_back, failed}
use Rattle.topic_core.specs.Crashes.{IsLeft, ReopenStep, ReopenIn, ReopenEnds, reopened}
use Rattle.topic_core.proofs.Flushing.{finished-handed_on}
use Rattle.topic_core.proofs.Floors.{trimmed_at}
use Rattle.node.specs.Finding.{IsQuiet}
use Rattle.node.specs.Steps as steps
use Rattle.node.specs.Moves.{Move, Command, Tell, Lose, Grant, Deliver, Miss, Leave, Flush, Take, Finish, Reopen, Crash, Cut, MoveStep, Moves}
use Rattle.node.proofs.Carrying.{Respected, respects}
use Rattle.node.proofs.Commands.{Awaits, by_command, granted_topic, sent_topic}

-- what the parts of a flush respect
pub record RespectedByFlushes (R : Topic → Topic → Type 0) : Type 0 where
  pub same : (t : Topic) → R t t
  pub then : (t u v : Topic) → R t u → R u v → R t v
  pub take : (t : Topic) (p : ℕ) → IsTrimPoint t p → R t (handed_on t p)
  pub finish : (t : Topic) (b : ℕ) → b ≤ floor t → R t (finished t b)
  pub take_back : (t : Topic) → R t (taken_back t)
  pub fail : (t : Topic) → R t (failed t)

-- each part respects it, and so does a whole flush, which takes and finishes
module _ (R : Topic → Topic → Type 0) (by : RespectedByFlushes R) where
  is : (t u v : Topic) → v ≡ u → R t u → R t v
  is t u v same r = subst (λ (x : Topic). R t x) (sym same) r

  pub taking : (t : Topic) (result : Result (Option Batch) WriteError) (u : Topic) → TakeStep t result u → R t u
  taking t (Ok None) u s = is t t u s.2 (by.same t)
  taking t (Ok (Some batch)) u s = is t (handed_on t batch.trim) u s.2 (by.take t batch.trim s.5)
  taking t (Err Device) u s = is t t u s.1 (by.same t)
  taking t (Err NoMemory) u s = is t t u s.2 (by.same t)

  pub finishing : (t : Topic) (written : Result ℕ WriteError) (result : Result ℕ WriteError) (u : Topic) → FinishStep t written result u → R t u
  finishing t (Ok base) result u s = is t (finished t (min base (floor t))) u s.1 (by.finish t (min base (floor t)) (omega arith))
  finishing t (Err NoMemory) result u s = is t (taken_back t) u s.1 (by.take_back t)
  finishing t (Err Device) result u s = is t (failed t) u s.1 (by.fail t)

  flush_ends : (t : Topic) (result : Result ℕ WriteError) (u : Topic) → FlushEnds t result u → R t u
  flush_ends t (Ok count) u s =
      let taken = handed_on t s.1.limit in
      let done = finished taken s.1.trim in
      is t done u (s.1.is ∙ sym (finished-handed_on t s.1.limit s.1.trim)) (by.then t taken done (by.take t s.1.limit s.1.allowed) (by.finish taken s.1.trim s.1.within))
  flush_ends t (Err NoMemory) u s = is t t u s (by.same t)
  flush_ends t (Err Device) u s =
      let taken = handed_on t s.limit in
      is t (failed taken) u s.is (by.then t taken (failed taken) (by.take t s.limit s.allowed) (by.fail taken))

  flush_in : (fails nothing : Bool) (t : Topic) (result : Result ℕ WriteError) (u : Topic) → FlushIn fails nothing t result u → R t u
  flush_in true nothing t result u s = is t t u s.1 (by.same t)
  flush_in false true t result u s = is t t u s.1 (by.same t)
  flush_in false false t result u s = flush_ends t result u s

  pub flushing : (t : Topic) (result : Result ℕ WriteError) (u : Topic) → FlushStep t result u → R t u
  flushing t result u s = flush_in t.failed (has_no_flush t) t result u s

  begins : (fails nothing : Bool) (t : Topic) (p : ℕ) → IsTrimPoint t p → R t (steps.flushing fails nothing t p)
  begins true nothing t p point = by.same t
  begins false true t p point = by.same t
  begins false false t p point = by.take t p point

  -- the power is cut within a flush
  pub cutting : (t u : Topic) → MoveStep t Cut u → R t u
  cutting t u s = is t (steps.in_flush t s.0) u s.2 (begins t.failed (has_no_flush t) t s.0 s.1)

-- a failed topic is opened again
pub record Reopened (t u : Topic) : Type 0 where
  pub failed : t.failed ≡ true
  pub left : IsLeft t u.ledger u.kept
  pub again : u ≡ reopened t u.ledger (marks_of u.ledger) u.kept

reopen_ends : (t : Topic) (result : Result (Unit {0}) Refusal) (u : Topic) → t.failed ≡ true → ReopenEnds t result u → (u ≡ t) ⊎ Reopened t u
reopen_ends t (Ok done) u failed s = inr (record { failed = failed; left = s.0; again = s.1 })
reopen_ends t (Err refusal.NoMemory) u failed s = inl s
reopen_ends t (Err refusal.Device) u failed s = inl s
reopen_ends t (Err _) u failed s = absurd s

reopen_in : (fails : Bool) (t : Topic) (result : Result (Unit {0}) Refusal) (u : Topic) → t.failed ≡ fails → ReopenIn fails t result u → (u ≡ t) ⊎ Reopened t u
reopen_in true t result u is s = reopen_ends t result u is s
reopen_in false t result u is s = inl s.1

pub reopen_cases : (t : Topic) (result : Result (Unit {0}) Refusal) (u : Topic) → ReopenStep t result u → (u ≡ t) ⊎ Reopened t u
reopen_cases t result u s = reopen_in t.failed t result u refl s

-- A crash leaves the ledger with a front of the entries that waited, but for what a trim took, which isn't more than it might.
pub record Front (t : Topic) (ledger : Ledger) : Type 0 where
  pub more : List (List ℕ)
  pub rest : List (List ℕ)
  pub trim : ℕ
  pub below : trim ≤ max t.ledger.base (floor t)
  pub grown : ledger ≡ trimmed trim (lengthened t.ledger more)
  pub waited : t.waiting ≡ more ++ rest

no_more : (t : Topic) (ledger : Ledger) → ledger ≡ t.ledger → Front t ledger
no_more t ledger is = record {
  more = [];
  rest = t.waiting;
  trim = t.ledger.base;
  below = omega arith;
  grown = is ∙ sym (lengthened_none t.ledger) ∙ sym (trimmed_at (lengthened t.ledger []) t.ledger.base (omega arith));
  waited = refl;
}

some_more : (t : Topic) (ledger : Ledger) (n trim : ℕ) → trim ≤ max t.ledger.base (floor t) → ledger ≡ trimmed trim (lengthened t.ledger (take n t.waiting)) → Front t ledger
some_more t ledger n trim low is = record { more = take n t.waiting; rest = drop n t.waiting; trim = trim; below = low; grown = is; waited = sym (take-append-drop n t.waiting) }

pub left_front : (t : Topic) (ledger : Ledger) (kept : Kept) → IsLeft t ledger kept → Front t ledger
left_front t ledger kept (inl s) = no_more t ledger s.0
left_front t ledger kept (inr (inl s)) = some_more t ledger (entries_of t.doubt) t.ledger.base (omega arith) (s.0 ∙ sym (trimmed_at (lengthened t.ledger (entries_in_doubt t)) t.ledger.base (omega arith)))
left_front t ledger kept (inr (inr s)) = some_more t ledger (entries_of t.doubt) ledger.base s.0.below s.0.is

-- the ledger is counted, what is in doubt is of what waits, and a trim takes committed entries alone
pub record Counts (t : Topic) : Type 0 where
  pub counted : end_of t.ledger ≡ t.committed
  pub fits : entries_of t.doubt ≤ length t.waiting
  pub trims : floor t ≤ t.committed

pub same_grown : (old new : Ledger) → new ≡ old → IsGrown old new
same_grown old new is = record {
  more = [];
  below = old.base;
  within = omega arith;
  is = is ∙ sym (lengthened_none old) ∙ sym (trimmed_at (lengthened old []) old.base (omega arith));
}

-- so it stays, and the ledger grows
pub record GrowsTo (t u : Topic) : Type 0 where
  pub counts : Counts u
  pub grown : IsGrown t.ledger u.ledger

abbrev Growing : Topic → Topic → Type 0
Growing t u = Counts t → GrowsTo t u

-- a topic with the same ledger
as_before : (t u : Topic) → u.ledger ≡ t.ledger → u.committed ≡ t.committed → u.doubt ≡ t.doubt → length t.waiting ≤ length u.waiting → Growing t u
as_before t u ledger committed doubt waiting c =
    let end : end_of u.ledger ≡ end_of t.ledger = ap (λ (l : Ledger). end_of l) ledger in
    let least : floor u ≡ floor t = ap (λ (l : Ledger). floor_of l.base u.doubt) ledger ∙ ap (λ (o : Option Doubt). floor_of t.ledger.base o) doubt in
    record {
      counts = record {
        counted = omega (arith, c.counted, end, committed);
        fits = omega (arith, c.fits, waiting, ap (λ (o : Option Doubt). entries_of o) doubt);
        trims = omega (arith, c.trims, least, committed);
      };
      grown = same_grown t.ledger u.ledger ledger;
    }

same_topic : (t u : Topic) → u ≡ t → Growing t u
same_topic t u is = subst (λ (x : Topic). Growing t x) (sym is) (as_before t t refl refl refl (omega arith))

module _ (t : Topic) (c : Counts t) where
  longer_end : end_of (lengthened t.ledger (entries_in_doubt t)) ≡ t.committed + entries_of t.doubt
  longer_end = omega (arith, c.counted, end_lengthened t.ledger (entries_in_doubt t), length-take-le (entries_of t.doubt) t.waiting c.fits)

  taken_grows : (p : ℕ) → IsTrimPoint t p → GrowsTo t (handed_on t p)
  taken_grows p point = record {
    counts = record {
      counted = c.counted;
      fits = omega arith;
      trims = ⊎_elim (λ at_base. omega (arith, at_base, c.counted)) (λ passed. passed.committed) point;
    };
    grown = same_grown t.ledger t.ledger refl;
  }

  finished_grows : (b : ℕ) → b ≤ floor t → GrowsTo t (finished t b)
  finished_grows b low =
      let within : b ≤ end_of (lengthened t.ledger (entries_in_doubt t)) = omega (arith, low, c.trims, longer_end) in
      record {
        counts = record {
          counted = end_trimmed (lengthened t.ledger (entries_in_doubt t)) b within ∙ longer_end;
          fits = omega arith;
          trims = omega (arith, low, c.trims, c.counted);
        };
        grown = record { more = entries_in_doubt t; below = b; within = within; is = refl };
      }

  back_grows : GrowsTo t (taken_back t)
  back_grows = record { counts = record { counted = c.counted; fits = omega arith; trims = omega (arith, c.counted) }; grown = same_grown t.ledger t.ledger refl }

  failed_grows : GrowsTo t (failed t)
  failed_grows = record { counts = record { counted = c.counted; fits = c.fits; trims = c.trims }; grown = same_grown t.ledger t.ledger refl }

  -- over what a crash leaves of it nothing waits
  left_grows : (u : Topic) → IsLeft t u.ledger u.kept → u.committed ≡ end_of u.ledger → u.doubt ≡ None → GrowsTo t u
  left_grows u is_left counted sure =
      let front = left_front t u.ledger u.kept is_left in
      record {
        counts = record {
          counted = sym counted;
          fits = omega (arith, ap (λ (o : Option Doubt). entries_of o) sure);
          trims = omega (arith, counted, ap (λ (o : Option Doubt). floor_of u.ledger.base o) sure);
        };
        grown = record {
          more = front.more;
          below = front.trim;
          within = omega (arith, front.below, c.trims, c.counted, length-append t.ledger.entries front.more);
          is = front.grown;
        };
      }

flush_grows : RespectedByFlushes Growing
flush_grows = record {
  same = λ t c. record { counts = c; grown = same_grown t.ledger t.ledger refl };
  then = λ t u v p q c. let first = p c in let second = q first.counts in record { counts = second.counts; grown = grows_both t.ledger u.ledger v.ledger first.grown second.grown };
  take = λ t p point c. taken_grows t c p point;
  finish = λ t b low c. finished_grows t c b low;
  take_back = λ t c. back_grows t c;
  fail = λ t c. failed_grows t c;
}

awaits_grows : (who : ℕ) (t u : Topic) → Awaits who t u → Growing t u
awaits_grows who t u a = as_before t u a.ledger a.committed a.doubt (omega (arith, ap (λ (w : List (List ℕ)). length w) a.waiting))

command_grows : (t : Topic) (who : ℕ) (c : TopicCommand) (a : Answer) (u : Topic) → TopicStep t who c a u → Growing t u
command_grows t who c a u step = by_command t who (λ c a u. Growing t u)
    (λ c a u none awaits. awaits_grows who t u awaits)
    (λ send u works is. subst (λ (x : Topic). Growing t x) (sym is) (sent_grows send))
    c a u step
  where
    sent_grows : (send : Send) → Growing t (accepted t who send.producer_id send.sequence_id (bytes_of send.entry))
    sent_grows send =
        let v = accepted t who send.producer_id send.sequence_id (bytes_of send.entry) in
        as_before t v refl refl refl (omega (arith, length-append t.waiting (bytes_of send.entry ∷ [])))

-- a topic of which only queues, producers or subscriptions changed
beside : (t u v : Topic) → u ≡ v → v.ledger ≡ t.ledger → v.committed ≡ t.committed → v.doubt ≡ t.doubt → v.waiting ≡ t.waiting → Growing t u
beside t u v is ledger committed doubt waiting =
    subst (λ (x : Topic). Growing t x) (sym is) (as_before t v ledger committed doubt (omega (arith, ap (λ (w : List (List ℕ)). length w) waiting)))

reopened_grows : (t u : Topic) → Reopened t u → Growing t u
reopened_grows t u again c =
    left_grows t c u again.left (ap (λ (x : Topic). x.committed) again.again) (ap (λ (x : Topic). x.doubt) again.again)

pub move_grows : (t : Topic) (m : Move) (u : Topic) → MoveStep t m u → Counts t → GrowsTo t u
move_grows t (Command who c a) u s = command_grows t who c a u s
move_grows t (Tell h) u s = beside t u (collected t h.session h.reply) s.taken refl refl refl refl
move_grows t (Lose h) u s = beside t u (collected t h.session h.reply) s.taken refl refl refl refl
move_grows t (Grant who id permits result) u s = awaits_grows who t u (granted_topic result t who id permits u s)
move_grows t (Deliver id h) u s = awaits_grows h.session t u (sent_topic h.session t _ s.0 u s.1.sent)
move_grows t (Miss id h) u s = awaits_grows h.session t u (sent_topic h.session t _ s.0 u s.1.sent)
move_grows t (Leave who) u s = beside t u (left t who) s refl refl refl refl
move_grows t (Flush result) u s = flushing Growing flush_grows t result u s
move_grows t (Take result) u s = taking Growing flush_grows t result u s
move_grows t (Finish written result) u s = finishing Growing flush_grows t written result u s
move_grows t (Reopen result) u s = ⊎_elim (λ is. same_topic t u is) (λ again. reopened_grows t u again) (reopen_cases t result u s)
move_grows t Crash u s = λ c. left_grows t c u s.left (ap (λ (x : Topic). x.committed) s.again) (ap (λ (x : Topic). x.doubt) s.again)
move_grows t Cut u s = cutting Growing flush_grows t u s

abbrev GrowsBy : Topic → List Move → Topic → Type 0
GrowsBy t moves u = Growing t u

grows_by : Respected GrowsBy
grows_by = record {
  same = λ t. same_topic t t refl;
  then = λ t m u ms v step rest. flush_grows.then t u v (move_grows t m u step) rest;
}

pub moves_grow : (t : Topic) (moves : List Move) (u : Topic) → Moves t moves u → Counts t → GrowsTo t u
moves_grow t moves u steps = respects GrowsBy grows_by t moves u steps

pub quiet_counts : (t : Topic) → IsQuiet t → Counts t
quiet_counts t q = record { counted = q.counted; fits = omega (arith, q.sure); trims = q.trims }

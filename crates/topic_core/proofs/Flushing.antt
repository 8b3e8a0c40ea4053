-- A flush, from its parts.
use Rattle.std.proofs.Common.{◌≡◌, ℕ, ◌+◌, Bool, true, false, ◌&&◌, ◌||◌, max, nat_eq, Option, Some, None, is_some, Result, List, [], ◌∷◌, ◌++◌, length, drop, map, replicate, refl, ap, sym, subst, ◌∙◌, arith}
use Rattle.std.specs.List.{AllByRecursion, list_all}
use Rattle.std.proofs.lemmas.Bool.{eqb-true, false≢true, true≢false}
use Rattle.std.proofs.lemmas.List.{take_all, drop_all}
use Rattle.commands.specs.declared.reply.Reply.{Reply}
use Rattle.topic_stores.specs.declared.error.WriteError.{WriteError}
use Rattle.managed_ledger.specs.Entries.{Ledger, lengthened, trimmed}
use Rattle.managed_ledger.specs.Trims.{lengthened_none}
use Rattle.records.specs.Maps.{Kept}
use Rattle.records.specs.Records.{after_all}
use Rattle.topic_core.specs.Steps.{is_open}
use Rattle.records.specs.declared.record.Record.{Record}
use Rattle.reply_queues.specs.Replies.{SessionReplies, hand_on, make_due, take_back, make_all_due}
use Rattle.topic_core.specs.State.{Topic, Doubt}
use Rattle.topic_core.specs.declared.producer.Producer.{Producer}
use Rattle.topic_core.specs.Soundness.{IsSound}
use Rattle.topic_core.proofs.States.{closed_gone, all_back}
use Rattle.topic_core.specs.Flush.{has_no_flush, is_idle, handed_on, finished, taken_back, flushed, FlushStep, FlushIn, FlushEnds}

-- two cores whose parts that a flush changes agree
alike : (t : Topic) (c : ℕ) (l l' : Ledger) (k k' : Kept) (w w' : List (List ℕ)) (ch ch' : List Record) (sl ms : List ℕ) (qs qs' : List SessionReplies) (ps ps' : List Producer) (d d' : Option Doubt) → l ≡ l' → k ≡ k' → w ≡ w' → ch ≡ ch' → qs ≡ qs' → ps ≡ ps' → d ≡ d'
    → (let a : Topic = record t { committed = c; ledger = l; kept = k; waiting = w; subs = record t.subs { changes = ch; slots = sl; messages = ms }; queues = qs; producers = ps; doubt = d } in
    let b : Topic = record t { committed = c; ledger = l'; kept = k'; waiting = w'; subs = record t.subs { changes = ch'; slots = sl; messages = ms }; queues = qs'; producers = ps'; doubt = d' } in a ≡ b)
alike t c l l' k k' w w' ch ch' sl ms qs qs' ps ps' d d' el ek ew ech eqs eps ed =
    ap (λ (x : Ledger). let a : Topic = record t { committed = c; ledger = x; kept = k; waiting = w; subs = record t.subs { changes = ch; slots = sl; messages = ms }; queues = qs; producers = ps; doubt = d } in a) el
    ∙ ap (λ (x : Kept). let a : Topic = record t { committed = c; ledger = l'; kept = x; waiting = w; subs = record t.subs { changes = ch; slots = sl; messages = ms }; queues = qs; producers = ps; doubt = d } in a) ek
    ∙ ap (λ (x : List (List ℕ)). let a : Topic = record t { committed = c; ledger = l'; kept = k'; waiting = x; subs = record t.subs { changes = ch; slots = sl; messages = ms }; queues = qs; producers = ps; doubt = d } in a) ew
    ∙ ap (λ (x : List Record). let a : Topic = record t { committed = c; ledger = l'; kept = k'; waiting = w'; subs = record t.subs { changes = x; slots = sl; messages = ms }; queues = qs; producers = ps; doubt = d } in a) ech
    ∙ ap (λ (x : List SessionReplies). let a : Topic = record t { committed = c; ledger = l'; kept = k'; waiting = w'; subs = record t.subs { changes = ch'; slots = sl; messages = ms }; queues = x; producers = ps; doubt = d } in a) eqs
    ∙ ap (λ (x : List Producer). let a : Topic = record t { committed = c; ledger = l'; kept = k'; waiting = w'; subs = record t.subs { changes = ch'; slots = sl; messages = ms }; queues = qs'; producers = x; doubt = d } in a) eps
    ∙ ap (λ (x : Option Doubt). let a : Topic = record t { committed = c; ledger = l'; kept = k'; waiting = w'; subs = record t.subs { changes = ch'; slots = sl; messages = ms }; queues = qs'; producers = ps'; doubt = x } in a) ed

-- all replies of a session, handed on and made due
due-handed_on : (q : SessionReplies) → make_due (hand_on q) ≡ make_all_due q
due-handed_on q =
    ap (λ (x : List Reply). let a : SessionReplies = record q { due = q.due ++ x; pending = drop (length q.pending) q.pending; handed_on = 0 } in a) (take_all (length q.pending) q.pending (omega arith))
    ∙ ap (λ (x : List Reply). let a : SessionReplies = record q { due = q.due ++ q.pending; pending = x; handed_on = 0 } in a) (drop_all (length q.pending) q.pending (omega arith))

all-due : (qs : List SessionReplies) → map (λ q. make_due q) (map (λ q. hand_on q) qs) ≡ map (λ q. make_all_due q) qs
all-due [] = refl
all-due (q ∷ qs) = ap (λ x. x ∷ map (λ y. make_due y) (map (λ y. hand_on y) qs)) (due-handed_on q) ∙ ap (λ xs. make_all_due q ∷ xs) (all-due qs)

-- the good end of a flush of all that waits
pub finished-handed_on : (t : Topic) (limit trim : ℕ) → finished (handed_on t limit) trim ≡ flushed t trim
finished-handed_on t limit trim =
    alike t (t.committed + length t.waiting) _ (trimmed trim (lengthened t.ledger t.waiting)) _ (after_all t.subs.changes t.kept) (drop (length t.waiting) t.waiting) [] (drop (length t.subs.changes) t.subs.changes) []
    (replicate (max t.ledger.base trim) 0 ++ drop (max t.ledger.base trim) t.subs.slots) (replicate (max t.ledger.base trim) 1 ++ drop (max t.ledger.base trim) t.subs.messages) _ _ _ _ None None
    (ap (λ (x : List (List ℕ)). trimmed trim (lengthened t.ledger x)) (take_all (length t.waiting) t.waiting (omega arith))) (ap (λ (x : List Record). after_all x t.kept) (take_all (length t.subs.changes) t.subs.changes (omega arith)))
    (drop_all (length t.waiting) t.waiting (omega arith)) (drop_all (length t.subs.changes) t.subs.changes (omega arith)) (all-due t.queues) (closed_gone t.producers) refl

-- its end without an effect
same-queue : (q : SessionReplies) → q.handed_on ≡ 0 → take_back (hand_on q) ≡ q
same-queue q none = ap (λ (x : ℕ). let a : SessionReplies = record q { handed_on = x } in a) (sym none)

same-queues : (qs : List SessionReplies) → AllByRecursion (λ q. q.handed_on ≡ 0) qs → map (λ q. take_back q) (map (λ q. hand_on q) qs) ≡ qs
same-queues [] none = refl
same-queues (q ∷ qs) none = ap (λ x. x ∷ map (λ y. take_back y) (map (λ y. hand_on y) qs)) (same-queue q none.0) ∙ ap (λ xs. q ∷ xs) (same-queues qs none.1)

pub taken_back-handed_on : (t : Topic) (limit : ℕ) → IsSound t → t.doubt ≡ None → taken_back (handed_on t limit) ≡ t
taken_back-handed_on t limit sound none = alike t t.committed t.ledger t.ledger t.kept t.kept t.waiting t.waiting t.subs.changes t.subs.changes t.subs.slots t.subs.messages _ _ _ _ None t.doubt refl refl refl refl (same-queues t.queues (sound.sure none)) (all_back t.producers (sound.closing none)) (sym none)

-- nothing waits: a flush has nothing to change
pub and_first : (a b : Bool) → (a && b) ≡ true → a ≡ true
and_first true b h = refl
and_first false b h = h

pub and_second : (a b : Bool) → (a && b) ≡ true → b ≡ true
and_second true b h = h
and_second false b h = absurd (false≢true h)

pub empty : {A : Type 0} (xs : List A) → length xs ≡ 0 → [] ≡ xs
empty [] h = refl
empty (x ∷ xs) h = absurd (omega (arith, h))

pub idle-append : {A : Type 0} (xs ys : List A) → [] ≡ ys → xs ++ ys ≡ xs
idle-append [] ys h = sym h
idle-append (x ∷ xs) ys h = ap (λ zs. x ∷ zs) (idle-append xs ys h)

pub idle-lengthened : (l : Ledger) (ys : List (List ℕ)) → [] ≡ ys → lengthened l ys ≡ l
idle-lengthened l ys h = ap (λ (zs : List (List ℕ)). lengthened l zs) (sym h) ∙ lengthened_none l

-- but for closing producers
idle-others : (t : Topic) → is_idle t ≡ true → (nat_eq (length t.waiting) 0 && nat_eq (length t.subs.changes) 0 && list_all (λ q. nat_eq (length q.pending) 0) t.queues) ≡ true
idle-others t idle = and_first (nat_eq (length t.waiting) 0 && nat_eq (length t.subs.changes) 0 && list_all (λ q. nat_eq (length q.pending) 0) t.queues) _ idle

pub idle-waiting : (t : Topic) → is_idle t ≡ true → length t.waiting ≡ 0
idle-waiting t idle = eqb-true (length t.waiting) 0 (and_first (nat_eq (length t.waiting) 0) _ (and_first (nat_eq (length t.waiting) 0 && nat_eq (length t.subs.changes) 0) _ (idle-others t idle)))

pub idle-changes : (t : Topic) → is_idle t ≡ true → length t.subs.changes ≡ 0
idle-changes t idle = eqb-true (length t.subs.changes) 0 (and_second (nat_eq (length t.waiting) 0) _ (and_first (nat_eq (length t.waiting) 0 && nat_eq (length t.subs.changes) 0) _ (idle-others t idle)))

pub idle-queues-of : (t : Topic) → is_idle t ≡ true → list_all (λ q. nat_eq (length q.pending) 0) t.queues ≡ true
idle-queues-of t idle = and_second (nat_eq (length t.waiting) 0 && nat_eq (length t.subs.changes) 0) _ (idle-others t idle)

pub idle-producers : (t : Topic) → is_idle t ≡ true → list_all (λ p. is_open p.state) t.producers ≡ true
idle-producers t idle = and_second (nat_eq (length t.waiting) 0 && nat_eq (length t.subs.changes) 0 && list_all (λ q. nat_eq (length q.pending) 0) t.queues) _ idle

-- what a flag says of the doubt
no_doubt : (d : Option Doubt) → is_some d ≡ false → d ≡ None
no_doubt None h = refl
no_doubt (Some d) h = absurd (true≢false h)

or_first : (a b : Bool) → (a || b) ≡ false → a ≡ false
or_first true b h = h
or_first false b h = refl

pub begun : (t : Topic) → has_no_flush t ≡ false → t.doubt ≡ None
begun t h = no_doubt t.doubt (or_first (is_some t.doubt) (is_idle t) h)

-- without a doubt nothing waits
pub idle-where : (t : Topic) → t.doubt ≡ None → has_no_flush t ≡ true → is_idle t ≡ true
idle-where t none nothing = sym (ap (λ d. is_some d || is_idle t) none) ∙ nothing

-- a flush that began comes to its end
pub ends : (t new : Topic) (result : Result ℕ WriteError) → t.failed ≡ false → has_no_flush t ≡ false → FlushEnds t result new → FlushStep t result new
ends t new result works some h =
    let P : Bool → Type 0 = λ b. FlushIn b (has_no_flush t) t result new in
    let Q : Bool → Type 0 = λ b. FlushIn false b t result new in
    subst P (sym works) (subst Q (sym some) h)

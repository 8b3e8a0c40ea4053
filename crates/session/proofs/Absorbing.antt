-- A session that leaves absorbs a reply that it took.
use Rattle.std.proofs.Common.{◌≡◌, ℕ, ◌+◌, List, [], ◌∷◌, Bool, true, false, not, cond, map, filter, set, refl, sym, ap, ◌∙◌, arith}
use Rattle.std.proofs.lemmas.List.{map-set}
use Rattle.std.proofs.Math.Seq.{map-set_same}
use Rattle.commands.specs.declared.reply.Reply.{Reply}
use Rattle.reply_queues.specs.Replies.{SessionReplies, is_for, is_receipt, without_first, collected_from}
use Rattle.topic_core.specs.State.{Topic}
use Rattle.topic_core.specs.Steps.{left, collected, receipts_of}
use Rattle.session.specs.Broker.{Broker, fresh, topic_at, with_topic, collected_at, left_all}
use Rattle.session.specs.Laws.{counted, LostRepliesAreAbsorbed}
use Rattle.session.proofs.Ends.{topic_at-left_all}

-- the queue of the session goes, whatever was taken from it
queues_left-cons : (who : ℕ) (q : SessionReplies) (rest : List SessionReplies) (b : Bool) → is_for who q ≡ b
    → filter (λ q. not (is_for who q)) (collected_from who rest) ≡ filter (λ q. not (is_for who q)) rest
    → filter (λ q. not (is_for who q)) (cond b (without_first q ∷ rest) (q ∷ collected_from who rest)) ≡ filter (λ q. not (is_for who q)) (q ∷ rest)
queues_left-cons who q rest true e h =
    let others = filter (λ q. not (is_for who q)) rest in
    ap (λ b. cond (not b) (without_first q ∷ others) others) e ∙ sym (ap (λ b. cond (not b) (q ∷ others) others) e)
queues_left-cons who q rest false e h = ap (λ (qs : List SessionReplies). cond (not (is_for who q)) (q ∷ qs) qs) h

queues_left : (who : ℕ) (queues : List SessionReplies) → filter (λ q. not (is_for who q)) (collected_from who queues) ≡ filter (λ q. not (is_for who q)) queues
queues_left who [] = refl
queues_left who (q ∷ queues) = queues_left-cons who q queues (is_for who q) refl (queues_left who queues)

left_collected : (t : Topic) (who : ℕ) (reply : Reply) → left (collected t who reply) who ≡ counted (left t who) reply
left_collected t who reply = ap (λ (qs : List SessionReplies). let x : Topic = record (counted (left t who) reply) { queues = qs } in x) (queues_left who t.queues)

absorbed : (b : Broker) (number who : ℕ) (reply : Reply)
    → left_all (collected_at b number who reply) who ≡ with_topic (left_all b who) number (counted (topic_at (left_all b who) number) reply)
absorbed b number who reply =
    let was = topic_at b number in
    let each : List Topic = map (λ t. left t who) b.topics in
    ap (λ (ts : List Topic). let x : Broker = record b { topics = ts } in x)
    (map-set (λ t. left t who) b.topics number (collected was who reply)
    ∙ ap (λ (t : Topic). set each number t) (left_collected was who reply ∙ ap (λ (t : Topic). counted t reply) (sym (topic_at-left_all b who number))))

-- a reply that is no receipt isn't counted
uncounted : (t : Topic) (reply : Reply) → is_receipt reply ≡ false → counted t reply ≡ t
uncounted t reply none =
    let same : t.handed + receipts_of reply ≡ t.handed = ap (λ b. t.handed + cond b 1 0) none ∙ omega arith in
    ap (λ n. let x : Topic = record t { handed = n } in x) same

absorbed_whole : (b : Broker) (number who : ℕ) (reply : Reply) → is_receipt reply ≡ false → left_all (collected_at b number who reply) who ≡ left_all b who
absorbed_whole b number who reply none =
    let was = topic_at b number in
    ap (λ (ts : List Topic). let x : Broker = record b { topics = ts } in x)
    (map-set_same (λ t. left t who) b.topics number (collected was who reply) (fresh b.per_ledger) (left_collected was who reply ∙ uncounted (left was who) reply none))

pub lost_replies_are_absorbed : LostRepliesAreAbsorbed
lost_replies_are_absorbed = record { counts = absorbed; others = absorbed_whole }

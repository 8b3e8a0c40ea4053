-- What unfolds one after another.
use Rattle.std.proofs.Common.{◌≡◌, ◌≢◌, ◌⊎◌, inl, inr, ⊎_elim, ◌∙◌, ℕ, ◌<◌, Bool, true, false, cond, nat_eq, List, [], ◌∷◌, ◌++◌, length, get_or, set, get_or-set_other, get_or-set_same, refl, sym, ap, subst, append_assoc, append-nil, filter, Some}
use Rattle.std.proofs.lemmas.Bool.Decides.{eqb_tells}
use Rattle.std.proofs.lemmas.Grind.{flat_map-append}
use Rattle.std.proofs.lemmas.List.Elements.{filter-append}
use Rattle.commands.specs.declared.giving_back.CloseConsumer.{CloseConsumer}
use Rattle.commands.specs.declared.reply.Reply.{Reply}
use Rattle.commands.specs.declared.reply.Reply.TheVariants.{Success}
use Rattle.frames.specs.declared.frame.Frame.{Frame}
use Rattle.reply_queues.specs.Replies.{is_receipt}
use Rattle.topic_core.specs.declared.command.Answer.TheVariants.{Now}
use Rattle.topic_core.specs.declared.command.TopicCommand.TheVariants as asked
use Rattle.topic_core.specs.declared.dispatch.Outgoing.{Outgoing}
use Rattle.topic_core.specs.State.{Topic}
use Rattle.session.specs.Broker.{Broker, topic_at, with_topic, fresh}
use Rattle.session.specs.Client.{plain, frame_of, frames_of, IsBounded, AreBounded}
use Rattle.std.specs.List.{AllByRecursion}
use Rattle.node.specs.Moves.{Handed, Move, Command, MoveStep, Moves, told_on, told_by, is_of_session}
use Rattle.node.specs.Origins.{Origin, Worked, has_origin, moves_of, moves_from}
use Rattle.node.specs.Promising.{is_acceptance}
use Rattle.node.specs.Telling.{Said, AtOnce, From, outgoing_of, all_outgoing, listener, from_topic, IsDetached, IsAtOnce, AnswersAreAtOnce, is_message, AreFor, Course, Talk, Unfolds}

-- moves, and then others
pub Moves-append : (t : Topic) (first : List Move) (u : Topic) (then : List Move) (v : Topic) → Moves t first u → Moves u then v → Moves t (first ++ then) v
Moves-append t [] u then v a b = let P : Topic → Type 0 = λ x. Moves x then v in subst P a b
Moves-append t (m ∷ ms) u then v a b = (a.0, a.1, Moves-append a.0 ms u then v a.2 b)

pub told_by-append : (first then : List Move) → told_by (first ++ then) ≡ told_by first ++ told_by then
told_by-append [] then = refl
told_by-append (m ∷ ms) then = ap (λ (l : List Handed). told_on m ++ l) (told_by-append ms then) ∙ sym (append_assoc (told_on m) (told_by ms) (told_by then))

unfoldable pub still_course : (t : Topic) → Course t [] t
still_course t = record { moves = []; steps = refl; tells = refl }

pub one_move : (t : Topic) (m : Move) (u : Topic) → MoveStep t m u → Course t (told_on m) u
one_move t m u step = record { moves = m ∷ []; steps = (u, step, refl); tells = sym (append-nil (told_on m)) }

unfoldable pub then_course : (t u v : Topic) (first then told : List Handed) → told ≡ first ++ then → Course t first u → Course u then v → Course t told v
then_course t u v first then told is a b = record {
  moves = a.moves ++ b.moves;
  steps = Moves-append t a.moves u b.moves v a.steps b.steps;
  tells = is ∙ ap (λ (l : List Handed). l ++ then) a.tells ∙ ap (λ (l : List Handed). told_by a.moves ++ l) b.tells ∙ sym (told_by-append a.moves b.moves);
}

all_both : {A : Type 0} (P : A → Type 0) (xs ys : List A) → AllByRecursion P xs → AllByRecursion P ys → AllByRecursion P (xs ++ ys)
all_both P [] ys a b = b
all_both P (x ∷ xs) ys a b = (a.0, all_both P xs ys a.1 b)

-- those of a list of moves that come from what came in
abbrev pub caused : List Move → List Move
caused moves = filter (λ move. has_origin move) moves

pub caused_both : (first then asked later : List Move) → caused first ≡ asked → caused then ≡ later → caused (first ++ then) ≡ asked ++ later
caused_both first then asked later a b = filter-append (λ move. has_origin move) first then ∙ ap (λ (l : List Move). l ++ caused then) a ∙ ap (λ (l : List Move). asked ++ l) b

-- so of a session
pub still_talk : (t : Topic) → Talk t [] [] t
unfolding still_course
still_talk t = record { course = still_course t; own = tt; asks = refl }

pub one_talk : (t : Topic) (m : Move) (u : Topic) → MoveStep t m u → is_of_session m ≡ true → Talk t (told_on m) (caused (m ∷ [])) u
unfolding one_move
one_talk t m u step own = record { course = one_move t m u step; own = (own, tt); asks = refl }

then_talk : (t u v : Topic) (first then told : List Handed) (asked later all : List Move) → told ≡ first ++ then → all ≡ asked ++ later → Talk t first asked u → Talk u then later v → Talk t told all v
unfolding then_course
then_talk t u v first then told asked later all is are a b = record {
  course = then_course t u v first then told is a.course b.course;
  own = all_both (λ (m : Move). is_of_session m ≡ true) a.course.moves b.course.moves a.own b.own;
  asks = caused_both a.course.moves b.course.moves asked later a.asks b.asks ∙ sym are;
}

-- the topic of a number tells one thing
pub told_at : (topics : List Topic) (at number : ℕ) (t other : Topic) (handed : Handed) → at < length topics → Talk (get_or topics at other) (handed ∷ []) [] t
    → Talk (get_or topics number other) (cond (nat_eq at number) (handed ∷ []) []) [] (get_or (set topics at t) number other)
told_at topics at number t other handed within course =
    let P : Bool → Type 0 = λ b. Talk (get_or topics number other) (cond b (handed ∷ []) []) [] (get_or (set topics at t) number other) in
    ⊎_elim
    (λ same.
    let Q : ℕ → Type 0 = λ n. Talk (get_or topics n other) (handed ∷ []) [] (get_or (set topics at t) n other) in
    let R : Topic → Type 0 = λ u. Talk (get_or topics at other) (handed ∷ []) [] u in
    subst P (sym same.0) (subst Q same.1 (subst R (sym (get_or-set_same topics at t other within)) course)))
    (λ differs.
    let R : Topic → Type 0 = λ u. Talk (get_or topics number other) [] [] u in
    subst P (sym differs.0) (subst R (sym (get_or-set_other topics at number t other (λ is. differs.1 (sym is)))) (still_talk (get_or topics number other))))
    (eqb_tells at number)

-- what comes from these, and then from others
pub moves_from-append : (number : ℕ) (xs ys : List Origin) → moves_from number (xs ++ ys) ≡ moves_from number xs ++ moves_from number ys
moves_from-append number [] ys = refl
moves_from-append number (x ∷ xs) ys = ap (λ (l : List Move). moves_of number x ++ l) (moves_from-append number xs ys) ∙ sym (append_assoc (moves_of number x) (moves_from number xs) (moves_from number ys))

pub all_outgoing-append : (xs ys : List Said) → all_outgoing (xs ++ ys) ≡ all_outgoing xs ++ all_outgoing ys
all_outgoing-append [] ys = refl
all_outgoing-append (x ∷ xs) ys = ap (λ (l : List Outgoing). outgoing_of x ∷ l) (all_outgoing-append xs ys)

-- a CLOSE_CONSUMER that was accepted on moves was so on more of them
module _ (who : ℕ) (reply : Reply) (first then : List Move) where
  detached_first : IsDetached first who reply → IsDetached (first ++ then) who reply
  detached_first d = record {
    close = d.close;
    before = d.before;
    after = d.after ++ then;
    splits = ap (λ (l : List Move). l ++ then) d.splits ∙ append_assoc d.before (Command who (asked.CloseConsumer d.close) (Now reply) ∷ d.after) then;
    success = d.success;
  }

  detached_then : IsDetached then who reply → IsDetached (first ++ then) who reply
  detached_then d = record {
    close = d.close;
    before = first ++ d.before;
    after = d.after;
    splits = ap (λ (l : List Move). first ++ l) d.splits ∙ sym (append_assoc first d.before (Command who (asked.CloseConsumer d.close) (Now reply) ∷ d.after));
    success = d.success;
  }

module _ (first then : ℕ → List Move) where
  abbrev both : ℕ → List Move
  both number = first number ++ then number

  first_more : (who : ℕ) (reply : Reply) → IsAtOnce first who reply → IsAtOnce both who reply
  first_more who reply is = record {
    no_receipt = is.no_receipt;
    no_message = is.no_message;
    accepts = λ accepts. let d = is.accepts accepts in (d.0, detached_first who reply (first d.0) (then d.0) d.1);
  }

  then_more : (who : ℕ) (reply : Reply) → IsAtOnce then who reply → IsAtOnce both who reply
  then_more who reply is = record {
    no_receipt = is.no_receipt;
    no_message = is.no_message;
    accepts = λ accepts. let d = is.accepts accepts in (d.0, detached_then who reply (first d.0) (then d.0) d.1);
  }

  pub at_once_then : (ys : List Said) → AnswersAreAtOnce then ys → AnswersAreAtOnce both ys
  at_once_then [] b = tt
  at_once_then (AtOnce who reply ∷ ys) b = (then_more who reply b.0, at_once_then ys b.1)
  at_once_then (From number handed ∷ ys) b = at_once_then ys b

  pub at_once-append : (xs ys : List Said) → AnswersAreAtOnce first xs → AnswersAreAtOnce then ys → AnswersAreAtOnce both (xs ++ ys)
  at_once-append [] ys a b = at_once_then ys b
  at_once-append (AtOnce who reply ∷ xs) ys a b = (first_more who reply a.0, at_once-append xs ys a.1 b)
  at_once-append (From number handed ∷ xs) ys a b = at_once-append xs ys a b

cond-append : (b : Bool) (h : Handed) (xs ys : List Handed) → cond b (h ∷ (xs ++ ys)) (xs ++ ys) ≡ cond b (h ∷ xs) xs ++ ys
cond-append true h xs ys = refl
cond-append false h xs ys = refl

pub from_topic-append : (number : ℕ) (xs ys : List Said) → from_topic number (xs ++ ys) ≡ from_topic number xs ++ from_topic number ys
from_topic-append number [] ys = refl
from_topic-append number (AtOnce who reply ∷ xs) ys = from_topic-append number xs ys
from_topic-append number (From other handed ∷ xs) ys =
    ap (λ (l : List Handed). cond (nat_eq other number) (handed ∷ l) l) (from_topic-append number xs ys)
    ∙ cond-append (nat_eq other number) handed (from_topic number xs) (from_topic number ys)

pub for-append : (who : ℕ) (xs ys : List Said) → AreFor who xs → AreFor who ys → AreFor who (xs ++ ys)
for-append who xs ys a b = all_both (λ one. listener one ≡ who) xs ys a b

pub bounded-append : (xs ys : List Said) → AreBounded (all_outgoing xs) → AreBounded (all_outgoing ys) → AreBounded (all_outgoing (xs ++ ys))
bounded-append [] ys a b = b
bounded-append (x ∷ xs) ys a b = (a.0, bounded-append xs ys a.1 b)

-- nothing goes out
pub silently : (who : ℕ) (origins : List Origin) (b c : Broker) → ((number : ℕ) → Talk (topic_at b number) [] (moves_from number origins) (topic_at c number)) → Unfolds who origins b [] c
silently who origins b c each = record { said = []; written = refl; bounded = tt; heard = tt; each = each; at_once = tt }

pub silent : (who : ℕ) (b : Broker) → Unfolds who [] b [] b
silent who b = silently who [] b b (λ number. still_talk (topic_at b number))

-- the same, of an equal broker and equal bytes
pub becomes : (who : ℕ) (origins : List Origin) (b c c' : Broker) (x y : List ℕ) → Unfolds who origins b x c → y ≡ x → c' ≡ c → Unfolds who origins b y c'
becomes who origins b c c' x y s bytes is = subst (λ (l : List ℕ). Unfolds who origins b l c') (sym bytes) (subst (λ (d : Broker). Unfolds who origins b x d) (sym is) s)

pub alike : (who : ℕ) (b c : Broker) (bytes : List ℕ) → bytes ≡ [] → c ≡ b → Unfolds who [] b bytes c
alike who b c bytes none is = becomes who [] b b c [] bytes (silent who b) none is

pub one_frame : (outgoing : Outgoing) → frame_of outgoing ≡ frames_of (outgoing ∷ [])
one_frame outgoing = sym (append-nil (frame_of outgoing))

-- a reply that is no receipt, no message and no acceptance goes out
pub record IsPlain (reply : Reply) : Type 0 where
  pub no_receipt : is_receipt reply ≡ false
  pub no_message : is_message reply ≡ false
  pub no_acceptance : is_acceptance reply ≡ false

not_both : (b : Bool) → b ≡ false → b ≡ true → ⊥
not_both b isnt is = cc

plainly : (moves : ℕ → List Move) (who : ℕ) (reply : Reply) → IsPlain reply → IsAtOnce moves who reply
plainly moves who reply is = record { no_receipt = is.no_receipt; no_message = is.no_message; accepts = λ accepts. absurd (not_both (is_acceptance reply) is.no_acceptance accepts) }

pub at_once : (who : ℕ) (b c : Broker) (reply : Reply) → IsPlain reply → IsBounded (plain reply) → c ≡ b → Unfolds who [] b (frame_of (plain reply)) c
at_once who b c reply may bounded is = becomes who [] b b c (frame_of (plain reply)) (frame_of (plain reply))
    (record { said = AtOnce who reply ∷ []; written = one_frame (plain reply); bounded = (bounded, tt); heard = (refl, tt); each = λ number. still_talk (topic_at b number); at_once = (plainly _ who reply may, tt) }) refl is

pub then : (who : ℕ) (first later : List Origin) (a b c : Broker) (x y : List ℕ) → Unfolds who first a x b → Unfolds who later b y c → Unfolds who (first ++ later) a (x ++ y) c
unfolding then_course then_talk
then who first later a b c x y p q = record {
  said = p.said ++ q.said;
  written =
      ap (λ (l : List ℕ). l ++ y) p.written ∙ ap (λ (l : List ℕ). frames_of (all_outgoing p.said) ++ l) q.written
      ∙ sym (flat_map-append (λ one. frame_of one) (all_outgoing p.said) (all_outgoing q.said)) ∙ ap (λ (l : List Outgoing). frames_of l) (sym (all_outgoing-append p.said q.said));
  bounded = bounded-append p.said q.said p.bounded q.bounded;
  heard = for-append who p.said q.said p.heard q.heard;
  each = λ number.
      then_talk (topic_at a number) (topic_at b number) (topic_at c number) (from_topic number p.said) (from_topic number q.said) (from_topic number (p.said ++ q.said))
      (moves_from number first) (moves_from number later) (moves_from number (first ++ later))
      (from_topic-append number p.said q.said) (moves_from-append number first later) (p.each number) (q.each number);
  at_once = at_once-append (λ number. (p.each number).course.moves) (λ number. (q.each number).course.moves) p.said q.said p.at_once q.at_once;
}

-- one topic makes a move that a frame asked for
module _ (b c : Broker) (at : ℕ) (m : Move) (step : MoveStep (topic_at b at) m (topic_at c at)) (own : is_of_session m ≡ true) (tells : [] ≡ told_by (m ∷ [])) (asks : caused (m ∷ []) ≡ m ∷ [])
    (others : c ≡ with_topic b at (topic_at c at)) where
  abbrev pub Place : ℕ → Type 0
  Place number = ((nat_eq at number ≡ true) × (at ≡ number)) ⊎ ((nat_eq at number ≡ false) × (at ≢ number))

  asked_at : (number : ℕ) → Place number → Talk (topic_at b number) [] (cond (nat_eq at number) (m ∷ []) [] ++ []) (topic_at c number)
  asked_at number (inl same) = record {
    course = record { moves = m ∷ []; steps = subst (λ n. Moves (topic_at b n) (m ∷ []) (topic_at c n)) same.1 (topic_at c at, step, refl); tells = tells };
    own = (own, tt);
    asks = asks ∙ ap (λ (t : Bool). cond t (m ∷ []) [] ++ []) (sym same.0);
  }
  asked_at number (inr apart) =
      let R : Topic → Type 0 = λ u. Talk (topic_at b number) [] [] u in
      subst (λ (l : List Move). Talk (topic_at b number) [] l (topic_at c number)) (ap (λ (t : Bool). cond t (m ∷ []) [] ++ []) (sym apart.0))
      (subst (λ (x : Broker). R (topic_at x number)) (sym others)
      (subst R (sym (get_or-set_other b.topics at number (topic_at c at) (fresh b.per_ledger) (λ is. apart.1 (sym is)))) (still_talk (topic_at b number))))

  here : (d : Place at) → (asked_at at d).course.moves ≡ m ∷ []
  unfolding asked_at
  here (inl same) = refl
  here (inr apart) = absurd (apart.1 refl)

  pub asks_one : (hears who : ℕ) (frame : Frame) → Unfolds hears (Worked who frame (Some (record { topic = at; move = m })) ∷ []) b [] c
  asks_one hears who frame = silently hears (Worked who frame (Some (record { topic = at; move = m })) ∷ []) b c (λ number. asked_at number (eqb_tells at number))

  -- and is told that the topic accepted it, which goes out at once
  pub tells_at_once : (hears who : ℕ) (frame : Frame) (close : CloseConsumer) (reply : Reply) → m ≡ Command hears (asked.CloseConsumer close) (Now reply) → reply ≡ Success close.request_id → IsBounded (plain reply)
      → Unfolds hears (Worked who frame (Some (record { topic = at; move = m })) ∷ []) b (frame_of (plain reply)) c
  tells_at_once hears who frame close reply is success bounded = record {
    said = AtOnce hears reply ∷ [];
    written = one_frame (plain reply);
    bounded = (bounded, tt);
    heard = (refl, tt);
    each = λ number. asked_at number (eqb_tells at number);
    at_once = (
      record {
        no_receipt = ap (λ (r : Reply). is_receipt r) success;
        no_message = ap (λ (r : Reply). is_message r) success;
        accepts = λ accepts. (at, record { close = close; before = []; after = []; splits = here (eqb_tells at at) ∙ ap (λ (x : Move). x ∷ []) is; success = success });
      },
      tt,
    );
  }

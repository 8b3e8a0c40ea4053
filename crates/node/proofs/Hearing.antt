-- What is read in the bytes that went out to a session is what was said to it.
use Rattle.std.proofs.Common.{◌≡◌, ◌⊎◌, inl, inr, ◌∙◌, ℕ, nat_eq, Bool, true, false, cond, Option, Some, None, List, [], ◌∷◌, ◌++◌, refl, sym, ap, subst}
use Rattle.std.proofs.lemmas.Bool.{eqb-true, eq-eqb}
use Rattle.std.proofs.lemmas.Grind.{flat_map-append}
use Rattle.std.specs.List.{AllByRecursion}
use Rattle.topic_core.specs.declared.dispatch.Outgoing.{Outgoing}
use Rattle.topic_core.specs.State.{Topic}
use Rattle.session.specs.Broker.{Broker, topic_at}
use Rattle.session.specs.Client.{frame_of, frames_of, IsBounded, AreBounded}
use Rattle.session.proofs.Reading.{frames_tell}
use Rattle.node.specs.Moves.{Handed, Move, Moves}
use Rattle.node.specs.Telling.{Said, AtOnce, From, outgoing_of, all_outgoing, listener, said_to, from_topic, IsAtOnce, AnswersAreAtOnce, AreFor, AreHeard, Spells, heard_as, bytes_to}
use Rattle.node.specs.Finding.{sends_by, Finds, FindsEach}
use Rattle.node.specs.Delivering.{Delivers, DeliversEach}
use Rattle.node.specs.Promising.{nothing_yet}
use Rattle.node.specs.Answering.{Answers, AnswersEach}
use Rattle.node.specs.Laws.{AccountsTo, AreOf}
use Rattle.node.specs.Hearing.{handed_to, IsAccountedFor, FramesAreAccountedFor}
use Rattle.node.specs.declared.event.Output.{Output}
use Rattle.node.proofs.Saying.{all_outgoing-append}

-- the frames of what is said
abbrev spelled : List Said → List ℕ
spelled said = frames_of (all_outgoing said)

spelled-append : (xs ys : List Said) → spelled (xs ++ ys) ≡ spelled xs ++ spelled ys
spelled-append xs ys = ap (λ (l : List Outgoing). frames_of l) (all_outgoing-append xs ys) ∙ flat_map-append (λ one. frame_of one) (all_outgoing xs) (all_outgoing ys)

cond-append : (b : Bool) (x : Said) (xs ys : List Said) → cond b (x ∷ (xs ++ ys)) (xs ++ ys) ≡ cond b (x ∷ xs) xs ++ ys
cond-append true x xs ys = refl
cond-append false x xs ys = refl

said_to-append : (who : ℕ) (xs ys : List Said) → said_to who (xs ++ ys) ≡ said_to who xs ++ said_to who ys
said_to-append who [] ys = refl
said_to-append who (x ∷ xs) ys =
    ap (λ (l : List Said). cond (nat_eq (listener x) who) (x ∷ l) l) (said_to-append who xs ys) ∙ cond-append (nat_eq (listener x) who) x (said_to who xs) (said_to who ys)

-- what is for one session is said to it, and to no other one
all_to : (who : ℕ) (xs : List Said) → AreFor who xs → said_to who xs ≡ xs
all_to who [] h = refl
all_to who (x ∷ xs) h =
    ap (λ (b : Bool). cond b (x ∷ said_to who xs) (said_to who xs)) (eq-eqb (listener x) who h.0) ∙ ap (λ (l : List Said). x ∷ l) (all_to who xs h.1)

none_to : (who other : ℕ) (xs : List Said) → nat_eq other who ≡ false → AreFor other xs → said_to who xs ≡ []
none_to who other [] differs h = refl
none_to who other (x ∷ xs) differs h =
    ap (λ (b : Bool). cond b (x ∷ said_to who xs) (said_to who xs)) (ap (λ (n : ℕ). nat_eq n who) h.0 ∙ differs) ∙ none_to who other xs differs h.1

heard_if : (who other : ℕ) (b : Bool) (said : List Said) → nat_eq other who ≡ b → AreFor other said → cond b (spelled said) [] ≡ spelled (said_to who said)
heard_if who other true said same are =
    sym (ap (λ (l : List Said). spelled l) (all_to who said (subst (λ (n : ℕ). AreFor n said) (eqb-true other who same) are)))
heard_if who other false said differs are = sym (ap (λ (l : List Said). spelled l) (none_to who other said differs are))

heard_are : (who : ℕ) (hearer : Option ℕ) (said : List Said) → AreHeard hearer said → heard_as who hearer (spelled said) ≡ spelled (said_to who said)
heard_are who None said none = sym (ap (λ (l : List Said). spelled (said_to who l)) none)
heard_are who (Some other) said are = heard_if who other (nat_eq other who) said refl are

bytes_are : (who : ℕ) (hearers : List (Option ℕ)) (outputs : List Output) (said : List Said) → Spells hearers outputs said → bytes_to who hearers outputs ≡ spelled (said_to who said)
bytes_are who [] [] said s = sym (ap (λ (l : List Said). spelled (said_to who l)) s)
bytes_are who (hearer ∷ hearers) (output ∷ outputs) said s =
    ap (λ (l : List ℕ). heard_as who hearer l ++ bytes_to who hearers outputs) s.3
    ∙ ap (λ (l : List ℕ). l ++ bytes_to who hearers outputs) (heard_are who hearer s.0 s.4)
    ∙ ap (λ (l : List ℕ). spelled (said_to who s.0) ++ l) (bytes_are who hearers outputs s.1 s.5)
    ∙ sym (spelled-append (said_to who s.0) (said_to who s.1))
    ∙ ap (λ (l : List Said). spelled l) (sym (said_to-append who s.0 s.1))
    ∙ ap (λ (l : List Said). spelled (said_to who l)) (sym s.2)
bytes_are who [] (output ∷ outputs) said s = absurd s
bytes_are who (hearer ∷ hearers) [] said s = absurd s

-- what holds of each, of some of them
picked : (P : Outgoing → Type 0) (b : Bool) (x : Said) (xs : List Said) → (b ≡ true → P (outgoing_of x)) → AllByRecursion P (all_outgoing xs) → AllByRecursion P (all_outgoing (cond b (x ∷ xs) xs))
picked P true x xs h k = (h refl, k)
picked P false x xs h k = k

bounded_to : (who : ℕ) (xs : List Said) → AreBounded (all_outgoing xs) → AreBounded (all_outgoing (said_to who xs))
bounded_to who [] h = h
bounded_to who (x ∷ xs) h = picked IsBounded (nat_eq (listener x) who) x (said_to who xs) (λ to. h.0) (bounded_to who xs h.1)

pub are_of : (who : ℕ) (hearers : List (Option ℕ)) (outputs : List Output) (said : List Said) → Spells hearers outputs said → AreBounded (all_outgoing said)
    → AreOf (bytes_to who hearers outputs) (said_to who said)
are_of who hearers outputs said spells bounded =
    let are = bytes_are who hearers outputs said spells in
    let bound = bounded_to who said bounded in
    record { frames = are; bounded = bound; no_other = λ frames other same. frames_tell frames (all_outgoing (said_to who said)) other bound (same ∙ are) }

-- ---- each of what was said answers at once, or a topic accounts for it

module _ (moves : ℕ → List Move) (Vouches : ℕ → Handed → Type 0) (who : ℕ) where
  abbrev IsVouched : Outgoing → Type 0
  IsVouched one = IsAtOnce moves who one.reply ⊎ ((number : ℕ) × Vouches number (handed_to who one))

  behind : (b : Bool) (number : ℕ) (h : Handed) (hs : List Handed) → AllByRecursion (Vouches number) (cond b (h ∷ hs) hs) → AllByRecursion (Vouches number) hs
  behind true number h hs all = all.1
  behind false number h hs all = all

  first : (b : Bool) (number : ℕ) (h : Handed) (hs : List Handed) → b ≡ true → AllByRecursion (Vouches number) (cond b (h ∷ hs) hs) → Vouches number h
  first true number h hs is all = all.0
  first false number h hs is all = absurd cc

  all_vouched : (said : List Said) → AnswersAreAtOnce moves said → ((number : ℕ) → AllByRecursion (Vouches number) (from_topic number said)) → AllByRecursion IsVouched (all_outgoing (said_to who said))
  all_vouched [] at_once each = tt
  all_vouched (AtOnce other reply ∷ more) at_once each =
      picked IsVouched (nat_eq other who) (AtOnce other reply) (said_to who more) (λ to. inl (subst (λ n. IsAtOnce moves n reply) (eqb-true other who to) at_once.0)) (all_vouched more at_once.1 each)
  all_vouched (From number handed ∷ more) at_once each =
      let P : ℕ → Type 0 = λ n. Vouches number (record { session = n; reply = handed.reply; entry = handed.entry }) in
      picked IsVouched (nat_eq handed.session who) (From number handed) (said_to who more)
      (λ to. inr (number, subst P (eqb-true handed.session who to) (first (nat_eq number number) number handed (from_topic number more) (eq-eqb number number refl) (each number))))
      (all_vouched more at_once (λ other. behind (nat_eq number other) other handed (from_topic other more) (each other)))

-- what is found, delivered and answered, each by itself
module _ (t : Topic) (moves : List Move) (u : Topic) (steps : Moves t moves u) where
  abbrev IsVouchedFor : Handed → Type 0
  IsVouchedFor h = Finds (sends_by t moves u steps) u.ledger h × Delivers t moves u.ledger h × Answers t moves u steps nothing_yet h

  each_vouched : (hs : List Handed) → FindsEach (sends_by t moves u steps) u.ledger hs → DeliversEach t moves u.ledger hs → AnswersEach t moves u steps nothing_yet hs → AllByRecursion IsVouchedFor hs
  each_vouched [] found delivered answered = tt
  each_vouched (h ∷ hs) found delivered answered = ((found.0, delivered.0, answered.0), each_vouched hs found.1 delivered.1 answered.1)

module _ {old : Broker} {hearers : List (Option ℕ)} {outputs : List Output} {new : Broker} (account : AccountsTo old hearers outputs new) (who : ℕ) where
  abbrev moves_of : ℕ → List Move
  moves_of number = (account.each number).moves

  -- a topic of the account vouches for what it told
  abbrev Vouches : ℕ → Handed → Type 0
  Vouches number = IsVouchedFor (topic_at old number) (moves_of number) (topic_at new number) (account.each number).steps

  vouched : (number : ℕ) → AllByRecursion (Vouches number) (from_topic number account.said)
  vouched number =
      let a = account.each number in
      let t = topic_at old number in
      let u = topic_at new number in
      each_vouched t a.moves u a.steps (from_topic number account.said) a.found a.delivered
      (subst (λ (hs : List Handed). AnswersEach t a.moves u a.steps nothing_yet hs) (sym a.tells) a.word.answered)

  abbrev AreAccountedFor : List Outgoing → Type 0
  AreAccountedFor ones = AllByRecursion (λ one. IsAtOnce moves_of who one.reply ⊎ IsAccountedFor account who one) ones

  -- a frame of any list for which a topic vouches is accounted for
  accounted : (ones : List Outgoing) → AllByRecursion (IsVouched moves_of Vouches who) ones → AreAccountedFor ones
  accounted [] all = tt
  accounted (one ∷ ones) (inl plain, all) = (inl plain, accounted ones all)
  accounted (one ∷ ones) (inr told, all) = (inr (record { topic = told.0; receipt = told.1.0; message = told.1.1; answer = told.1.2 }), accounted ones all)

pub frames_accounted : FramesAreAccountedFor
frames_accounted old hearers outputs new account who frames bounded same =
    subst (AreAccountedFor account who) (sym ((account.heard who).no_other frames bounded same))
    (accounted account who (all_outgoing (said_to who account.said)) (all_vouched (moves_of account who) (Vouches account who) who account.said account.at_once (vouched account who)))

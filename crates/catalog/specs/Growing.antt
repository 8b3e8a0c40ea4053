-- Names behind names.
use Rattle.std.proofs.Common.{◌≡◌, ℕ, ◌<◌, Bool, true, false, ◌&&◌, ◌||◌, not, nat_lt, List, [], ◌∷◌, ◌++◌, length, refl, sym, ◌∙◌, ap, arith, length-append}
use Rattle.std.specs.List.{IsDistinct, AllByRecursion}
use Rattle.std.specs.Str.{bytes_eq}
use Rattle.std.proofs.lemmas.Bool.{ltb-true, lt-ltb}
use Rattle.std.proofs.lemmas.Cmp.{nat_list_eq_equiv}
use Rattle.names.specs.Names.{is_topic_name}
use Rattle.catalog.specs.Names.{Names, AreNames, has_name, can_follow}

-- a name that may be the next one, in plain words
pub record IsNext (names : Names) (body : List ℕ) : Type 0 where
  pub room : length names < 64
  pub topic : is_topic_name body ≡ true
  pub new : has_name names body ≡ false

first_true : (a b : Bool) → (a && b) ≡ true → a ≡ true
first_true true b is = refl
first_true false b is = is

second_true : (a b : Bool) → (a && b) ≡ true → b ≡ true
second_true true b is = is
second_true false b is = absurd (Prim.cc)

both_true : (a b : Bool) → a ≡ true → b ≡ true → (a && b) ≡ true
both_true a b x y = cc

not_true : (b : Bool) → not b ≡ true → b ≡ false
not_true true is = sym is
not_true false is = refl

pub next_of : (names : Names) (body : List ℕ) → can_follow names body ≡ true → IsNext names body
next_of names body can =
    let front = first_true (nat_lt (length names) 64 && is_topic_name body) (not (has_name names body)) can in
    record {
      room = ltb-true (length names) 64 (first_true (nat_lt (length names) 64) (is_topic_name body) front);
      topic = second_true (nat_lt (length names) 64) (is_topic_name body) front;
      new = not_true (has_name names body) (second_true (nat_lt (length names) 64 && is_topic_name body) (not (has_name names body)) can);
    }

pub next_can : (names : Names) (body : List ℕ) → IsNext names body → can_follow names body ≡ true
next_can names body is =
    both_true (nat_lt (length names) 64 && is_topic_name body) (not (has_name names body))
    (both_true (nat_lt (length names) 64) (is_topic_name body) (lt-ltb (length names) 64 is.room) is.topic) (ap not is.new)

all_more : (P : List ℕ → Type 0) (names : Names) (body : List ℕ) → AllByRecursion P names → P body → AllByRecursion P (names ++ body ∷ [])
all_more P [] body all is = (is, tt)
all_more P (name ∷ names) body all is = (all.0, all_more P names body all.1 is)

all_less : (P : List ℕ → Type 0) (names : Names) (body : List ℕ) → AllByRecursion P (names ++ body ∷ []) → AllByRecursion P names × P body
all_less P [] body all = (tt, all.0)
all_less P (name ∷ names) body all = let rest = all_less P names body all.1 in ((all.0, rest.0), rest.1)

both_false : (a b : Bool) → a ≡ false → b ≡ false → (a || b) ≡ false
both_false a b x y = cc

first_false : (a b : Bool) → (a || b) ≡ false → a ≡ false
first_false true b is = is
first_false false b is = refl

second_false : (a b : Bool) → (a || b) ≡ false → b ≡ false
second_false true b is = absurd (Prim.cc)
second_false false b is = is

differ_more : (names : Names) (body : List ℕ) → IsDistinct bytes_eq names → has_name names body ≡ false → IsDistinct bytes_eq (names ++ body ∷ [])
unfolding IsDistinct
differ_more [] body differ new = (tt, tt)
differ_more (name ∷ names) body differ new = (
  all_more (λ y. bytes_eq name y ≡ false) names body differ.0 (nat_list_eq_equiv.symm name body ∙ first_false (bytes_eq body name) (has_name names body) new),
  differ_more names body differ.1 (second_false (bytes_eq body name) (has_name names body) new),
)

-- names without the last one differ too, and the last one isn't among them
differ_less : (names : Names) (body : List ℕ) → IsDistinct bytes_eq (names ++ body ∷ []) → IsDistinct bytes_eq names × (has_name names body ≡ false)
unfolding IsDistinct
differ_less [] body differ = (tt, refl)
differ_less (name ∷ names) body differ =
    let here = all_less (λ y. bytes_eq name y ≡ false) names body differ.0 in
    let rest = differ_less names body differ.1 in
    ((here.0, rest.0), both_false (bytes_eq body name) (has_name names body) (nat_list_eq_equiv.symm body name ∙ here.1) rest.1)

pub no_names : AreNames []
unfolding IsDistinct
no_names = record { few = omega arith; topics = tt; differ = tt }

pub names_more : (names : Names) (body : List ℕ) → AreNames names → IsNext names body → AreNames (names ++ body ∷ [])
names_more names body are is = record {
  few = omega (arith, is.room, length-append names (body ∷ []));
  topics = all_more (λ name. is_topic_name name ≡ true) names body are.topics is.topic;
  differ = differ_more names body are.differ is.new;
}

pub names_less : (names : Names) (body : List ℕ) → AreNames (names ++ body ∷ []) → AreNames names
names_less names body are = record {
  few = omega (arith, are.few, length-append names (body ∷ []));
  topics = (all_less (λ name. is_topic_name name ≡ true) names body are.topics).0;
  differ = (differ_less names body are.differ).0;
}

pub last_next : (names : Names) (body : List ℕ) → AreNames (names ++ body ∷ []) → IsNext names body
last_next names body are = record {
  room = omega (arith, are.few, length-append names (body ∷ []));
  topic = (all_less (λ name. is_topic_name name ≡ true) names body are.topics).1;
  new = (differ_less names body are.differ).1;
}

-- How the counts of producers follow their list.
use Rattle.std.proofs.Common.{◌≡◌, ℕ, ◌+◌, ◌-◌, ◌<◌, ◌^◌, Bool, true, false, cond, not, ◌&&◌, ◌||◌, nat_eq, Option, List, [], ◌∷◌, ◌++◌, length, take, get_or, map, filter, String, BTreeMap, refl, ap, sym, subst, ◌∙◌, arith, unwrap_or}
use Rattle.std.specs.Ordering.{nat_cmp, ordering_then, is_eq}
use Rattle.std.specs.Cmp.{both_tied, unsigned_ties, nat_eq_equiv}
use Rattle.std.specs.Cmp.Lexicographic.{bytes_decides}
use Rattle.std.specs.BTreeMap.{get, get_by_text, Updates, IsEmpty}
use Rattle.std.specs.Map.{update}
use Rattle.std.specs.Str.{bytes_eq}
use Rattle.std.specs.List.{count_by, list_any}
use Rattle.std.specs.declared.alloc.Global.{Global}
use Rattle.std.proofs.lemmas.Bool.{eqb-true, ne_eqb}
use Rattle.std.proofs.lemmas.List.Sums.{sum_by-cons, sum_by_push, sum_by_more, count_by-le-length}
use Rattle.topic_core.specs.declared.producer.Producer.{Producer}
use Rattle.topic_core.specs.declared.producer.ProducerState.{ProducerState}
use Rattle.topic_core.specs.declared.producer.ProducerState.TheVariants.{Open, Closing, HandedOn}
use Rattle.topic_core.specs.declared.producer_counts.ProducerCounts.{ProducerCounts}
use Rattle.topic_core.specs.Steps.{is_open, is_producer, is_open_producer, closed_at}
use Rattle.topic_core.specs.Counts.{id_count, name_count, one_of_id, one_of_name, is_named, AreCounted, HasRoom, IsOneMore, AreSame, AreLess, AreFewer}

-- ---- one id, or one name, of a map

by_id : (who id s i : ℕ) (P : Bool → Type 0) → (who ≡ s → id ≡ i → P true) → P false → P (nat_eq who s && nat_eq id i)
by_id who id s i P same apart = elim (nat_eq who s) as (λ a. nat_eq who s ≡ a → P (a && nat_eq id i)) [
  | true ↦ λ e. elim (nat_eq id i) as (λ b. nat_eq id i ≡ b → P b) [
    | true ↦ λ f. same (eqb-true who s e) (eqb-true id i f)
    | false ↦ λ _. apart
  ] refl
  | false ↦ λ _. apart
] refl

by_name : (name q : List ℕ) (P : Bool → Type 0) → (name ≡ q → P true) → P false → P (bytes_eq name q)
by_name name q P same apart = elim (bytes_eq name q) as (λ a. bytes_eq name q ≡ a → P a) [
  | true ↦ λ e. same ((bytes_decides name q).0 e)
  | false ↦ λ _. apart
] refl

picks : (b : Bool) (w g : Option ℕ) → unwrap_or (cond b w g) 0 ≡ cond b (unwrap_or w 0) (unwrap_or g 0)
picks true w g = refl
picks false w g = refl

module _ (m n : BTreeMap (ℕ × ℕ) ℕ) (who id : ℕ) (w : Option ℕ) (set : Updates (λ x y. ordering_then (nat_cmp x.0 y.0) (nat_cmp x.1 y.1)) m n (who, id) w) where
  pub id_updated : (s i : ℕ) → id_count n s i ≡ cond (nat_eq who s && nat_eq id i) (unwrap_or w 0) (id_count m s i)
  id_updated s i =
      ap (λ o. unwrap_or o 0) (set.0 (s, i))
      ∙ picks (is_eq (ordering_then (nat_cmp who s) (nat_cmp id i))) w (get (λ x y. ordering_then (nat_cmp x.0 y.0) (nat_cmp x.1 y.1)) m (s, i))
      ∙ ap (λ b. cond b (unwrap_or w 0) (id_count m s i)) (sym (both_tied _ _ (nat_cmp who s) (nat_cmp id i) (unsigned_ties who s) (unsigned_ties id i)))

  pub id_counted : unwrap_or w 0 ≡ id_count m who id + 1 → (s i : ℕ) → id_count n s i ≡ id_count m s i + one_of_id who id s i
  id_counted is s i =
      id_updated s i
      ∙ by_id who id s i (λ b. cond b (unwrap_or w 0) (id_count m s i) ≡ id_count m s i + cond b 1 0)
      (λ e f. is ∙ ap (λ x. id_count m x id + 1) e ∙ ap (λ x. id_count m s x + 1) f) (omega arith)

  pub id_discounted : unwrap_or w 0 ≡ id_count m who id - 1 → (s i : ℕ) → id_count n s i ≡ id_count m s i - one_of_id who id s i
  id_discounted is s i =
      id_updated s i
      ∙ by_id who id s i (λ b. cond b (unwrap_or w 0) (id_count m s i) ≡ id_count m s i - cond b 1 0)
      (λ e f. is ∙ ap (λ x. id_count m x id - 1) e ∙ ap (λ x. id_count m s x - 1) f) (omega arith)

module _ (m n : BTreeMap (String Global) ℕ) (name : List ℕ) (w : Option ℕ) (set : (q : List ℕ) → get_by_text n q ≡ update bytes_eq (get_by_text m) name w q) where
  name_updated : (q : List ℕ) → name_count n q ≡ cond (bytes_eq name q) (unwrap_or w 0) (name_count m q)
  name_updated q = ap (λ o. unwrap_or o 0) (set q) ∙ picks (bytes_eq name q) w (get_by_text m q)

  pub name_counted : unwrap_or w 0 ≡ name_count m name + 1 → (q : List ℕ) → name_count n q ≡ name_count m q + one_of_name name q
  name_counted is q =
      name_updated q
      ∙ by_name name q (λ b. cond b (unwrap_or w 0) (name_count m q) ≡ name_count m q + cond b 1 0)
      (λ e. is ∙ ap (λ x. name_count m x + 1) e) (omega arith)

  pub name_discounted : unwrap_or w 0 ≡ name_count m name - 1 → (q : List ℕ) → name_count n q ≡ name_count m q - one_of_name name q
  name_discounted is q =
      name_updated q
      ∙ by_name name q (λ b. cond b (unwrap_or w 0) (name_count m q) ≡ name_count m q - cond b 1 0)
      (λ e. is ∙ ap (λ x. name_count m x - 1) e) (omega arith)

-- ---- how many of a list pass a test

pub any_counted : {A : Type 0} (p : A → Bool) (xs : List A) → not (nat_eq (count_by p xs) 0) ≡ list_any p xs
any_counted p [] = refl
any_counted p (x ∷ xs) =
    ap (λ n. not (nat_eq n 0)) (sum_by-cons (λ y. cond (p y) 1 0) x xs)
    ∙ elim (p x) as (λ b. not (nat_eq (cond b 1 0 + count_by p xs) 0) ≡ (b || list_any p xs)) [
      | true ↦ ap (λ b. not b) (ne_eqb (1 + count_by p xs) 0 (λ e. omega (arith, e)))
      | false ↦ (let same : 0 + count_by p xs ≡ count_by p xs = omega arith in ap (λ n. not (nat_eq n 0)) same ∙ any_counted p xs)
    ]

count_mapped : {A : Type 0} (p q : A → Bool) (f : A → A) → ((x : A) → p (f x) ≡ q x) → (xs : List A) → count_by p (map f xs) ≡ count_by q xs
count_mapped p q f same [] = refl
count_mapped p q f same (x ∷ xs) =
    sum_by-cons (λ y. cond (p y) 1 0) (f x) (map f xs)
    ∙ ap (λ b. cond b 1 0 + count_by p (map f xs)) (same x)
    ∙ ap (λ n. cond (q x) 1 0 + n) (count_mapped p q f same xs)
    ∙ sym (sum_by-cons (λ y. cond (q y) 1 0) x xs)

count_none : {A : Type 0} (xs : List A) → count_by (λ x. false) xs ≡ 0
count_none {A} [] = refl
count_none {A} (x ∷ xs) =
    let step : count_by (λ (y : A). false) (x ∷ xs) ≡ 0 + count_by (λ (y : A). false) xs = sum_by-cons (λ (y : A). cond false 1 0) x xs in
    omega (arith, step, count_none xs)

-- those that go and those that stay
parted : {A : Type 0} (d p : A → Bool) (xs : List A) → count_by (λ x. d x && p x) xs + count_by p (filter (λ x. not (d x)) xs) ≡ count_by p xs
parted d p [] = refl
parted d p (x ∷ xs) =
    let rest = filter (λ y. not (d y)) xs in
    let first : (b : Bool) → cond (b && p x) 1 0 + count_by p (cond (not b) (x ∷ rest) rest) ≡ cond (p x) 1 0 + count_by p rest =
    λ b. elim b as (λ b. cond (b && p x) 1 0 + count_by p (cond (not b) (x ∷ rest) rest) ≡ cond (p x) 1 0 + count_by p rest) [
      | true ↦ refl
      | false ↦ (let none : 0 + count_by p (x ∷ rest) ≡ count_by p (x ∷ rest) = omega arith in none ∙ sum_by-cons (λ y. cond (p y) 1 0) x rest)
    ] in
    omega (arith, first (d x), parted d p xs, sum_by-cons (λ y. cond (d y && p y) 1 0) x xs, sum_by-cons (λ y. cond (p y) 1 0) x xs)

stayed : {A : Type 0} (d p : A → Bool) (xs : List A) (old new : ℕ) → old ≡ count_by p xs → new ≡ old - count_by (λ x. d x && p x) xs → new ≡ count_by p (filter (λ x. not (d x)) xs)
stayed d p xs old new was is = omega (arith, was, is, parted d p xs)

-- ---- producers

closed_one : (who id s i : ℕ) (p : Producer) → is_open_producer s i (closed_at who id p) ≡ cond (nat_eq who s && nat_eq id i) false (is_open_producer s i p)
closed_one who id s i p =
    by_id p.session p.id s i (λ b. (b && is_open (cond (is_producer who id p && is_open p.state) Closing p.state)) ≡ cond (nat_eq who s && nat_eq id i) false (b && is_open p.state))
    (λ e f.
    subst (λ s. is_open (cond (is_producer who id p && is_open p.state) Closing p.state) ≡ cond (nat_eq who s && nat_eq id i) false (is_open p.state)) e
    (subst (λ i. is_open (cond (is_producer who id p && is_open p.state) Closing p.state) ≡ cond (nat_eq who p.session && nat_eq id i) false (is_open p.state)) f
    (rw (swapped who p.session, swapped id p.id) (shut_or (nat_eq p.session who && nat_eq p.id id) p.state))))
    (neither (nat_eq who s && nat_eq id i))
  where
    shut_or : (a : Bool) (s : ProducerState) → is_open (cond (a && is_open s) Closing s) ≡ cond a false (is_open s)
    shut_or true Open = refl
    shut_or true Closing = refl
    shut_or true HandedOn = refl
    shut_or false s = refl

    neither : (b : Bool) → false ≡ cond b false false
    neither true = refl
    neither false = refl

    swapped : (a b : ℕ) → nat_eq a b ≡ nat_eq b a
    swapped a b = nat_eq_equiv.symm a b

and_true : (b : Bool) → cond {A = ℕ} (b && true) 1 0 ≡ cond {A = ℕ} b 1 0
and_true true = refl
and_true false = refl

pub none_counted : (counts : ProducerCounts) → IsEmpty counts.attached → IsEmpty counts.sending → IsEmpty counts.names → AreCounted [] counts
none_counted counts a b c = record { all = λ who id. rw a refl; open_ones = λ who id. rw b refl; named = λ name. rw c refl }

pub same_counted : (ps : List Producer) (old new : ProducerCounts) → AreCounted ps old → AreSame old new → AreCounted ps new
same_counted ps old new was same = record {
  all = λ who id. same.all who id ∙ was.all who id;
  open_ones = λ who id. same.open_ones who id ∙ was.open_ones who id;
  named = λ name. same.named name ∙ was.named name;
}

pub one_counted : (ps : List Producer) (p : Producer) (old new : ProducerCounts) → p.state ≡ Open → AreCounted ps old → IsOneMore p.session p.id p.name old new → AreCounted (ps ++ p ∷ []) new
one_counted ps p old new is_open_one was more = record {
  all = λ s i. omega (arith, more.all s i, was.all s i, sum_by_push (λ x. cond (is_producer s i x) 1 0) ps p);
  open_ones = λ s i. omega (
    arith,
    more.open_ones s i,
    was.open_ones s i,
    sum_by_push (λ x. cond (is_open_producer s i x) 1 0) ps p,
    ap (λ x. cond {A = ℕ} (is_producer s i p && is_open x) 1 0) is_open_one ∙ and_true (is_producer s i p),
  );
  named = λ q. omega (arith, more.named q, was.named q, sum_by_push (λ x. cond (is_named q x) 1 0) ps p);
}

-- another state of each, as open as it was
pub mapped_counted : (f : ProducerState → ProducerState) → ((s : ProducerState) → is_open (f s) ≡ is_open s) → (ps : List Producer) (counts : ProducerCounts) → AreCounted ps counts → AreCounted (map (λ p. let q : Producer = record p { state = f p.state } in q) ps) counts
mapped_counted f same ps counts was =
    let g : Producer → Producer = λ p. let q : Producer = record p { state = f p.state } in q in record {
      all = λ who id. was.all who id ∙ sym (count_mapped (is_producer who id) (is_producer who id) g (λ p. refl) ps);
      open_ones = λ who id. was.open_ones who id ∙ sym (count_mapped (is_open_producer who id) (is_open_producer who id) g (λ p. ap (λ b. is_producer who id p && b) (same p.state)) ps);
      named = λ name. was.named name ∙ sym (count_mapped (is_named name) (is_named name) g (λ p. refl) ps);
    }

count_closed : (b : Bool) (t : Producer → Bool) (ps : List Producer) → count_by (λ p. cond b false (t p)) ps ≡ cond b 0 (count_by t ps)
count_closed true t ps = count_none ps
count_closed false t ps = refl

pub closed_counted : (who id : ℕ) (ps : List Producer) (old : ProducerCounts) (sending : BTreeMap (ℕ × ℕ) ℕ)
    → ((s i : ℕ) → id_count sending s i ≡ cond (nat_eq who s && nat_eq id i) 0 (id_count old.sending s i))
    → AreCounted ps old → AreCounted (map (λ p. closed_at who id p) ps) (let new : ProducerCounts = record old { sending = sending } in new)
closed_counted who id ps old sending fewer was = record {
  all = λ s i. was.all s i ∙ sym (count_mapped (is_producer s i) (is_producer s i) (λ p. closed_at who id p) (λ p. refl) ps);
  open_ones = λ s i.
      fewer s i
      ∙ ap (λ n. cond (nat_eq who s && nat_eq id i) 0 n) (was.open_ones s i)
      ∙ sym (count_closed (nat_eq who s && nat_eq id i) (is_open_producer s i) ps)
      ∙ sym (count_mapped (is_open_producer s i) (λ p. cond (nat_eq who s && nat_eq id i) false (is_open_producer s i p)) (λ p. closed_at who id p) (closed_one who id s i) ps);
  named = λ q. was.named q ∙ sym (count_mapped (is_named q) (is_named q) (λ p. closed_at who id p) (λ p. refl) ps);
}

pub dropped_counted : (d : Producer → Bool) (ps : List Producer) (old new : ProducerCounts) → AreCounted ps old → AreFewer d ps old new → AreCounted (filter (λ p. not (d p)) ps) new
dropped_counted d ps old new was fewer = record {
  all = λ s i. stayed d (is_producer s i) ps _ _ (was.all s i) (fewer.all s i);
  open_ones = λ s i. stayed d (is_open_producer s i) ps _ _ (was.open_ones s i) (fewer.open_ones s i);
  named = λ q. stayed d (is_named q) ps _ _ (was.named q) (fewer.named q);
}

pub has_room : (ps : List Producer) (counts : ProducerCounts) → AreCounted ps counts → length ps + 1 < 2 ^ 64 → HasRoom counts
has_room ps counts was few = record {
  all = λ s i. omega (arith, few, was.all s i, count_by-le-length (is_producer s i) ps);
  open_ones = λ s i. omega (arith, few, was.open_ones s i, count_by-le-length (is_open_producer s i) ps);
  named = λ q. omega (arith, few, was.named q, count_by-le-length (is_named q) ps);
}

-- ---- a walk over a list

pub none_fewer : (d : Producer → Bool) (counts : ProducerCounts) → AreFewer d [] counts counts
none_fewer d counts = record { all = λ s i. omega arith; open_ones = λ s i. omega arith; named = λ q. omega arith }

module _ (d : Producer → Bool) (ps : List Producer) (n : ℕ) (p : Producer) (within : n < length ps) (read : p ≡ get_or ps n p) where
  one_went : (t : Producer → Bool) (a b c : ℕ) → b ≡ a - count_by (λ x. d x && t x) (take n ps) → d p ≡ true → c ≡ b - cond (t p) 1 0 → c ≡ a - count_by (λ x. d x && t x) (take (n + 1) ps)
  one_went t a b c was going is =
      omega (
        arith,
        was,
        is,
        sum_by_more (λ x. cond (d x && t x) 1 0) ps n p within,
        ap (λ x. cond {A = ℕ} (d x && t x) 1 0) (sym read) ∙ ap (λ g. cond {A = ℕ} (g && t p) 1 0) going,
      )

  one_stayed : (t : Producer → Bool) (a b : ℕ) → b ≡ a - count_by (λ x. d x && t x) (take n ps) → d p ≡ false → b ≡ a - count_by (λ x. d x && t x) (take (n + 1) ps)
  one_stayed t a b was going =
      omega (
        arith,
        was,
        sum_by_more (λ x. cond (d x && t x) 1 0) ps n p within,
        ap (λ x. cond {A = ℕ} (d x && t x) 1 0) (sym read) ∙ ap (λ g. cond {A = ℕ} (g && t p) 1 0) going,
      )

  pub fewer_with : (a b c : ProducerCounts) → AreFewer d (take n ps) a b → d p ≡ true → AreLess p b c → AreFewer d (take (n + 1) ps) a c
  fewer_with a b c was going less = record {
    all = λ s i. one_went (is_producer s i) _ _ _ (was.all s i) going (less.all s i);
    open_ones = λ s i. one_went (is_open_producer s i) _ _ _ (was.open_ones s i) going (less.open_ones s i);
    named = λ q. one_went (is_named q) _ _ _ (was.named q) going (less.named q);
  }

  pub fewer_without : (a b : ProducerCounts) → AreFewer d (take n ps) a b → d p ≡ false → AreFewer d (take (n + 1) ps) a b
  fewer_without a b was going = record {
    all = λ s i. one_stayed (is_producer s i) _ _ (was.all s i) going;
    open_ones = λ s i. one_stayed (is_open_producer s i) _ _ (was.open_ones s i) going;
    named = λ q. one_stayed (is_named q) _ _ (was.named q) going;
  }

-- a producer is no longer counted: its session and id, its name, and, where it is open, that
pub one_less : (p : Producer) (old : ProducerCounts) (attached sending : BTreeMap (ℕ × ℕ) ℕ) (names : BTreeMap (String Global) ℕ)
    → ((s i : ℕ) → id_count attached s i ≡ id_count old.attached s i - one_of_id p.session p.id s i)
    → ((s i : ℕ) → id_count sending s i ≡ id_count old.sending s i - cond (is_open p.state) (one_of_id p.session p.id s i) 0)
    → ((q : List ℕ) → name_count names q ≡ name_count old.names q - one_of_name p.name q)
    → AreLess p old (let new : ProducerCounts = record old { attached = attached; sending = sending; names = names } in new)
one_less p old attached sending names a b c = record {
  all = a;
  open_ones = λ s i. b s i ∙ ap (λ n. id_count old.sending s i - n) (turned (is_producer s i p) (is_open p.state));
  named = c;
}
  where
    turned : (x y : Bool) → cond {A = ℕ} y (cond {A = ℕ} x 1 0) 0 ≡ cond {A = ℕ} (x && y) 1 0
    turned true true = refl
    turned true false = refl
    turned false true = refl
    turned false false = refl

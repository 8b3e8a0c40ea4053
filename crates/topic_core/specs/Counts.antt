-- How many producers of a list have an id, and how many have a name, as maps count them.
use Rattle.std.specs.Prelude.{◌≡◌, ℕ, ◌+◌, ◌-◌, ◌^◌, ◌<◌, Bool, cond, ◌&&◌, nat_eq, List, String, count_by}
use Rattle.std.specs.Option.{unwrap_or}
use Rattle.std.specs.Ordering.{nat_cmp, ordering_then}
use Rattle.std.specs.BTreeMap.{BTreeMap, get, get_by_text}
use Rattle.std.specs.Str.{bytes_eq}
use Rattle.std.specs.declared.alloc.Global.{Global}
use Rattle.topic_core.specs.declared.producer.Producer.{Producer}
use Rattle.topic_core.specs.declared.producer_counts.Going.{Going}
use Rattle.topic_core.specs.declared.producer_counts.Going.TheVariants.{OfSession, HandedOn}
use Rattle.topic_core.specs.declared.producer_counts.ProducerCounts.{ProducerCounts}
use Rattle.topic_core.specs.Steps.{is_producer, is_open_producer, is_handed_on}

-- how many a map counts of a session and an id
abbrev pub id_count : BTreeMap (ℕ × ℕ) ℕ → ℕ → ℕ → ℕ
id_count m who id = unwrap_or (get (λ x y. ordering_then (nat_cmp x.0 y.0) (nat_cmp x.1 y.1)) m (who, id)) 0

-- how many it counts of a name
abbrev pub name_count : BTreeMap (String Global) ℕ → List ℕ → ℕ
name_count m name = unwrap_or (get_by_text m name) 0

-- 1 for the same session and id, and for the same name
abbrev pub one_of_id : ℕ → ℕ → ℕ → ℕ → ℕ
one_of_id who id s i = cond (nat_eq who s && nat_eq id i) 1 0

abbrev pub one_of_name : List ℕ → List ℕ → ℕ
one_of_name name other = cond (bytes_eq name other) 1 0

abbrev pub is_named : List ℕ → Producer → Bool
is_named name p = bytes_eq p.name name

-- the counts are those of the producers of a list: of all, of the open ones, and of the names
pub record AreCounted (producers : List Producer) (counts : ProducerCounts) : Type 0 where
  pub all : (who id : ℕ) → id_count counts.attached who id ≡ count_by (is_producer who id) producers
  pub open_ones : (who id : ℕ) → id_count counts.sending who id ≡ count_by (is_open_producer who id) producers
  pub named : (name : List ℕ) → name_count counts.names name ≡ count_by (is_named name) producers

-- one more of each can be counted
pub record HasRoom (counts : ProducerCounts) : Type 0 where
  pub all : (who id : ℕ) → id_count counts.attached who id + 1 < 2 ^ 64
  pub open_ones : (who id : ℕ) → id_count counts.sending who id + 1 < 2 ^ 64
  pub named : (name : List ℕ) → name_count counts.names name + 1 < 2 ^ 64

-- an open producer more is counted
pub record IsOneMore (who id : ℕ) (name : List ℕ) (old new : ProducerCounts) : Type 0 where
  pub all : (s i : ℕ) → id_count new.attached s i ≡ id_count old.attached s i + one_of_id who id s i
  pub open_ones : (s i : ℕ) → id_count new.sending s i ≡ id_count old.sending s i + one_of_id who id s i
  pub named : (q : List ℕ) → name_count new.names q ≡ name_count old.names q + one_of_name name q

-- each is counted as often as it was
pub record AreSame (old new : ProducerCounts) : Type 0 where
  pub all : (s i : ℕ) → id_count new.attached s i ≡ id_count old.attached s i
  pub open_ones : (s i : ℕ) → id_count new.sending s i ≡ id_count old.sending s i
  pub named : (q : List ℕ) → name_count new.names q ≡ name_count old.names q

-- one producer is no longer counted
pub record AreLess (p : Producer) (old new : ProducerCounts) : Type 0 where
  pub all : (s i : ℕ) → id_count new.attached s i ≡ id_count old.attached s i - cond (is_producer s i p) 1 0
  pub open_ones : (s i : ℕ) → id_count new.sending s i ≡ id_count old.sending s i - cond (is_open_producer s i p) 1 0
  pub named : (q : List ℕ) → name_count new.names q ≡ name_count old.names q - cond (is_named q p) 1 0

-- those of a list's producers that go are no longer counted
pub record AreFewer (goes : Producer → Bool) (producers : List Producer) (old new : ProducerCounts) : Type 0 where
  pub all : (s i : ℕ) → id_count new.attached s i ≡ id_count old.attached s i - count_by (λ p. goes p && is_producer s i p) producers
  pub open_ones : (s i : ℕ) → id_count new.sending s i ≡ id_count old.sending s i - count_by (λ p. goes p && is_open_producer s i p) producers
  pub named : (q : List ℕ) → name_count new.names q ≡ name_count old.names q - count_by (λ p. goes p && is_named q p) producers

-- the producer goes: its session leaves, or the flush that was handed its closing ended
abbrev pub goes : Going → Producer → Bool
goes (OfSession who) p = nat_eq p.session who
goes HandedOn p = is_handed_on p.state

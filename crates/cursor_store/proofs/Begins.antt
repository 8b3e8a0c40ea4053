-- Whether all subscriptions have acknowledged what lies below a position, one after another.
use Rattle.std.proofs.Common.{◌≡◌, ◌↔◌, ◌∙◌, sym, subst, ℕ, ◌<◌, ◌≤◌, List, [], ◌∷◌, true, false, arith}
use Rattle.std.specs.FinMap as map
use Rattle.cursor.specs.Positions.{Positions, IsFirstOpen}
use Rattle.records.specs.declared.record.Record.{Record}
use Rattle.records.specs.Maps.{Kept}
use Rattle.records.specs.Snapshots.{Subscription, HasCome, come_none, come_one, come_all, come_there}
use Rattle.records.specs.Floors.{HasBelow, HaveBelow, StartsFrom, StartFrom}
use Rattle.records.specs.Staying.{inserted, none_have}

-- by the mark-delete position
mark_has : (b mark : ℕ) (s : Positions) → IsFirstOpen s 0 mark → b ≤ mark → HasBelow b s
mark_has b mark s is low i less = is.least i (omega arith) (omega (arith, low, less))

mark_lacks : (b mark : ℕ) (s : Positions) → IsFirstOpen s 0 mark → mark < b → ¬ HasBelow b s
mark_lacks b mark s is less = λ has. let e : true ≡ false = sym (has mark less) ∙ is.missing in cc

-- the first subscriptions have, and these are left
pub record HaveCome (b : ℕ) (kept : Kept) (rest : List Subscription) : Type 0 where
  pub sofar : Kept
  pub come : HasCome kept sofar rest
  pub have : HaveBelow b sofar

pub have_none : (b : ℕ) (kept : Kept) (rest : List Subscription) → rest ≡ map.entries kept → HaveCome b kept rest
have_none b kept rest all = record {
  sofar = map.empty;
  come = subst (λ (l : List Subscription). HasCome kept map.empty l) (sym all) (come_none kept);
  have = none_have b;
}

pub have_one : (b mark : ℕ) (kept : Kept) (name : List ℕ) (acked shown : Positions) (rest : List Subscription) → shown ≡ acked → IsFirstOpen shown 0 mark → b ≤ mark → HaveCome b kept ((name, acked) ∷ rest) → HaveCome b kept rest
have_one b mark kept name acked shown rest same is low came = record {
  sofar = map.insert came.sofar name acked;
  come = come_one kept came.sofar (name, acked) rest came.come;
  have = inserted b came.sofar name acked came.have (subst (λ (s : Positions). HasBelow b s) same (mark_has b mark shown is low));
}

pub have_all : (b : ℕ) (kept : Kept) → HaveCome b kept [] → HaveBelow b kept
have_all b kept came = subst (λ (k : Kept). HaveBelow b k) (come_all kept came.sofar came.come) came.have

pub one_lacks : (b mark : ℕ) (kept : Kept) (name : List ℕ) (acked shown : Positions) (rest : List Subscription) → shown ≡ acked → IsFirstOpen shown 0 mark → mark < b → HaveCome b kept ((name, acked) ∷ rest) → ¬ HaveBelow b kept
one_lacks b mark kept name acked shown rest same is less came = λ have.
    mark_lacks b mark shown is less (subst (λ (s : Positions). HasBelow b s) (sym same) (have name acked (come_there kept came.sofar (name, acked) rest came.come)))

-- ---- whether records make none that begins before

pub from_behind : (b : ℕ) (r : Record) (all rest : List Record) (Q : Type 0) → all ≡ r ∷ rest → StartsFrom b r → (StartFrom b all ↔ Q) → (StartFrom b rest ↔ Q)
from_behind b r all rest Q same first both =
    (λ from. both.0 (subst (λ (l : List Record). StartFrom b l) (sym same) (first, from)), λ q. (subst (λ (l : List Record). StartFrom b l) same (both.1 q)).1)

pub from_first : (b : ℕ) (r : Record) (all rest : List Record) → all ≡ r ∷ rest → StartFrom b all → StartsFrom b r
from_first b r all rest same from = (subst (λ (l : List Record). StartFrom b l) same from).0

pub from_none : (b : ℕ) (all : List Record) → all ≡ [] → StartFrom b all
from_none b all none = subst (λ (l : List Record). StartFrom b l) (sym none) tt

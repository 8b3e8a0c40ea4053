-- That a topic matches its store, and its flush, is known in one way at most.
use Rattle.std.specs.Prelude.{◌≡◌, ℕ, Option, Some, None, List, [], ◌∷◌, refl}
use Rattle.std.specs.Coded.{Coded, Coded-set, codes, coded_ℕ, coded_bool, coded_list, coded_option, ×_prop, Π_prop, →_prop, Unit-prop, le_prop}
use mathlib.Core.HLevel.{×₃_prop}
use Rattle.std.proofs.Common.{sym, ap, ◌∙◌}
use Rattle.cursor.specs.Positions.{positions_code}
use Rattle.records.specs.declared.record.Record.{Record}
use Rattle.records.specs.declared.record.Record.TheVariants.{Made, Removed, Acknowledged, AcknowledgedThrough, AcknowledgedRange}
use Rattle.std.specs.List.{AllByRecursion-prop}
use Rattle.records.specs.Floors.{StartsFrom}
use Rattle.records.specs.Maps.{Kept, kept_code}
use Rattle.records.specs.Records.{IsNew, IsPlaced, IsFormed, AreFormed, after}
use Rattle.subscriptions.specs.State.{Subscriptions}
use Rattle.subscriptions.specs.Laws.{AreDurable, IsKept}
use Rattle.topic_stores.specs.declared.batch.Batch.{Batch}
use Rattle.topic_stores.specs.Views.{StoreView}
use Rattle.topic_core.specs.State.{Topic}
use Rattle.topic_core.specs.Standing.{Phase, Before, Written, Lost, IsFor, Remembers, Match}
use Rattle.node.specs.Flights.{batch_of, IsUnderWay}
use Rattle.node.specs.declared.flight.Flight.{Flight}

-- a record of facts, as the product of them
as_product : {A B : Type 0} (to : A → B) (back : B → A) → ((a : A) → back (to a) ≡ a) → IsProp B → IsProp A
as_product to back same one x y = sym (same x) ∙ ap back (one (to x) (to y)) ∙ same y

is_new-prop : (kept : Kept) (name : List ℕ) → IsProp (IsNew kept name)
is_new-prop kept name = as_product (λ x. (x.not_there, x.few)) (λ x. record { not_there = x.0; few = x.1 }) (λ _. refl) (×_prop (Coded-set (coded_option positions_code) _ _) le_prop)

is_placed-prop : (entries : ℕ) (kept : Kept) (r : Record) → IsProp (IsPlaced entries kept r)
is_placed-prop entries kept (Made name start) = ×_prop (is_new-prop kept name) le_prop
is_placed-prop entries kept (Removed name) = Coded-set coded_bool _ _
is_placed-prop entries kept (Acknowledged name position) = ×_prop (Coded-set coded_bool _ _) le_prop
is_placed-prop entries kept (AcknowledgedThrough name position) = ×_prop (Coded-set coded_bool _ _) le_prop
is_placed-prop entries kept (AcknowledgedRange name first last) = ×₃_prop (Coded-set coded_bool _ _) le_prop le_prop

is_formed-prop : (entries : ℕ) (kept : Kept) (r : Record) → IsProp (IsFormed entries kept r)
is_formed-prop entries kept r = as_product (λ x. (x.name_is, x.placed)) (λ x. record { name_is = x.0; placed = x.1 }) (λ _. refl) (×_prop (Coded-set coded_bool _ _) (is_placed-prop entries kept r))

are_formed-prop : (entries : ℕ) (kept : Kept) (rs : List Record) → IsProp (AreFormed entries kept rs)
are_formed-prop entries kept [] = Unit-prop
are_formed-prop entries kept (r ∷ rs) = ×_prop (is_formed-prop entries kept r) (are_formed-prop entries (after r kept) rs)

are_durable-prop : (kept : Kept) → IsProp (AreDurable kept)
are_durable-prop kept = as_product (λ x. (x.few, x.named)) (λ x. record { few = x.0; named = x.1 }) (λ _. refl) (×_prop le_prop (Π_prop (λ name. →_prop (Coded-set coded_bool _ _))))

is_kept-prop : (entries : ℕ) (kept : Kept) (t : Subscriptions) → IsProp (IsKept entries kept t)
is_kept-prop entries kept t =
    as_product (λ x. (x.same, (x.count, (x.durable, x.formed)))) (λ x. record { same = x.0; count = x.1.0; durable = x.1.1.0; formed = x.1.1.1 }) (λ _. refl)
    (×_prop (Π_prop (λ name. Coded-set (coded_option positions_code) _ _)) (×_prop (Coded-set coded_ℕ _ _) (×_prop (are_durable-prop kept) (are_formed-prop entries kept t.changes))))

remembers-prop : (phase : Phase) (t : Topic) (v : StoreView) → IsProp (Remembers phase t v)
remembers-prop Before t v =
    as_product (λ x. (x.core_works, (x.works, (x.counted, (x.kept, x.begins))))) (λ x. record { core_works = x.0; works = x.1.0; counted = x.1.1.0; kept = x.1.1.1.0; begins = x.1.1.1.1 }) (λ _. refl)
    (×_prop (Coded-set coded_bool _ _) (×_prop (Coded-set coded_bool _ _) (×_prop (Coded-set coded_ℕ _ _) (×_prop (Coded-set kept_code _ _) le_prop))))
remembers-prop (Written base) t v =
    as_product (λ x. (x.core_works, (x.under_way, (x.works, (x.counted, (x.kept, (x.begins, x.within)))))))
    (λ x. record { core_works = x.0; under_way = x.1.0; works = x.1.1.0; counted = x.1.1.1.0; kept = x.1.1.1.1.0; begins = x.1.1.1.1.1.0; within = x.1.1.1.1.1.1 }) (λ _. refl)
    (×_prop (Coded-set coded_bool _ _) (×_prop (Coded-set coded_bool _ _) (×_prop (Coded-set coded_bool _ _) (×_prop (Coded-set coded_ℕ _ _) (×_prop (Coded-set kept_code _ _) (×_prop (Coded-set coded_ℕ _ _) le_prop))))))
remembers-prop Lost t v =
    as_product (λ x. (x.told, x.failed)) (λ x. record { told = x.0; failed = x.1 }) (λ _. refl) (×_prop (Coded-set coded_bool _ _) (Coded-set coded_bool _ _))

pub Match-prop : (phase : Phase) (t : Topic) (v : StoreView) → IsProp (Match phase t v)
Match-prop phase t v =
    as_product (λ x. (x.kept, (x.remembers, x.numbered))) (λ x. record { kept = x.0; remembers = x.1.0; numbered = x.1.1 }) (λ _. refl)
    (×_prop (is_kept-prop t.committed t.kept t.subs) (×_prop (remembers-prop phase t v) (Coded-set coded_ℕ _ _)))

record_code : Coded Record
record_code = Prim.hlevel codes

starts_from-prop : (b : ℕ) (r : Record) → IsProp (StartsFrom b r)
starts_from-prop b (Made name start) = le_prop
starts_from-prop b (Removed name) = Unit-prop
starts_from-prop b (Acknowledged name position) = Unit-prop
starts_from-prop b (AcknowledgedThrough name position) = Unit-prop
starts_from-prop b (AcknowledgedRange name first last) = Unit-prop

is_for-prop : (t : Topic) (batch : Batch) → IsProp (IsFor t batch)
is_for-prop t batch =
    as_product (λ x. (x.awaited, (x.entries, (x.changes, (x.numbered, (x.starts, x.rises))))))
    (λ x. record { awaited = x.0; entries = x.1.0; changes = x.1.1.0; numbered = x.1.1.1.0; starts = x.1.1.1.1.0; rises = x.1.1.1.1.1 }) (λ _. refl)
    (×_prop (Coded-set coded_bool _ _) (×_prop (Coded-set (coded_list (coded_list coded_ℕ)) _ _) (×_prop (Coded-set (coded_list record_code) _ _) (×_prop le_prop
    (×_prop (AllByRecursion-prop (StartsFrom t.ledger.base) (starts_from-prop t.ledger.base) batch.changes.items) le_prop)))))

pub IsUnderWay-prop : (t : Topic) (flight : Option Flight) → IsProp (IsUnderWay t flight)
IsUnderWay-prop t None = Unit-prop
IsUnderWay-prop t (Some flight) = is_for-prop t (batch_of flight)

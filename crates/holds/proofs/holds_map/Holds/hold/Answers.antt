use Rattle.std.proofs.Common.{◌+◌, ◌-◌, ◌^◌, min, Option}
use Rattle.holds.specs.declared.consumer.ConsumerKey.{ConsumerKey}
use Rattle.holds.specs.declared.delivery.Delivery.{Delivery}
use Rattle.std.proofs.Common.{rules, ◌≡◌, ℕ, ◌∙◌, ap, Some}
use Rattle.std.specs.FinMap as map
use Rattle.holds.specs.Deliveries.{times_in, sent_to}
use Rattle.holds.proofs.Kept.{kept_insert}
use Rattle.holds.proofs.holds_map.Holds.hold.Goals as goal

sent_is : (consumer : ConsumerKey) (d : Option Delivery) (before after : ℕ) → before ≡ times_in d → after ≡ min (before + 1) (2 ^ 32 - 1) → let v : Delivery = record { holder = Some consumer; times = after } in v ≡ sent_to consumer d
sent_is consumer d before after was is = let put : ℕ → Delivery = λ n. record { holder = Some consumer; times = n } in ap put (is ∙ ap (λ n. min (n + 1) (2 ^ 32 - 1)) was)

pub returns-clause-ok : goal.returns-clause-ok
returns-clause-ok c =
    let counted = sent_is c.args.consumer (map.get c.args.self.now c.args.position) c.sent_before.result c.saturating_add-times.result c.sent_before.ensures (search rules) in
    kept_insert c.self.inside.deliveries.entries c.hold.new.deliveries.entries c.args.position _ c.in_ok-hold.ensures.ok
    ∙ (λ i. map.insert (c.self.view_is i) c.args.position (counted i))

use Rattle.std.proofs.Common.{◌≡◌, ◌∙◌, ℕ, sym, ap, refl, inl}
use Rattle.std.specs.Prelude.{codes}
use Rattle.std.proofs.lemmas.Result.{err_from_is_err_and}
use Rattle.node.specs.Driving.{shelf_in, segments_known}
use Rattle.node.specs.State.{fresh_broker}
use Rattle.session.specs.Broker.{Broker}
use Rattle.replay.specs.declared.working.Replay.{Replay}
use Rattle.replay.specs.contracts.working.ReplayLiving.TheImpl.{lives-value}
use Rattle.replay.specs.Cause.{NewDeviceFailed}
use Rattle.replay.proofs.Fresh.{none_counts}
use Rattle.replay.proofs.Worked.{begin_fails}
use Rattle.replay.proofs.working.Replay.begin.Goals as goal

pub returns-in_err-write_output-clause-begun : goal.returns-in_err-write_output-clause-begun
returns-in_err-write_output-clause-begun g c =
    let made = c.in_ok-init.ensures.made tt (none_counts c.new-shelf.result c.new-shelf.ensures.files) (codes "pulsar://replay") in
    let broker : made.0.broker ≡ fresh_broker c.args.per_ledger (codes "pulsar://replay") = made.1 ∙ ap (λ (n : ℕ). fresh_broker n (codes "pulsar://replay")) c.in-Some.ensures.count in
    let url = (c.new-url.ensures ∙ c.in_ok-from_str.ensures.ok) ∙ sym (ap (λ (b : Broker). b.service_url) broker) in
    let s = c.start-machine.ensures.step made.0 made.2 url in
    let p = err_from_is_err_and c.from_residual-in_err-write_output.result c.from_residual-in_err-write_output.ensures.1 in
    rw (p.1, p.2) (begin_fails {R = Replay} lives-value.it c.args.per_ledger _ (record { life = s.0; device = shelf_in c.start-machine.result.0; known = segments_known c.start-machine.result.0 }) _ _ c.in_err-write_output.field-0.0
    (record { made = made.0; broker = broker; output = c.start-machine.result.1; opening = s.1; printed = refl }) c.in_err-write_output.ensures.writes)

pub returns-clause-begun : goal.returns-clause-begun
returns-clause-begun g c =
    let made = c.in_ok-init.ensures.made tt (none_counts c.new-shelf.result c.new-shelf.ensures.files) (codes "pulsar://replay") in
    let broker : made.0.broker ≡ fresh_broker c.args.per_ledger (codes "pulsar://replay") = made.1 ∙ ap (λ (n : ℕ). fresh_broker n (codes "pulsar://replay")) c.in-Some.ensures.count in
    let url = (c.new-url.ensures ∙ c.in_ok-from_str.ensures.ok) ∙ sym (ap (λ (b : Broker). b.service_url) broker) in
    let s = c.start-machine.ensures.step made.0 made.2 url in
    (_, record { life = s.0; device = shelf_in c.start-machine.result.0; known = segments_known c.start-machine.result.0 }, record { made = made.0; broker = broker; output = c.start-machine.result.1; opening = s.1; printed = refl }, (refl, s.2, refl), c.in_ok-write_output.ensures.writes)

pub returns-in_err-init-clause-cause : goal.returns-in_err-init-clause-cause
returns-in_err-init-clause-cause g c =
    let p = err_from_is_err_and c.from_residual-in_err-init.result c.from_residual-in_err-init.ensures.1 in
    let failed : NewDeviceFailed = record { old = c.new-shelf.result; new = c.init.new.shelf; unlaid = c.new-shelf.ensures.laid; failed = c.in_err-init.ensures.refused.1 } in
    rw (p.1, p.2) (λ is. inl (failed, refl))

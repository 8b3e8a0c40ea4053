use Rattle.std.proofs.Common.{ℕ, refl}
use Rattle.gated_log.specs.declared.read_error.ReadError.{ReadError}
use Rattle.session.specs.Client.{play}
use Rattle.session.proofs.Serving.{serves_behind-more, pumped_told-more}
use Rattle.session.proofs.Spoken.{as_client, pump_spoken}
use Rattle.session.proofs.Speaking.{writes_both}
use Rattle.session.proofs.speaker.Speaker.pump.Goals as goal

pub returns-clause-writes : goal.returns-clause-writes
returns-clause-writes g c = writes_both _ _ _ c.collect_all-replies.ensures.speaks.writes c.serve_behind.ensures.writes

pub returns-clause-step : goal.returns-clause-step
returns-clause-step g c = λ s client number goes_on are.
    let port = g.met.P.Port in
    let collecting = c.collect_all-replies.ensures in
    let serving = c.serve_behind.ensures in
    let last = c.serve_behind.new.port in
    let Told : ℕ → ReadError → Type 0 = λ topic why. g.P.Port.refuses c.args.port.now topic why last in
    let more : (topic : ℕ) (why : ReadError) → g.P.Port.refuses c.collect_all-replies.new.port topic why last → Told topic why =
    λ topic why h. port.refuses_within c.args.port.now c.collect_all-replies.new.port last last topic why collecting.passes serving.passes (port.passes_nothing last) h in
    let collected = play c.collect_all-replies.new.self (g.P.Port.broker c.collect_all-replies.new.port) c.collect_all-replies.new.out.items in
    let behind = serves_behind-more _ Told more _ _ _ _ (serving.step (port.passes_sole _ _ collecting.passes s) (as_client client c.collect_all-replies.new.self) refl refl are) in
    pump_spoken Told c.args.self client _ _ _ _ c.collect_all-replies.result collected c.serve_behind.result c.requires number goes_on collecting.speaks.number
    (collecting.collects s) collecting.most (collecting.all s) behind

pub returns-clause-told : goal.returns-clause-told
returns-clause-told g c =
    let port = g.met.P.Port in
    let last = c.serve_behind.new.port in
    let Told : ReadError → Type 0 = λ why. (topic : ℕ) × g.P.Port.refuses c.args.port.now topic why last in
    let more : (why : ReadError) → (topic : ℕ) × g.P.Port.refuses c.collect_all-replies.new.port topic why last → Told why = λ why h.
    (h.0, port.refuses_within c.args.port.now c.collect_all-replies.new.port last last h.0 why c.collect_all-replies.ensures.passes c.serve_behind.ensures.passes (port.passes_nothing last) h.1) in
    pumped_told-more _ Told more c.serve_behind.result c.serve_behind.ensures.told

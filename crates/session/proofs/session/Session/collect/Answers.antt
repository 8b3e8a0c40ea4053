use Rattle.std.proofs.Common.{◌≡◌, ◌∙◌, sym, ap, Option, None}
use Rattle.session.specs.Client.{Client, play}
use Rattle.session.specs.declared.fault.Fault.{Fault}
use Rattle.session.proofs.Spoken.{collect_spoken}
use Rattle.session.proofs.session.Session.collect.Goals as goal

pub returns-clause-step : goal.returns-clause-step
returns-clause-step g c = λ s.
    let port = g.met.P.Port in
    let client = c.args.self.now in
    let collecting = c.collect_all-replies.ensures in
    let collected = play c.collect_all-replies.new.self (g.P.Port.broker c.collect_all-replies.new.port) c.collect_all-replies.new.out.items in
    let left = c.leave_if_ended-why.ensures.left (port.passes_sole _ _ collecting.passes s) in
    let number = sym (ap (λ (v : Client). v.number) c.self.view_is) ∙ sym (ap (λ (v : Client). v.number) c.new-speaker.ensures) in
    let none = ap (λ (v : Client). v.fault) c.new-speaker.ensures in
    let goes_on : client.fault ≡ None = sym (ap (λ (v : Client). v.fault) c.self.view_is) ∙ c.in_default.is in
    let with : Option Fault → Client = λ f. record {
      number = c.self.inside.number;
      progress = c.self.inside.parser;
      connected = c.self.inside.connected;
      producers = c.self.inside.producers.items;
      consumers = c.self.inside.consumers;
      fault = f;
    } in
    let after : with c.leave_if_ended-why.result ≡ record client { fault = c.collect_all-replies.new.self.fault } =
    ap with c.leave_if_ended-why.ensures.fault ∙ ap (λ (v : Client). let w : Client = record v { fault = c.collect_all-replies.new.self.fault } in w) c.self.view_is in
    collect_spoken c.new-speaker.result client _ _ _ _ c.collect_all-replies.result collected none number goes_on collecting.speaks.number
    (collecting.collects s) collecting.most (collecting.all s) left after

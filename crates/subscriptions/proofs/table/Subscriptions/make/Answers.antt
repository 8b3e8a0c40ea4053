use Rattle.std.proofs.Common.{◌≡◌, ◌++◌, [], ◌∷◌, List, None, ap, ◌∙◌, sym, subst, length, rules}
use Rattle.std.specs.List.{position}
use Rattle.records.specs.declared.record.Record.TheVariants.{Made}
use Rattle.subscriptions.specs.Directory.{ArePlaces}
use Rattle.subscriptions.specs.Quiet.{AreQuiet}
use Rattle.subscriptions.specs.State.{Subscription, Subscriptions}
use Rattle.subscriptions.specs.Steps.{first_standing, is_named, subscribe_refusals, attached_to, attached, made}
use Rattle.subscriptions.proofs.Places.{misses}
use Rattle.subscriptions.proofs.Limits.{limits_made}
use Rattle.subscriptions.proofs.Found.{allowed_none, attaches_none}
use Rattle.subscriptions.proofs.Passed.{hints_made}
use Rattle.subscriptions.proofs.Standing.{places_made}
use Rattle.subscriptions.proofs.Noted.{notes_made}
use Rattle.subscriptions.proofs.table.Subscriptions.make.Goals as goal

pub invariant_of-self-2 : goal.invariant_of-self-2
invariant_of-self-2 g c =
    let t : Subscriptions = record { subs = c.self.inside.subs.items; changes = c.self.inside.changes.items; slots = c.self.inside.marks.slots; messages = c.self.inside.marks.messages } in
    let at : position (is_named c.args.name.now) t.subs ≡ None = ap (λ (x : Subscriptions). position (is_named c.args.name.now) x.subs) c.self.view_is ∙ c.requires.absent in
    let sub : c.in_ok-sub.sub ≡ attached_to c.args.mode c.args.seat (g.G.Gauge.word c.args.gauge) (made c.args.name.now c.args.mode c.args.start) = search rules in
    let subs : c.push-2.new.self.items ≡ c.self.inside.subs.items ++ c.in_ok-sub.sub ∷ [] = search rules in
    let pushed : c.push.new.self.items ≡ c.self.inside.changes.items ++ Made c.args.name.now c.args.start ∷ [] = search rules in
    let hints : c.push-3.new.self.items ≡ c.self.inside.hints.items ++ c.new.result ∷ [] = search rules in
    let allowed = ap (λ (x : Subscriptions). first_standing (subscribe_refusals x c.args.name.now c.args.mode c.args.seat.ranges)) c.self.view_is ∙ c.requires.allowed in
    let last : c.len.result ≡ length t.subs = search rules in
    let with_it : c.push-2.new.self.items ≡ t.subs ++ attached_to c.args.mode c.args.seat (g.G.Gauge.word c.args.gauge) (made c.args.name.now c.args.mode c.args.start) ∷ [] = subs ∙ ap (λ s. t.subs ++ s ∷ []) sub in (
      rw (with_it, pushed) (limits_made t c.args.name.now c.args.mode c.args.seat (g.G.Gauge.word c.args.gauge) c.args.start
          (misses (is_named c.args.name.now) t.subs at) (allowed_none t c.args.name.now c.args.mode c.args.seat.ranges at allowed) c.self.invariant.0),
      rw (subs, pushed, hints) (hints_made t c.self.inside.hints.items _ c.new.result _ c.self.invariant.1 c.new.ensures),
      subst (λ (xs : List Subscription). ArePlaces xs c.add.new.self) (sym with_it)
          (places_made t.subs c.self.inside.directory c.add.new.self c.args.name.now c.args.mode c.args.seat (g.G.Gauge.word c.args.gauge) c.args.start c.len.result last c.in_default-add.ensures.ok c.self.invariant.2),
      subst (λ (xs : List Subscription). AreQuiet xs c.self.inside.quiet) (sym with_it)
          (notes_made t.subs c.self.inside.quiet c.args.name.now c.args.mode c.args.seat (g.G.Gauge.word c.args.gauge) c.args.start c.self.invariant.3),
    )

pub returns-clause-ok : goal.returns-clause-ok
returns-clause-ok g c =
    let t : Subscriptions = record { subs = c.self.inside.subs.items; changes = c.self.inside.changes.items; slots = c.self.inside.marks.slots; messages = c.self.inside.marks.messages } in
    let at : position (is_named c.args.name.now) t.subs ≡ None = ap (λ (x : Subscriptions). position (is_named c.args.name.now) x.subs) c.self.view_is ∙ c.requires.absent in
    let sub : c.in_ok-sub.sub ≡ attached_to c.args.mode c.args.seat (g.G.Gauge.word c.args.gauge) (made c.args.name.now c.args.mode c.args.start) = search rules in
    let subs : c.push-2.new.self.items ≡ c.self.inside.subs.items ++ c.in_ok-sub.sub ∷ [] = search rules in
    let pushed : c.push.new.self.items ≡ c.self.inside.changes.items ++ Made c.args.name.now c.args.start ∷ [] = search rules in
    rw (subs, pushed) (attaches_none t c.args.name.now c.args.mode c.args.seat (g.G.Gauge.word c.args.gauge) c.args.start c.in_ok-sub.sub at sub
    ∙ ap (λ (x : Subscriptions). attached x c.args.name.now c.args.mode c.args.seat (g.G.Gauge.word c.args.gauge) c.args.start) c.self.view_is)

use Rattle.std.proofs.Common.{◌≡◌, ◌∙◌, ◌++◌, [], ◌∷◌, List, ap, sym, subst, refl, rules, append-nil, append_assoc, ℕ, length, take, arith}
use Rattle.node.specs.Runs.{Run}
use Rattle.node.specs.State.{State}
use Rattle.node.specs.Standing.{state_of, disk_of}
use Rattle.node.specs.Passing.{stands_so}
use Rattle.node.specs.declared.event.Event.{Event}
use Rattle.node.specs.declared.event.Output.{Output}
use Rattle.node.specs.Steps.{BrokerStep}
use Rattle.node.proofs.Carrying.{chain-push, chain-length}
use Rattle.node.proofs.Reaching.{one_more, front_of, crash_first, crash_more}
use Rattle.node.proofs.node.Node.run.Goals as goal

length_nil : (xs : List Event) {n : ℕ} → n ≡ length xs → n ≡ 0 → xs ≡ []
length_nil [] is none = refl
length_nil (x ∷ xs) is none = absurd (omega (arith, is, none))

-- what was worked is a front of the events, as long as the outputs
worked : (old : State) (events done rest : List Event) (answers : List Output) (new : State) → events ≡ done ++ rest → Run old done answers new → Run old (take (length answers) events) answers new
worked old events done rest answers new is run =
    subst (λ (es : List Event). Run old es answers new) (sym (front_of events done rest answers is (chain-length BrokerStep old done answers new run))) run

pub loop-event-init : goal.loop-event-init
loop-event-init g c =
    let n = c.args.self.now in
    record {
      prefix = sym c.into_iter-event-iterator.ensures.into_iter_gives.0;
      stands = λ s. s;
      run = λ s. ([], sym (append-nil c.args.outputs.now.items), refl);
      any_moment = λ s. crash_first g.T.TopicStore.stands (state_of g.S.Shelf.disk n) c.args.events.items (g.S.Shelf.disk n.topics.shelf) (stands_so g.S.Shelf.disk n.topics s);
    }

pub loop-event-preserved : goal.loop-event-preserved
loop-event-preserved g c =
    let i = c.loop-event.invariant in
    let old = state_of g.S.Shelf.disk c.args.self.now in
    let mid = state_of g.S.Shelf.disk c.loop-event.self in
    let disk = disk_of g.S.Shelf.disk in
    let next = c.in-Some.ensures.steps.0 in
    let s' = c.step-output.ensures in
    let pushed : c.push.new.self.items ≡ c.loop-event.outputs.items ++ c.step-output.result ∷ [] = search rules in
    record {
      prefix = one_more _ _ _ _ _ i.prefix next;
      stands = λ s. s'.stands (i.stands s);
      run = λ s.
          let r = i.run s in (
            r.0 ++ c.step-output.result ∷ [],
            pushed ∙ ap (λ (os : List Output). os ++ c.step-output.result ∷ []) r.1 ∙ append_assoc c.args.outputs.now.items r.0 (c.step-output.result ∷ []),
            chain-push BrokerStep _ _ _ _ _ _ _ r.2 (s'.step (i.stands s)),
          );
      any_moment = λ s.
          let r = i.run s in
          crash_more g.T.TopicStore.stands old c.args.events.items c.loop-event.yielded r.0 mid c.in-Some.event c.loop-event.event-iterator.rest.items c.next.new.self.rest.items
          (disk c.args.self.now) (disk c.loop-event.self) (disk c.step-output.new.self) r.2 i.prefix next (i.any_moment s) (s'.any_moment (i.stands s));
    }

pub returns-in_err-reserve : goal.returns-in_err-reserve
returns-in_err-reserve g c =
    let i = c.loop-event.invariant in
    let old = state_of g.S.Shelf.disk c.args.self.now in
    let mid = state_of g.S.Shelf.disk c.loop-event.self in
    record {
      ran = λ s. let r = i.run s in record {
        answers = r.0;
        added = c.reserve.ensures.items ∙ r.1;
        run = worked old c.args.events.items c.loop-event.yielded c.loop-event.event-iterator.rest.items r.0 mid i.prefix r.2;
        whole = search rules;
      };
      stands = i.stands;
      any_moment = i.any_moment;
    }

pub returns : goal.returns
returns g c =
    let i = c.loop-event.invariant in
    let old = state_of g.S.Shelf.disk c.args.self.now in
    let mid = state_of g.S.Shelf.disk c.loop-event.self in
    let rest = c.loop-event.event-iterator.rest in
    let none : rest.items ≡ [] = length_nil _ (rest.ok.0) c.in-None.ensures.steps.0 in
    let all : c.args.events.items ≡ c.loop-event.yielded = i.prefix ∙ ap (λ (r : List Event). c.loop-event.yielded ++ r) none ∙ append-nil c.loop-event.yielded in
    record {
      ran = λ s. let r = i.run s in record {
        answers = r.0;
        added = r.1;
        run = worked old c.args.events.items c.loop-event.yielded rest.items r.0 mid i.prefix r.2;
        whole = chain-length BrokerStep old c.loop-event.yielded r.0 mid r.2 ∙ ap (λ (es : List Event). length es) (sym all);
      };
      stands = i.stands;
      any_moment = i.any_moment;
    }

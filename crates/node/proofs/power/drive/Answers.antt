use Rattle.std.proofs.Common.{◌≡◌, ◌++◌, [], ◌∷◌, List, ap, sym, refl, rules, false, length, ℕ, arith}
use Rattle.node.specs.Runs.{Life, HappeningStep}
use Rattle.node.specs.declared.event.Happening.{Happening}
use Rattle.node.specs.declared.event.Happening.TheVariants as happening
use Rattle.node.specs.Driving.{disk_in}
use Rattle.node.proofs.Cutting.{short_first, short_more}
use Rattle.node.proofs.Accounts.{life_accounts}
use Rattle.node.proofs.Carrying.{chain-push}
use Rattle.node.proofs.Lives.{front_run, none_added, one_added, none_more, all_worked, worked_length}
use Rattle.node.proofs.Reaching.{one_more}
use Rattle.node.proofs.Since.{drove_since}
use Rattle.node.proofs.power.drive.Goals as goal

length_nil : (xs : List Happening) {n : ℕ} → n ≡ length xs → n ≡ 0 → xs ≡ []
length_nil [] is none = refl
length_nil (x ∷ xs) is none = absurd (omega (arith, is, none))

pub loop-happening-init : goal.loop-happening-init
loop-happening-init g c =
    let pushed : c.push.new.self.items ≡ c.args.outputs.now.items ++ c.start-machine.result.1 ∷ [] = search rules in
    record {
      prefix = sym c.into_iter-happening-iterator.ensures.into_iter_gives.0;
      run = λ first rest url.
          let s = c.start-machine.ensures.step first rest url in
          let moments = short_first g.T.TopicStore.stands first c.args.happenings.items (g.S.Shelf.disk c.args.site.shelf) (disk_in g.S.Shelf.disk c.start-machine.result.0) (c.start-machine.ensures.any_moment first rest) in
          (c.start-machine.result.1 ∷ [], s.0, pushed, (s.0, s.1, refl), s.2, moments);
    }

pub loop-happening-preserved : goal.loop-happening-preserved
loop-happening-preserved g c =
    let i = c.loop-happening.invariant in
    let pushed : c.push-in-loop-happening.new.self.items ≡ c.loop-happening.outputs.items ++ c.happen-next.result.1 ∷ [] = search rules in
    record {
      prefix = one_more _ _ _ _ _ i.prefix c.in-Some.ensures.steps.0;
      run = λ first rest url.
          let r = i.run first rest url in
          let s = c.happen-next.ensures.step r.1 r.4 in
          let moments = short_more g.T.TopicStore.stands first c.args.happenings.items c.loop-happening.yielded r.0 r.1 r.3 c.in-Some.happening _ _
          (g.S.Shelf.disk c.args.site.shelf) (disk_in g.S.Shelf.disk c.loop-happening.machine) (disk_in g.S.Shelf.disk c.happen-next.result.0)
          i.prefix c.in-Some.ensures.steps.0 r.5 (c.happen-next.ensures.any_moment r.1 r.4) in
          let start : Life = record { up = false; state = first } in (
            r.0 ++ c.happen-next.result.1 ∷ [],
            s.0,
            one_added c.args.outputs.now.items c.loop-happening.outputs.items _ r.0 c.happen-next.result.1 r.2 pushed,
            chain-push HappeningStep start (happening.Crash ∷ c.loop-happening.yielded) r.0 r.1 c.in-Some.happening c.happen-next.result.1 s.0 r.3 s.1,
            s.2,
            moments,
          );
    }

pub returns-in-Err-clause-drove : goal.returns-in-Err-clause-drove
returns-in-Err-clause-drove g c = λ first rest url.
    let start : Life = record { up = false; state = first } in
    record {
      answers = [];
      last = start;
      added = none_added c.args.outputs.now.items _ c.reserve.ensures.items;
      run = refl;
      whole = search rules;
      accounts = λ at_start. life_accounts start [] [] start refl at_start;
      since = λ sound. tt;
    }

pub returns-in-Err-reserve-clause-drove : goal.returns-in-Err-reserve-clause-drove
returns-in-Err-reserve-clause-drove g c = λ first rest url.
    let i = c.loop-happening.invariant in
    let r = i.run first rest url in
    let start : Life = record { up = false; state = first } in
    let worked = happening.Crash ∷ c.loop-happening.yielded in
    let run = front_run start (happening.Crash ∷ c.args.happenings.items) worked c.loop-happening.happening-iterator.rest.items r.0 r.1 (ap (λ (hs : List Happening). happening.Crash ∷ hs) i.prefix) r.3 in
    record {
      answers = r.0;
      last = r.1;
      added = none_more c.args.outputs.now.items r.0 c.loop-happening.outputs.items _ c.reserve-in-loop-happening.ensures.items r.2;
      run = run;
      whole = search rules;
      accounts = λ at_start. life_accounts start _ r.0 r.1 run at_start;
      since = λ sound. drove_since first c.args.happenings.items r.0 r.1 run sound;
    }

pub returns-clause-drove : goal.returns-clause-drove
returns-clause-drove g c = λ first rest url.
    let i = c.loop-happening.invariant in
    let r = i.run first rest url in
    let start : Life = record { up = false; state = first } in
    let it = c.loop-happening.happening-iterator.rest in
    let worked = happening.Crash ∷ c.loop-happening.yielded in
    let run = front_run start (happening.Crash ∷ c.args.happenings.items) worked it.items r.0 r.1 (ap (λ (hs : List Happening). happening.Crash ∷ hs) i.prefix) r.3 in
    let z : it.items ≡ [] = length_nil _ it.ok.0 c.in-None.ensures.steps.0 in
    let e : c.loop-happening.yielded ≡ c.args.happenings.items = all_worked c.args.happenings.items c.loop-happening.yielded it.items i.prefix z in
    record {
      answers = r.0;
      last = r.1;
      added = r.2;
      run = run;
      whole = (worked_length start c.loop-happening.yielded c.args.happenings.items r.0 r.1 happening.Crash e r.3, r.4);
      accounts = λ at_start. life_accounts start _ r.0 r.1 run at_start;
      since = λ sound. drove_since first c.args.happenings.items r.0 r.1 run sound;
    }

pub returns-clause-any_moment : goal.returns-clause-any_moment
returns-clause-any_moment g c = λ first rest url. (c.loop-happening.invariant.run first rest url).5

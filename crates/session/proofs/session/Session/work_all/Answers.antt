use Rattle.std.proofs.Common.{◌++◌, [], ◌∷◌}
use Rattle.session.specs.Client.{play}
use Rattle.session.specs.Working.{asked_by, names_in}
use Rattle.session.proofs.Plays.{frames_step-push}
use Rattle.session.proofs.Causes.{frame_caused, frames_caused}
use Rattle.session.proofs.Searching.{names_before, names_now}
use Rattle.session.proofs.Speaking.{speaks_both}
use Rattle.session.proofs.session.Session.work_all.Goals as goal

pub loop-frame-preserved : goal.loop-frame-preserved
loop-frame-preserved g c =
    let port = g.met.P.Port in
    let fails = g.P.Port.fails in
    let i = c.loop-frame.invariant in
    let e = c.work.ensures in
    let begins = c.args.port.now in
    let meets = c.loop-frame.port in
    let ends = c.work.new.port in
    let all = names_in (c.loop-frame.yielded ++ c.in-Some.frame ∷ []) in
    let before = port.works_more (names_in c.loop-frame.yielded) all begins meets (names_before c.loop-frame.yielded c.in-Some.frame) i.works in
    let now = port.works_more (asked_by c.in-Some.frame.command) all meets ends (names_now c.loop-frame.yielded c.in-Some.frame) e.works in
    let first = play c.args.self.now (g.P.Port.broker begins) c.args.out.now.items in
    let met = play c.loop-frame.self (g.P.Port.broker meets) c.loop-frame.out.items in
    let last = play c.work.new.self (g.P.Port.broker ends) c.work.new.out.items in
    record {
      steps = λ s. frames_step-push (fails begins ends) first _ met _ last
          (frames_caused (fails begins meets) (fails begins ends) (port.fails_within all begins begins meets ends (port.passes_works all begins begins (port.passes_nothing begins)) before now) first _ met (i.steps s))
          (frame_caused (fails meets ends) (fails begins ends) (port.fails_within all begins meets ends ends before now (port.passes_works all ends ends (port.passes_nothing ends))) met _ last (e.step (port.works_sole _ _ _ i.works s)));
      speaks = speaks_both _ _ _ _ _ _ c.loop-frame.invariant.speaks c.work.ensures.speaks;
      works = port.works_both all begins meets ends before now;
    }

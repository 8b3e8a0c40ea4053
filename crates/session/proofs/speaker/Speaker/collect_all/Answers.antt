use Rattle.std.proofs.Common.{◌≡◌, ℕ, sym, ap, ◌∙◌, subst, arith, ⊎_elim, [], Some}
use Rattle.std.proofs.lemmas.Bool.{cases_eq, cases_lt}
use Rattle.session.specs.Broker.{Broker, due_at, PassesOver}
use Rattle.session.proofs.Plays.{collects-more, collects_at-fault, collects_at-others}
use Rattle.session.proofs.Speaking.{speaks_both}
use Rattle.session.proofs.speaker.Speaker.collect_all.Goals as goal

pub loop-from-preserved : goal.loop-from-preserved
loop-from-preserved g c =
    let i = c.loop-from.invariant in
    let e = c.collect_topic-count.ensures in
    let port = g.met.P.Port in
    let was : Broker = g.P.Port.broker c.loop-from.port in
    record {
      most = omega arith;
      collects = λ s. collects-more _ c.in-Some.topic _ _ _ _ (i.collects s) (e.collects (port.passes_sole _ _ i.passes s));
      all = λ s none few topic below.
          let now = port.passes_sole _ _ i.passes s in
          let at = e.collects now in
          let over : PassesOver was c.number.result c.loop-from.from (Some c.in-Some.topic) = subst (PassesOver was c.number.result c.loop-from.from) c.in-Some.is (c.next_due.ensures.passed_over now) in
          let P : ℕ → Type 0 = λ t. due_at (g.P.Port.broker c.collect_topic-count.new.port) t c.collect_topic-count.new.self.number ≡ [] in
          ⊎_elim
          (λ same. subst P (sym same) (e.all now none (omega arith)))
          (λ other. collects_at-others c.in-Some.topic _ _ _ at topic c.collect_topic-count.new.self.number other
          ∙ ap (λ w. due_at was topic w) e.speaks.number
          ∙ ⊎_elim
          (λ before. i.all s (collects_at-fault c.in-Some.topic _ _ _ at none) (omega arith) topic before)
          (λ past. subst (λ w. due_at was topic w ≡ []) c.number.ensures (over topic past (omega (arith, below, other))))
          (cases_lt topic c.loop-from.from))
          (cases_eq topic c.in-Some.topic);
      speaks = speaks_both _ _ _ _ _ _ i.speaks e.speaks;
      passes = port.passes_both _ _ _ i.passes e.passes;
    }

use Rattle.std.proofs.Common.{subst}
use Rattle.topic_stores.specs.Appends.{PreparedFor}
use Rattle.topic_stores.proofs.appending.append_changes.Goals as goal

pub returns-clause-appends : goal.returns-clause-appends
returns-clause-appends g c = λ entries said kept changes prepared formed starts s.
    c.append_prepared.ensures.appends entries said kept changes (subst (λ p. PreparedFor (g.C.SubStore.is_for c.args.store.now) p changes) c.in-Some.is prepared) formed starts s

use Rattle.session.proofs.session.Session.work_alone.Goals as goal

pub returns-in-PartitionedMetadata-clause-step : goal.returns-in-PartitionedMetadata-clause-step
returns-in-PartitionedMetadata-clause-step g c = λ sole entry. rw c.in-PartitionedMetadata.is (c.tell_partitions.ensures.step (g.P.Port.broker c.args.port.now))

use Rattle.std.proofs.Common.{leb, leb-true, leb-false, le-ltb, lt-ltb, sym, arith, rules}
use Rattle.std.specs.Prelude.{nat_lt}
use Rattle.std.proofs.lemmas.List.Sorted.{IsPartitionPoint-from_clause}
use Rattle.std.proofs.lemmas.List.Sums.{position_or_len_is}
use Rattle.session.specs.declared.entry.Entry.{Entry}
use Rattle.session.proofs.Searched.{parted_upto, some_entry}
use Rattle.session.proofs.consumers.place_behind.Goals as goal

pub returns-clause-place : goal.returns-clause-place
returns-clause-place c =
    let test = λ (e : Entry). leb e.id c.args.id in
    let point = IsPartitionPoint-from_clause test _ _ c.partition_point.ensures.partitioned (parted_upto c.args.consumers.now c.args.id c.requires) (λ a r q k. search rules) in
    sym (position_or_len_is (λ (e : Entry). nat_lt c.args.id e.id) c.args.consumers.now c.partition_point.result some_entry (omega arith)
    (λ k h. le-ltb _ _ (leb-true _ _ (point.0 k some_entry (omega arith) h)))
    (λ h. lt-ltb _ _ (leb-false _ _ (point.1 c.partition_point.result some_entry (omega arith) h))))

use Rattle.std.proofs.Common.{◌∙◌, sym}
use Rattle.std.specs.Ordering.{nat_cmp}
use Rattle.std.specs.BTreeMap as tree
use Rattle.holds.proofs.Listed.{gave_all, gave_listing, gave_step}
use Rattle.holds.proofs.holds_map.give_back.Goals as goal

pub loop-position-preserved : goal.loop-position-preserved
loop-position-preserved c = record {
  listing = λ start. gave_listing c.loop-position.deliveries c.free_at.new.deliveries c.loop-position.places c.take.new.places c.args.consumer c.in-Some.position c.in-Some.ensures.some.0 c.free_at.ensures c.take.ensures.taken (c.loop-position.invariant.listing start);
  freed = λ start q. gave_step c.loop-position.deliveries c.free_at.new.deliveries c.loop-position.places c.args.consumer c.in-Some.position c.in-Some.ensures.some.0 c.free_at.ensures (c.loop-position.invariant.listing start) q ∙ c.loop-position.invariant.freed start q;
}

pub returns-clause-freed : goal.returns-clause-freed
returns-clause-freed c start q = gave_all c.args.consumer (tree.get nat_cmp c.loop-position.deliveries q) (sym (c.loop-position.invariant.listing start c.args.consumer q) ∙ c.in_default.ensures.none q) ∙ c.loop-position.invariant.freed start q

pub returns-clause-listing : goal.returns-clause-listing
returns-clause-listing c start = c.loop-position.invariant.listing start

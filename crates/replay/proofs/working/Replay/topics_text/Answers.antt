use Rattle.std.proofs.Common.{rules, ◌≡◌, ◌∙◌, ◌++◌, ◌+◌, ℕ, List, length, Option, Some, sym, ap, subst, length-append, arith}
use Rattle.node.specs.declared.status.TopicStatus.{TopicStatus}
use Rattle.disk_mem.specs.Device.{disk_of}
use Rattle.node.specs.Driving as node
use Rattle.admin.specs.Status.{lines_of}
use Rattle.replay.specs.Replay.{IsCounted, segments_laid}
use Rattle.replay.proofs.Counted.{machine_counts}
use Rattle.replay.proofs.Told.{ToldSoFar, told_more, told_all, lines_have_bytes}
use Rattle.replay.proofs.working.Replay.topics_text.Goals as goal

pub loop-text-preserved : goal.loop-text-preserved
loop-text-preserved c =
    let known = c.loop-text.invariant in
    let status = c.in-Some.status in
    let text = c.loop-text.text.items in
    let same : c.print_topic.new.writer.items ≡ text ++ lines_of status = search rules in record {
      told = λ life holds.
          let machine = c.args.self.now.machine in
          let files = (disk_of (node.shelf_in machine)).seen in
          let now : node.StatusOf life.up life.state c.loop-text.topic (Some status) = subst (λ (o : Option TopicStatus). node.StatusOf life.up life.state c.loop-text.topic o) c.in-Some.is (c.in_ok-status.ensures.status life holds) in
          let segments = subst (λ (o : Option TopicStatus). node.SegmentsTold disk_of segments_laid machine c.loop-text.topic o) c.in-Some.is (c.in_ok-status.ensures.files life holds) in
          let counted : IsCounted life.state files (node.segments_known machine) c.loop-text.topic status = machine_counts disk_of segments_laid c.loop-text.topic status machine life holds now segments in
          subst (λ (t : List ℕ). ToldSoFar life.up life.state files (node.segments_known machine) (c.loop-text.topic + 1) t) (sym same) (told_more life.state files (node.segments_known machine) c.loop-text.topic text life.up status now counted (known.told life holds));
      few = let few = known.few in let some = lines_have_bytes status in let long = ap length same ∙ length-append text (lines_of status) in omega (arith, few, some, long);
    }

pub returns : goal.returns
returns c = λ life holds.
    let now = subst (λ (o : Option TopicStatus). node.StatusOf life.up life.state c.loop-text.topic o) c.in_default.is (c.in_ok-status.ensures.status life holds) in
    told_all life.state (disk_of (node.shelf_in c.args.self.now.machine)).seen (node.segments_known c.args.self.now.machine) c.loop-text.topic c.loop-text.text.items life.up now (c.loop-text.invariant.told life holds)

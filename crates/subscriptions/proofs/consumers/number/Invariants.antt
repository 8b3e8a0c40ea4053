use Rattle.std.proofs.Common.{◌≡◌, ◌≤◌, length}
use Rattle.holds.specs.declared.consumer.ConsumerKey.{ConsumerKey}
use Rattle.subscriptions.specs.Directory.{place_in, numbered}
use Rattle.subscriptions.proofs.Numbered.{place_from}
use Rattle.subscriptions.proofs.consumers.number.Given as goal

abbrev pub invariant-loop-place : goal.invariant-loop-place
invariant-loop-place g l = record {
  within : l.place ≤ length l.consumers;
  places : (k : ConsumerKey) → place_in l.places k ≡ numbered (place_from l.place k l.consumers) (place_in l.initial.places k);
}

abbrev pub decreases-loop-place : goal.decreases-loop-place
decreases-loop-place g l = l.place

-- The abstract values that the structs stand for.
use Rattle.subscriptions.specs.declared.subscription.Subscription.TheInside.{Inside}
use Rattle.subscriptions.specs.Dispatching.{mode_of, seats_of}
use Rattle.subscriptions.specs.State.{Subscription}

abbrev pub subscription_of : {G Told : Type 0} → Inside G Told → Subscription
subscription_of s = record {
  name = s.name;
  mode = mode_of s.dispatch;
  consumers = s.consumers;
  seats = seats_of s.dispatch;
  acked = s.progress.acked;
  deliveries = s.progress.deliveries;
}

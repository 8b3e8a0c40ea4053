-- What a port over locks stands for.
use Rattle.std.specs.Prelude.{[], None}
use Rattle.session.specs.Broker.{Broker}

-- it says nothing of an abstract broker
abbrev pub unknown_broker : Broker
unknown_broker = record { per_ledger = 1; service_url = []; names = []; doubtful = None; topics = [] }

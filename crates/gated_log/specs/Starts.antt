-- Where a topic's ledger begins.
use Rattle.gated_log.specs.declared.start.Start.{Start}

-- nothing was ever trimmed
abbrev pub untrimmed : Start
untrimmed = record { base = 0; first = 0 }

use Rattle.session.proofs.Rising.{feeds_rise, pumps_rise}
use Rattle.session.proofs.laws.consumers_rise.Goals as goal

pub returns : goal.returns
returns c = record {
  start = λ number. tt;
  feed = feeds_rise;
  pump = pumps_rise (λ topic why. Unit {0});
}

use Rattle.node.proofs.Failing.{run_fails, life_fails, cut_life_fails, opened_works, reopened_works, flush_told}
use Rattle.node.proofs.laws.topics_fail_for_a_cause.Goals as goal

pub returns : goal.returns
returns c = record { run = run_fails; life = life_fails; cut = cut_life_fails; opened = opened_works; reopened = reopened_works; told = flush_told }

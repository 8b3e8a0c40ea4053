use Rattle.managed_ledger.specs.Trims.{end_trimmed, kept_trimmed}
use Rattle.managed_ledger.proofs.law.trimmed_entries_alone_are_gone.Goals as goal

pub returns-clause-end : goal.returns-clause-end
returns-clause-end c = λ l b low. end_trimmed l b low

pub returns-clause-kept : goal.returns-clause-kept
returns-clause-kept c = λ l b i low. kept_trimmed l b i low

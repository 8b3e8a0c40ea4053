use Rattle.node.proofs.Accounts.{fresh_at_start, life_accounts, cut_life_accounts}
use Rattle.node.proofs.laws.lives_account.Goals as goal

pub returns : goal.returns
returns c = record { fresh = fresh_at_start; life = life_accounts; cut = cut_life_accounts }

use Rattle.commands.proofs.Told as told
use Rattle.commands.proofs.laws.tells_replies.Goals as goal

pub returns : goal.returns
returns c = told.tells_replies

use Rattle.node.proofs.Sound.{fresh_broker_sound, run_sound, life_sound, cut_life_sound}
use Rattle.node.proofs.laws.stays_sound.Goals as goal

pub returns : goal.returns
returns c = record { fresh = fresh_broker_sound; run = run_sound; life = life_sound; cut = cut_life_sound }

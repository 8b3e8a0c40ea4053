use Rattle.node.proofs.Folders.{served_all}
use Rattle.node.proofs.laws.new_folders_are_served.Goals as goal

pub returns : goal.returns
returns g c = served_all g.S.Shelf.disk

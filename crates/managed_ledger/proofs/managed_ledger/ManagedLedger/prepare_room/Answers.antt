use Rattle.std.proofs.Common.{refl}
use Rattle.managed_ledger.proofs.Appends.{room_made}
use Rattle.managed_ledger.proofs.managed_ledger.ManagedLedger.prepare_room.Goals as goal

pub returns-in_err-reserve-clause-unchanged : goal.returns-in_err-reserve-clause-unchanged
returns-in_err-reserve-clause-unchanged c = room_made c.args.self.now _ refl refl refl c.reserve.ensures.items

pub returns-then-len-from-clause-unchanged : goal.returns-then-len-from-clause-unchanged
returns-then-len-from-clause-unchanged c = room_made c.args.self.now _ refl refl refl c.reserve.ensures.items

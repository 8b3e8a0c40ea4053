-- A client's command is no command of another type.
use Rattle.std.proofs.Common.{◌≡◌, ℕ, List, Result, Ok, Err, Bool, true, false}
use Rattle.commands.specs.declared.fault.CommandFault.{CommandFault}
use Rattle.commands.specs.declared.command.Command.{Command}
use Rattle.commands.specs.declared.command.Command.TheVariants.{Other}
use Rattle.commands.specs.declared.command.CommandType.{CommandType}
use Rattle.commands.specs.declared.command.CommandType.TheVariants.{Ping}
use Rattle.commands.specs.Reading.{◌>>=◌}
use Rattle.commands.specs.Commands.{command_in}

abbrev is_other : Command → Bool
is_other (Other k) = true
is_other command = false

-- what is read is a client's command
record IsClients (r : Result Command CommandFault) : Type 0 where
  known : (command : Command) → r ≡ Ok command → is_other command ≡ false

clients-ok : (command : Command) → is_other command ≡ false → IsClients (Ok command)
clients-ok command h = record { known = λ other same. let e : other ≡ command = cc in rw e h }

clients-bind : {A : Type 0} (r : Result A CommandFault) (f : A → Result Command CommandFault) → ((x : A) → IsClients (f x)) → IsClients (r >>= f)
clients-bind r f k = elim r as (λ q. IsClients (q >>= f)) [ Ok x ↦ k x | Err e ↦ record { known = λ other same. cc } ]

clients : (kind : CommandType) (body : List ℕ) → IsClients (command_in kind body)
unfolding command_in
clients Ping body = search (clients-bind, clients-ok)
clients other body = search (clients-bind, clients-ok)

pub not_other : (kind : CommandType) (body : List ℕ) (k : ℕ) → command_in kind body ≡ Ok (Other k) → ⊥
not_other kind body k h = let e : true ≡ false = (clients kind body).known (Other k) h in cc

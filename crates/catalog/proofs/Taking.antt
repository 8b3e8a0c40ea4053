-- The answer of a body.
use Rattle.std.proofs.Common.{Result, Ok, Err}
use Rattle.std.specs.Result.{IfOk}

pub ok_both : {T E : Type 0} (result : Result T E) (P Q R : T → Type 0) → IfOk result P → IfOk result Q → ((x : T) → P x → Q x → R x) → IfOk result R
ok_both (Ok x) P Q R is is' then = then x is is'
ok_both (Err e) P Q R is is' then = tt

-- Text of a field.
use Rattle.std.proofs.Common.{◌≡◌, ℕ, List, Ok, Err, true, false, refl}
use Rattle.std.specs.Str.{IsUtf8, is_utf8}
use Rattle.std.proofs.lemmas.Str.{IsUtf8-from_is_utf8, is_utf8-from_IsUtf8}
use Rattle.commands.specs.declared.fault.CommandFault.TheVariants.{Unreadable}
use Rattle.commands.specs.Message.{as_text}

pub as_text-good : (bytes : List ℕ) → IsUtf8 bytes → as_text bytes ≡ Ok bytes
as_text-good bytes h = rw (is_utf8-from_IsUtf8 bytes h) refl

pub as_text-bad : (bytes : List ℕ) → (IsUtf8 bytes → ⊥) → as_text bytes ≡ Err Unreadable
as_text-bad bytes h =
    elim (is_utf8 bytes) as (λ b. is_utf8 bytes ≡ b → as_text bytes ≡ Err Unreadable) [
      | true ↦ λ e. absurd (h (IsUtf8-from_is_utf8 bytes e))
      | false ↦ λ e. rw e refl
    ] refl

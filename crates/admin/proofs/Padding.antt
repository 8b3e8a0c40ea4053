-- What a hole `{:>4}` writes of a number.
use Rattle.std.proofs.Common.{◌≡◌, ℕ, zero, suc, ◌-◌, ◌^◌, false, List, [], ◌∷◌, ◌++◌, length, replicate, refl, ap, append-nil, arith}
use Rattle.std.specs.List.{repeat}
use Rattle.std.specs.Fmt.{decimal, padded_integral, format_spec, char_count}
use Rattle.std.proofs.Math.Utf8.{encode}
use Rattle.admin.specs.Status.{right_in}

repeat-one : (n byte : ℕ) → repeat n (byte ∷ []) ≡ replicate n byte
repeat-one zero byte = refl
repeat-one (suc n) byte = ap (λ (rest : List ℕ). byte ∷ rest) (repeat-one n byte)

space : encode 32 ≡ 32 ∷ []
unfolding encode
space = refl

-- so much fill before a text, and none after it
filled_before : (fill places len : ℕ) (text : List ℕ) → fill ≡ places - len
    → repeat fill (encode 32) ++ [] ++ [] ++ [] ++ (text ++ repeat (fill - fill) (encode 32)) ≡ replicate (places - len) 32 ++ text
filled_before fill places len text e =
    let none : fill - fill ≡ 0 = omega arith in
    let spaces : List ℕ = replicate fill 32 in
    rw (none, space, append-nil text, repeat-one fill 32, append-nil (spaces ++ [] ++ []), append-nil (spaces ++ []), append-nil spaces, e) refl

pub right_in_is : (places n : ℕ) → padded_integral (format_spec 32 3 0 places (2 ^ 64 - 1)) false [] (decimal n) ≡ right_in places n
unfolding padded_integral char_count
right_in_is places n = filled_before (places - length (decimal n) - 0 - 0) places (length (decimal n)) (decimal n) (omega arith)

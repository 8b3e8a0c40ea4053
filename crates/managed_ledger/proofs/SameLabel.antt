-- Whether two labels are one.
use Rattle.std.specs.Prelude.{◌≡◌, ◌≢◌, ◌==◌, ◌&&◌, Bool, true, false, not}
use Rattle.std.proofs.Common.{refl, sym, subst}
use Rattle.std.proofs.lemmas.Bool.{eqb-true, eq-eqb}
use Rattle.gated_log.specs.declared.label.Label.{Label}

-- what `!=` answers
abbrev differ : Label → Label → Bool
differ a b = not ((a.number == b.number) && ((a.start.base == b.start.base) && (a.start.first == b.start.first)))

all_true : (x y z : Bool) → not (x && (y && z)) ≡ false → (x ≡ true) × (y ≡ true) × (z ≡ true)
all_true true true true is = (refl, refl, refl)
all_true true true false is = absurd (cc)
all_true true false z is = absurd (cc)
all_true false y z is = absurd (cc)

not_all : (x y z : Bool) → x ≡ true → y ≡ true → z ≡ true → not (x && (y && z)) ≡ false
not_all true true true one two three = refl
not_all true true false one two three = absurd (cc)
not_all true false z one two three = absurd (cc)
not_all false y z one two three = absurd (cc)

pub same_label : (a b : Label) → differ a b ≡ false → a ≡ b
same_label a b is =
    let parts = all_true (a.number == b.number) (a.start.base == b.start.base) (a.start.first == b.start.first) is in
    let number = eqb-true a.number b.number parts.0 in
    let base = eqb-true a.start.base b.start.base parts.1 in
    let first = eqb-true a.start.first b.start.first parts.2 in
    (λ i. record { number = number i; start = record { base = base i; first = first i } })

pub other_label : (a b : Label) → differ a b ≡ true → a ≢ b
other_label a b is same =
    let itself : differ a a ≡ true = subst (λ (l : Label). differ a l ≡ true) (sym same) is in
    let one = not_all (a.number == a.number) (a.start.base == a.start.base) (a.start.first == a.start.first) (eq-eqb a.number a.number refl) (eq-eqb a.start.base a.start.base refl) (eq-eqb a.start.first a.start.first refl) in
    cc

use Rattle.std.proofs.Common.{◌≡◌, sym, ap, ◌∙◌, subst, ℕ, ℤ, ◌<◌, ◌≤◌, ◌^◌, true, unsigned_abs, to_z, of_z, w32, arith}
use Rattle.std.proofs.lemmas.Int.{to_z-of_z, fits_signed_from_abs}
use Rattle.managed_ledger.specs.Entries.{is_message_count}
use Rattle.topic_core.proofs.Counting.{counts_so, counts_one, count_in}
use Rattle.topic_core.proofs.messages.messages_of_meta.Goals as goal

-- a number of messages fits in 32 bits with a sign
small : (z : ℤ) → is_message_count z ≡ true → unsigned_abs z < 2 ^ 31
small z is = omega (arith, counts_so z is, (count_in z).1)

back : (z : ℤ) → is_message_count z ≡ true → to_z w32 (of_z w32 z) ≡ z
back z is = to_z-of_z w32 z (fits_signed_from_abs w32 z (small z is))

pub returns-then-not-has_message_count-clause-count : goal.returns-then-not-has_message_count-clause-count
returns-then-not-has_message_count-clause-count c =
    counts_one c.args.metadata.now.num_messages_in_batch (sym c.has_message_count.ensures ∙ c.if-not-has_message_count.true)

pub returns-clause-count : goal.returns-clause-count
returns-clause-count c =
    let z = c.args.metadata.now.num_messages_in_batch in
    let is : is_message_count z ≡ true = sym c.has_message_count.ensures ∙ c.if-not-has_message_count.false in
    c.unsigned_abs.ensures.value ∙ ap unsigned_abs (back z is) ∙ counts_so z is

pub returns-clause-some : goal.returns-clause-some
returns-clause-some c =
    let z = c.args.metadata.now.num_messages_in_batch in
    let is : is_message_count z ≡ true = sym c.has_message_count.ensures ∙ c.if-not-has_message_count.false in
    subst (λ (n : ℕ). 0 < n) (sym (c.unsigned_abs.ensures.value ∙ ap unsigned_abs (back z is) ∙ counts_so z is)) (count_in z).0

pub returns-clause-few : goal.returns-clause-few
returns-clause-few c =
    let z = c.args.metadata.now.num_messages_in_batch in
    let is : is_message_count z ≡ true = sym c.has_message_count.ensures ∙ c.if-not-has_message_count.false in
    subst (λ (n : ℕ). n ≤ 1048576) (sym (c.unsigned_abs.ensures.value ∙ ap unsigned_abs (back z is) ∙ counts_so z is)) (count_in z).1

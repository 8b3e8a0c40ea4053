use Rattle.std.proofs.Common.{◌≡◌, Ok, ℕ, take, drop, sym, ◌∙◌, subst, arith}
use Rattle.commands.specs.Metadata.{entry_of}
use Rattle.managed_ledger.specs.Bodies.{HasMeta, BeginsWith}
use Rattle.managed_ledger.proofs.FirstEntry.{too_few, too_large, past_end, no_meta, no_count, begins_with, meta_there, meta_not_there}
use Rattle.managed_ledger.proofs.body.first_entry.Goals as goal

pub returns-then-bytes-lt4 : goal.returns-then-bytes-lt4
returns-then-bytes-lt4 c = record { first = λ entry rest entry_is is. too_few c.args.bytes.now entry rest (omega arith) entry_is is }

pub returns-then-size-gt-LONGEST_ENTRY :
    goal.returns-then-size-gt-LONGEST_ENTRY
returns-then-size-gt-LONGEST_ENTRY c = record { first = λ entry rest entry_is is. too_large c.args.bytes.now entry rest (omega arith) entry_is is }

pub returns-then-bytes-size : goal.returns-then-bytes-size
returns-then-bytes-size c = record { first = λ entry rest entry_is is. past_end c.args.bytes.now entry rest (omega arith) entry_is is }

pub returns-in_default : goal.returns-in_default
returns-in_default c = record { first = λ entry rest entry_is is. no_meta c.args.bytes.now entry rest (subst (λ (n : ℕ). ¬ HasMeta (take n (drop 4 c.args.bytes.now))) c.from_le_bytes-size.ensures (meta_not_there c.from_le_bytes-size.result c.args.bytes.now c.in_ok-metadata.field-0 c.in_default.is c.in_ok-metadata.ensures.readable)) entry_is is }

pub returns-then-not-has_message_count :
    goal.returns-then-not-has_message_count
returns-then-not-has_message_count c =
    let bytes = c.args.bytes.now in
    let meta = meta_there c.from_le_bytes-size.result bytes c.in_ok-metadata.field-0 c.in-Some.metadata c.in-Some.is c.in_ok-metadata.ensures.readable in
    record {
      first = λ entry rest entry_is is.
          no_count bytes entry rest c.in-Some.metadata (subst (λ (n : ℕ). entry_of (take n (drop 4 bytes)) ≡ Ok c.in-Some.metadata) c.from_le_bytes-size.ensures meta)
          (sym c.has_message_count.ensures ∙ c.if-not-has_message_count.true) entry_is is;
    }

pub returns : goal.returns
returns c =
    let bytes = c.args.bytes.now in
    let meta = meta_there c.from_le_bytes-size.result bytes c.in_ok-metadata.field-0 c.in-Some.metadata c.in-Some.is c.in_ok-metadata.ensures.readable in
    record {
      first = (
        subst (λ (n : ℕ). BeginsWith n bytes) (sym c.from_le_bytes-size.ensures)
            (begins_with bytes (λ i. omega (arith, c.type_inv.bytes i)) (omega arith) (omega arith) (subst (λ (n : ℕ). HasMeta (take n (drop 4 bytes))) c.from_le_bytes-size.ensures (c.in-Some.metadata, meta)) (sym c.has_message_count.ensures ∙ c.if-not-has_message_count.false)),
        meta,
      );
    }

use Rattle.std.proofs.Common.{◌≡◌, sym, subst, arith}
use Rattle.std.specs.Option.{option_map}
use Rattle.managed_ledger.specs.Entries.{entry_at}
use Rattle.topic_stores.proofs.ReadEntry.{not_missing, not_long}
use Rattle.topic_stores.proofs.reading.read_entry.Goals as goal

pub returns-in_default-clause-refused : goal.returns-in_default-clause-refused
returns-in_default-clause-refused g c = λ ledger honest holds there_still within.
    let seen = (g.S.Shelf.disk c.args.shelf.now).seen in
    let read = subst (λ o. option_map (λ entry. entry.items) o ≡ entry_at ledger c.args.position) c.in_default.is (c.in_ok-found.ensures.entry ledger honest holds) in
    absurd (not_missing ledger c.args.position there_still within read)

pub returns-then-len-gt-LONGEST_ENTRY-clause-refused : goal.returns-then-len-gt-LONGEST_ENTRY-clause-refused
returns-then-len-gt-LONGEST_ENTRY-clause-refused g c = λ ledger honest holds there_still within.
    let seen = (g.S.Shelf.disk c.args.shelf.now).seen in
    let entry = c.in-Some.entry in
    let read = subst (λ o. option_map (λ entry. entry.items) o ≡ entry_at ledger c.args.position) c.in-Some.is (c.in_ok-found.ensures.entry ledger honest holds) in
    let stands = g.met.E.EntryStore.holds_stands c.args.store.now seen ledger holds in
    let short = not_long ledger c.args.position entry.items (g.met.E.EntryStore.stands_entries (g.E.EntryStore.topic_of c.args.store.now) (g.E.EntryStore.start_of c.args.store.now) seen ledger stands) (sym read) in
    absurd (omega (arith, short, c.if-len-gt-LONGEST_ENTRY.true, c.len.ensures, entry.ok.0))

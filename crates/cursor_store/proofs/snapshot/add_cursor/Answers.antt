use Rattle.std.proofs.Common.{subst, arith}
use Rattle.std.specs.FinMap as map
use Rattle.cursor.specs.Positions.{Positions}
use Rattle.records.specs.Maps.{Kept}
use Rattle.records.specs.Snapshots.{front, front_all, made_formed, made_after, range_formed, range_after}
use Rattle.cursor_store.specs.Items.{told_of}
use Rattle.cursor_store.specs.Snapshots.{HasWritten}
use Rattle.cursor_store.proofs.Snapshots.{made_item, range_item}
use Rattle.cursor_store.proofs.snapshot.add_cursor.Goals as goal

pub loop-first-init : goal.loop-first-init
loop-first-init c = λ entries start sofar h new low has.
    let name = c.args.name.now in
    let s = c.args.cursor.now in
    let mark = c.mark_delete-next.result in
    subst (λ (k : Kept). HasWritten entries c.in_ok-writer.writer (told_of start k)) (made_after sofar name s mark c.mark_delete-next.ensures)
    (c.in_ok-writer.ensures.written entries (told_of start sofar) h (made_item entries (told_of start sofar) name mark s c.mark_delete-next.ensures has (made_formed entries sofar name s mark c.requires new c.mark_delete-next.ensures low)))

pub loop-first-preserved : goal.loop-first-preserved
loop-first-preserved c = λ entries start sofar h new low has.
    let name = c.args.name.now in
    let s = c.args.cursor.now in
    let next = c.loop-first.next in
    let run = rw c.in-Some.is at c.next_run.ensures in
    let inserted = map.insert sofar name (front s next) in
    subst (λ (k : Kept). HasWritten entries c.in_ok-more.more (told_of start k)) (range_after sofar name s next c.in-Some.first c.in-Some.last run)
    (c.in_ok-more.ensures.written entries (told_of start inserted) (c.loop-first.invariant entries start sofar h new low has)
    (range_item entries (told_of start inserted) name c.in-Some.first c.in-Some.last (range_formed entries sofar name s (front s next) next c.in-Some.first c.in-Some.last c.requires run low)))

pub overflow_add-next : goal.overflow_add-next
overflow_add-next c =
    let run = rw c.in-Some.is at c.next_run.ensures in
    omega (arith, run.fits)

pub loop-first-smaller : goal.loop-first-smaller
loop-first-smaller c =
    let run = rw c.in-Some.is at c.next_run.ensures in
    omega (arith, run.from_here, run.rises, run.fits)

pub returns-clause-written : goal.returns-clause-written
returns-clause-written c = λ entries start sofar h new low has.
    let none = rw c.in_default.is at c.next_run.ensures in
    subst (λ (t : Positions). HasWritten entries c.loop-first.writer (told_of start (map.insert sofar c.args.name.now t))) (front_all c.args.cursor.now c.loop-first.next none) (c.loop-first.invariant entries start sofar h new low has)

use Rattle.std.proofs.Common.{◌∙◌, List, ap, subst, String, Global}
use Rattle.std.specs.String.{string_bytes}
use Rattle.cursor.specs.Positions.{Positions}
use Rattle.records.specs.Maps.{by_bytes}
use Rattle.records.specs.Names.{is_subscription_name}
use Rattle.cursor_store.specs.Items.{told_of}
use Rattle.cursor_store.proofs.Snapshots.{Came, came_none, came_one, came_all, came_named}
use Rattle.cursor_store.proofs.snapshot.snapshot_of.Goals as goal

pub loop-name-init : goal.loop-name-init
loop-name-init c =
    came_none c.args.kept.now c.in_ok-writer.writer _
    (ap (λ (es : List (String Global × Positions)). by_bytes es) c.into_iter-name-iterator.ensures.into_iter_gives ∙ c.iter-name-items.ensures.rest)
    c.in_ok-writer.ensures

pub loop-name-preserved : goal.loop-name-preserved
loop-name-preserved c =
    came_one c.args.kept.now c.loop-name.writer c.in_ok-more.more (string_bytes c.in-Some.name.now) c.as_str.result.now c.in-Some.shared.now c.as_cursor.result.now (by_bytes c.next.new.self)
    c.as_str.ensures.value c.as_cursor.ensures c.iter-name-items.ensures.sound
    (subst (λ (es : List (String Global × Positions)). Came c.args.kept.now c.loop-name.writer (by_bytes es)) c.in-Some.ensures.steps c.loop-name.invariant)
    c.in_ok-more.ensures.written

pub add_cursor-requires : goal.add_cursor-requires
add_cursor-requires c =
    ap is_subscription_name c.as_str.ensures.value
    ∙ came_named c.args.kept.now c.loop-name.writer (string_bytes c.in-Some.name.now, c.in-Some.shared.now) (by_bytes c.next.new.self) c.iter-name-items.ensures.sound
    (subst (λ (es : List (String Global × Positions)). Came c.args.kept.now c.loop-name.writer (by_bytes es)) c.in-Some.ensures.steps c.loop-name.invariant)

pub returns-clause-made : goal.returns-clause-made
returns-clause-made c = λ entries start fits.
    c.finish.ensures.written entries (told_of start c.args.kept.now)
    (came_all c.args.kept.now c.loop-name.writer (subst (λ (es : List (String Global × Positions)). Came c.args.kept.now c.loop-name.writer (by_bytes es)) c.in-None.ensures.steps.0 c.loop-name.invariant) entries start fits)

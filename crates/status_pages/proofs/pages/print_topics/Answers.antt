use Rattle.status_pages.specs.Told.{IsPicture}
use Rattle.status_pages.specs.Pages.{asks_for_subscriptions}
use Rattle.status_pages.proofs.ToldLemmas.{printed_more}
use Rattle.status_pages.proofs.pages.print_topics.Goals as goal

pub loop-number-preserved : goal.loop-number-preserved
loop-number-preserved g c =
    let topic_told = g.B.Board.topic_told c.args.board.now in
    let subscription_told = g.B.Board.subscription_told c.args.board.now in
    let told : IsPicture topic_told subscription_told (asks_for_subscriptions c.args.part) c.loop-number.number c.in-Some.picture =
    rw (c.in-Some.is, c.asks_for_subscriptions.ensures) at c.in_ok-picture.ensures in
    printed_more topic_told subscription_told c.args.part c.loop-number.number _ _ _ c.in-Some.picture c.loop-number.invariant told c.in_ok-print_picture.ensures

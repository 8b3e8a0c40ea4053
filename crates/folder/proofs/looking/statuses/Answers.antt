use Rattle.std.proofs.Common.{rules, ◌≡◌, ℕ, length, Option, Some, None, subst}
use Rattle.node.specs.declared.status.TopicStatus.{TopicStatus}
use Rattle.node.specs.State.{place_in}
use Rattle.node.specs.Standing.{state_of}
use Rattle.node.specs.Driving.{StatusIn, SegmentsAt}
use Rattle.folder.proofs.Counted.{segments_laid}
use Rattle.folder.proofs.Told.{each_more, told_more, told_all}
use Rattle.folder.proofs.looking.statuses.Goals as goal

pub loop-statuses-preserved : goal.loop-statuses-preserved
loop-statuses-preserved g c = λ stands.
    let node = c.args.node.now in
    let state = state_of g.S.Shelf.disk node in
    let held = node.topics.held.items in
    let files = (g.S.Shelf.disk node.topics.shelf).seen in
    let statuses = c.loop-statuses.statuses.items in
    let known = c.loop-statuses.invariant stands in
    let len : c.len.result ≡ length statuses = search rules in
    let at : StatusIn (place_in state.broker.topics c.len.result) state (Some c.in-Some.status) = subst (λ (o : Option TopicStatus). StatusIn (place_in state.broker.topics c.len.result) state o) c.in-Some.is (c.in_ok-status.ensures.status stands) in
    let told : StatusIn (place_in state.broker.topics (length statuses)) state (Some c.in-Some.status) = subst (λ (n : ℕ). StatusIn (place_in state.broker.topics n) state (Some c.in-Some.status)) len at in
    let files_at : SegmentsAt segments_laid c.len.result held files (Some c.in-Some.status) = subst (λ (o : Option TopicStatus). SegmentsAt segments_laid c.len.result held files o) c.in-Some.is (c.in_ok-status.ensures.files stands) in
    let counted : SegmentsAt segments_laid (length statuses) held files (Some c.in-Some.status) = subst (λ (n : ℕ). SegmentsAt segments_laid n held files (Some c.in-Some.status)) len files_at in
    let each = each_more (λ number status. SegmentsAt segments_laid number held files (Some status)) statuses c.in-Some.status known.1 counted in
    rw c.in_ok-push.ensures.items (told_more state statuses c.in-Some.status told known.0, each)

pub returns-clause-told : goal.returns-clause-told
returns-clause-told g c = λ stands.
    let state = state_of g.S.Shelf.disk c.args.node.now in
    let statuses = c.loop-statuses.statuses.items in
    let len : c.len.result ≡ length statuses = search rules in
    let at : StatusIn (place_in state.broker.topics c.len.result) state None = subst (λ (o : Option TopicStatus). StatusIn (place_in state.broker.topics c.len.result) state o) c.in_default.is (c.in_ok-status.ensures.status stands) in
    let told : StatusIn (place_in state.broker.topics (length statuses)) state None = subst (λ (n : ℕ). StatusIn (place_in state.broker.topics n) state None) len at in
    told_all state statuses told (c.loop-statuses.invariant stands).0

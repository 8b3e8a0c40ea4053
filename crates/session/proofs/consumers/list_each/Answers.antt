use Rattle.std.proofs.Common.{◌≡◌, ◌∙◌, ◌<◌, add-one, get_or, length, ap, subst, arith, rules}
use Rattle.std.specs.Prelude.{vec_capacity}
use Rattle.session.proofs.Listed.{AreListed, listed-more, listed-all, listed-length}
use Rattle.session.proofs.Places.{set_same}
use Rattle.session.proofs.consumers.list_each.Goals as goal

pub loop-place-preserved : goal.loop-place-preserved
loop-place-preserved c =
    let i = c.loop-place.invariant in
    let xs = c.args.consumers.now.items in
    let x = c.index_mut-consumer.result.now in
    let read = subst (λ ys. x ≡ get_or ys c.loop-place.place x) i.same c.index_mut-consumer.ensures.value in
    record {
      same = set_same c.loop-place.consumers.items c.loop-place.place x c.list-one.new.self c.index_mut-consumer.ensures.value c.list-one.ensures.same ∙ i.same;
      listed = rw add-one (search (rules, listed-more));
      room = search rules;
    }

pub returns-clause-listed : goal.returns-clause-listed
returns-clause-listed c =
    let xs = c.args.consumers.now.items in
    let all : c.loop-place.place ≡ length xs = omega (arith, c.loop-place-test.false, c.loop-place.auto.place-end, c.len-place-end.ensures) in
    listed-all xs _ (subst (λ n. AreListed xs n c.loop-place.listed.items) all c.loop-place.invariant.listed)

pub unwrap-requires : goal.unwrap-requires
unwrap-requires c =
    let i = c.loop-place.invariant in
    let xs = c.args.consumers.now.items in
    let many = listed-length xs _ _ i.listed in
    let room : length c.loop-place.listed.items < vec_capacity c.loop-place.listed = omega (arith, many, i.room, c.loop-place-test.true, c.len-place-end.ensures, ap length i.same) in
    search (rules, room)

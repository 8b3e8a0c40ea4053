use Rattle.cursor_store.proofs.Passing.{begun_some, head_there, head_folder}
use Rattle.cursor_store.proofs.Taking.{ok_on}
use Rattle.cursor_store.proofs.begin.front_of_counting.Goals as goal

pub returns-in-Some-clause-begins : goal.returns-in-Some-clause-begins
returns-in-Some-clause-begins g c = λ one honest zero other.
    let slots = c.args.slots.now in
    let image = (g.S.Shelf.disk c.args.shelf.now).seen in
    let head = c.head.result.now in
    let there = head_there slots image c.in-Some.slot head c.head.ensures.head zero other in
    ok_on c.front_start.result _ _ (c.front_start.ensures.begins (head_folder slots.topic c.in-Some.slot head.file one c.head.ensures.file) honest there)
    (λ start begins. begun_some slots image c.in-Some.slot head c.counting.result start one c.in-Some.is c.counting.ensures c.head.ensures.file begins zero other)

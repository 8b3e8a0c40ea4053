use Rattle.std.proofs.Common.{◌≡◌, ◌≤◌, ◌++◌, ◌∙◌, [], sym, ap, eqb-true, length, take, arith, length-append}
use Rattle.std.proofs.lemmas.List.{length-take-le, take_all, nil_from_length}
use Rattle.std.proofs.lemmas.Result.{err_from_is_err_and}
use Rattle.frames.specs.Reading.{needed}
use Rattle.frames.proofs.Sizes.{ends-within}
use Rattle.frames.proofs.parser.gather.Goals as goal

pub is_whole-requires : goal.is_whole-requires
is_whole-requires c =
    let begun = c.make_room.new.unfinished.items in
    let part = take c.min-taken.result c.args.piece.now in
    let value : c.as_slice-2.result.now ≡ begun ++ part = c.as_slice-2.ensures.value ∙ c.in_ok-extend_from_slice.ensures.items in
    let within : c.min-taken.result ≤ length c.args.piece.now = omega arith in
    let long : length part ≡ c.min-taken.result = length-take-le c.min-taken.result c.args.piece.now within in
    let all = c.needed.ensures.value ∙ ap needed c.as_slice.ensures.value in
    let total = length-append begun part in
    let bound : length (begun ++ part) ≤ needed begun = omega arith in
    rw value (ends-within begun part bound)

pub returns-in_err-size : goal.returns-in_err-size
returns-in_err-size c =
    let p = err_from_is_err_and c.from_residual.result c.from_residual.ensures.1 in
    let none = eqb-true _ _ (sym c.is_empty.ensures ∙ c.if-is_empty.true) in
    let empty : c.args.unfinished.now.items ≡ [] = nil_from_length _ (omega (arith, none)) in
    let all : take (length c.args.piece.now) c.args.piece.now ≡ c.args.piece.now = take_all (length c.args.piece.now) c.args.piece.now (omega arith) in
    rw (p.1, p.2, empty) (length c.args.piece.now, rw all c.in_err-size.ensures.1)

use Rattle.std.proofs.Common.{◌≡◌, ◌+◌, ◌++◌, ◌∷◌, [], true, sym, ◌∙◌, ap, arith}
use Rattle.std.specs.Prelude.{vec_len, is_ok}
use Rattle.script.specs.Reading.{lines_from, pieces_of}
use Rattle.script.proofs.Scripts.{turn_bad, turn_more, turn_end, now_of, taken}
use Rattle.script.proofs.script.read_lines.Goals as goal

pub returns-in-Err-Bad : goal.returns-in-Err-Bad
returns-in-Err-Bad c =
    rw c.len.ensures (turn_bad c.loop-left.lines.items (vec_len c.loop-left.lines + 2) c.loop-left.left c.first_piece.result.1 c.in-Some.bytes
    c.first_piece.result.0.now (lines_from 2 (pieces_of (now_of c.args.bytes))) c.loop-left.invariant c.in-Some.is c.first_piece.ensures.pieces
    (rw c.in-Err-Bad.field-0-is at c.in-Err-Bad.ensures))

pub loop-left-preserved : goal.loop-left-preserved
loop-left-preserved c =
    let more = turn_more c.loop-left.lines.items (vec_len c.loop-left.lines + 2) c.loop-left.left c.first_piece.result.1 c.in-Some.bytes
    c.first_piece.result.0.now (lines_from 2 (pieces_of (now_of c.args.bytes))) c.loop-left.invariant c.in-Some.is c.first_piece.ensures.pieces c.in-Ok.line c.in-Ok.ensures in
    let pushed : is_ok c.push.result ≡ true = sym c.map_err.ensures.variant ∙ ap is_ok c.in_ok-map_err.was in
    let items = taken (is_ok c.push.result) c.push.new.self.items (c.loop-left.lines.items ++ c.in-Ok.line ∷ []) c.loop-left.lines.items pushed c.push.ensures.items in
    let number : vec_len c.push.new.self + 2 ≡ vec_len c.loop-left.lines + 2 + 1 =
    omega (arith, taken (is_ok c.push.result) (vec_len c.push.new.self) (vec_len c.loop-left.lines + 1) (vec_len c.loop-left.lines) pushed c.push.ensures.len) in
    rw (items, number) more

pub returns : goal.returns
returns c =
    rw c.new.ensures (turn_end c.loop-left.lines.items (vec_len c.loop-left.lines + 2) c.loop-left.left (lines_from 2 (pieces_of (now_of c.args.bytes)))
    c.loop-left.invariant c.in_default.not-Some)

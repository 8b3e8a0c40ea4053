use Rattle.std.proofs.Common.{◌++◌, inr, refl, take, Some}
use Rattle.std.proofs.lemmas.Result.{err_from_is_err_and}
use Rattle.frames.specs.Taking.{Becomes}
use Rattle.frames.proofs.Contents.{frame-is, frame-refused}
use Rattle.frames.proofs.parser.take_bytes.Goals as goal

pub returns-in_err-frame : goal.returns-in_err-frame
returns-in_err-frame c =
    let p = err_from_is_err_and c.from_residual-in_err-frame.result c.from_residual-in_err-frame.ensures.1 in
    let whole : Becomes (c.args.unfinished.now.items ++ take c.in_ok-taken.taken c.args.piece.now) (Some c.in-Some.bytes) c.gather.new.unfinished.items =
    rw c.in-Some.is at c.in_ok-taken.ensures.2 in
    let read = rw whole.1 at c.in_err-frame.ensures in
    rw (p.1, p.2) (refl, c.in_ok-taken.taken, frame-refused _ _ whole.2 read)

pub returns : goal.returns
returns c =
    let gathered = c.in_ok-taken.ensures in
    let whole : Becomes (c.args.unfinished.now.items ++ take c.in_ok-taken.taken c.args.piece.now) (Some c.in-Some.bytes) c.gather.new.unfinished.items =
    rw c.in-Some.is at gathered.2 in
    let read = rw whole.1 at c.in_ok-frame.ensures in (
      gathered.0,
      gathered.1,
      inr (record {
        frame = c.in_ok-frame.frame;
        is = frame-is _ _ whole.2 read;
        adds = c.in_ok-push.ensures.items;
        keeps_none = whole.0;
      }),
    )

use Rattle.std.proofs.Common.{◌≡◌, ◌≤◌, ◌+◌, length, drop, arith, rules}
use Rattle.commands.specs.Metadata.{size_at}
use Rattle.frames.specs.Frames.{largest_size}
use Rattle.frames.proofs.Sizes.{whole-front}
use Rattle.frames.proofs.reading.whole_front.Goals as goal

pub returns : goal.returns
returns c =
    let stream = c.args.stream.now in
    let first : c.size_at-told.result ≡ size_at stream = c.size_at-told.ensures.value in
    let second : c.size_at.result ≡ size_at (drop 4 stream) = search rules in
    let small : size_at stream ≤ largest_size = omega (arith, first, c.if-told-gt-LARGEST_SIZE.false) in
    let agree : 4 + size_at (drop 4 stream) ≤ size_at stream = omega (arith, first, second, c.if-told-size_at.false) in
    let within : 4 + size_at stream ≤ length stream = omega (arith, first, c.if-stream-told.false, c.if-stream-lt8.false) in
    (omega (arith, first, within), rw first (whole-front stream small agree within))

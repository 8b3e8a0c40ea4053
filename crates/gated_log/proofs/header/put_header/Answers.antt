use Rattle.std.proofs.Common.{◌≤◌, length, drop, ap, arith, length-take, length-drop}
use Rattle.gated_log.specs.Labels.{header_size}
use Rattle.gated_log.proofs.Heads.{put_one}
use Rattle.gated_log.proofs.header.put_header.Goals as goal

pub copy_from_slice-requires : goal.copy_from_slice-requires
copy_from_slice-requires c =
    let bytes = c.args.bytes.now in
    let closed = c.closed_one.result in
    let room : 15 ≤ length bytes = omega (arith, c.requires.room, ap header_size c.in-One.is) in
    omega (arith, room, length-take 15 bytes, length-take 15 (drop 1 closed), length-drop 1 closed, ap length c.closed_one.ensures)

pub slice_bounds-copy_from_slice-end-in-Two-2 : goal.slice_bounds-copy_from_slice-end-in-Two-2
slice_bounds-copy_from_slice-end-in-Two-2 c = omega (arith, c.requires.room, ap header_size c.in-Two.is, length-take 31 c.args.bytes.now)

pub copy_from_slice-requires-in-Two : goal.copy_from_slice-requires-in-Two
copy_from_slice-requires-in-Two c =
    let bytes = c.args.bytes.now in
    let closed = c.closed_two.result in
    let room : 31 ≤ length bytes = omega (arith, c.requires.room, ap header_size c.in-Two.is) in
    omega (arith, room, length-take 31 bytes, length-take 31 (drop 1 closed), length-drop 1 closed, ap length c.closed_two.ensures)

pub returns-in-One : goal.returns-in-One
returns-in-One c = put_one c.args.folder c.args.label c.copy_from_slice.new.self c.closed_one.result c.args.bytes.now c.in-One.is c.closed_one.ensures c.copy_from_slice.ensures.after

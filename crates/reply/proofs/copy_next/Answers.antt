-- `copy_next`: each way out under the tests before it.
use mathlib.Core.Path.{sym, ◌∙◌}
use Prim.Native.Nat.{◌+◌, ◌-◌}
use lib.ListN.{drop, length-take, length-drop}
use Rattle.header.specs.Format.{standard_size}
use native.Mathlib.Omega.{arith}
use Rattle.reply.proofs.Copying.{no_room, asks_place, not_read, no_place, none_left, copies}
use Rattle.reply.proofs.Places.{found_inside}
use Rattle.reply.proofs.copy_next.Goals as goal

pub returns-then-block-lt-STANDARD_SIZE : goal.returns-then-block-lt-STANDARD_SIZE
returns-then-block-lt-STANDARD_SIZE c =
    let t = no_room c.args.s.now c.args.place c.args.block.now c.if-block-lt-STANDARD_SIZE.true in
    record { answer = t.told; left = t.stands }

pub returns-then-is_err : goal.returns-then-is_err
returns-then-is_err c =
    let t = not_read c.args.s.now c.args.place c.args.block.now c.if-block-lt-STANDARD_SIZE.false c.check.result c.check.ensures (sym c.if-is_err.ensures.value) in
    record { answer = t.told; left = t.stands }

pub is_place-requires : goal.is_place-requires
is_place-requires c = asks_place c.args.s.now c.check.result c.check.ensures (sym c.if-is_err.ensures.value)

pub returns-then-not-is_place : goal.returns-then-not-is_place
returns-then-not-is_place c =
    let t = no_place c.args.s.now c.args.place c.args.block.now c.if-block-lt-STANDARD_SIZE.false c.check.result c.check.ensures (sym c.if-is_err.ensures.value) _
    c.is_place.ensures c.if-not-is_place.true in
    record { answer = t.told; left = t.stands }

pub returns-in_err-at : goal.returns-in_err-at
returns-in_err-at c =
    let t = none_left c.args.s.now c.args.place c.args.block.now c.if-block-lt-STANDARD_SIZE.false c.check.result c.check.ensures (sym c.if-is_err.ensures.value) _
    c.is_place.ensures c.if-not-is_place.false c.in_err-at.ensures in
    record { answer = c.from_residual.ensures ∙ t.told; left = t.stands }

pub overflow_add-behind : goal.overflow_add-behind
overflow_add-behind c = record { fits = omega (arith, found_inside c.args.s.now _ _ c.in_ok-at.ensures) }

pub slice_bounds-copy_from_slice-end-3 : goal.slice_bounds-copy_from_slice-end-3
slice_bounds-copy_from_slice-end-3 c = found_inside c.args.s.now _ _ c.in_ok-at.ensures

pub copy_from_slice-requires : goal.copy_from_slice-requires
copy_from_slice-requires c =
    let inside = found_inside c.args.s.now _ _ c.in_ok-at.ensures in
    omega (
      arith,
      inside,
      length-take standard_size c.args.block.now,
      length-take (c.in_ok-at.at + standard_size - c.in_ok-at.at) (drop c.in_ok-at.at c.args.s.now),
      length-drop c.in_ok-at.at c.args.s.now,
    )

pub returns : goal.returns
returns c =
    let t = copies c.args.s.now c.args.place c.args.block.now c.if-block-lt-STANDARD_SIZE.false c.check.result c.check.ensures (sym c.if-is_err.ensures.value) _
    c.is_place.ensures c.if-not-is_place.false _ c.in_ok-at.ensures _ c.copy_from_slice.ensures.after in
    record { answer = t.told; left = t.stands }

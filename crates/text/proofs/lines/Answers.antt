-- `lines`: what is written so far are the lines of the type 4 blocks that were passed.
use native.Mathlib.Omega.{arith}
use Rattle.message.proofs.Laws.{block_inside, block_moves}
use Rattle.text.proofs.Passed.{line_fits, passed_standard, passed_other}
use Rattle.format.specs.Sizes.{ipv4_sound}
use Rattle.text.proofs.lines.Goals as goal

pub overflow_add-end : goal.overflow_add-end
overflow_add-end c = omega (arith, block_inside ipv4_sound _ _ c.in-Some.block c.in-Some.ensures c.loop-block.invariant.inside)

pub slice_bounds-line-end : goal.slice_bounds-line-end
slice_bounds-line-end c = block_inside ipv4_sound _ _ c.in-Some.block c.in-Some.ensures c.loop-block.invariant.inside

pub line-requires : goal.line-requires
line-requires c =
    line_fits _ _ _ _ _ c.loop-block.invariant c.requires.0 c.in-Some.block c.in-Some.ensures _ c.eq.ensures c.requires.1 c.if-eq.true

pub loop-block-smaller-then-eq : goal.loop-block-smaller-then-eq
loop-block-smaller-then-eq c = block_moves ipv4_sound _ _ c.in-Some.block c.in-Some.ensures c.loop-block.invariant.inside

pub loop-block-preserved-then-eq : goal.loop-block-preserved-then-eq
loop-block-preserved-then-eq c =
    passed_standard _ _ _ _ _ c.loop-block.invariant c.requires.0 c.in-Some.block c.in-Some.ensures _ c.eq.ensures _ c.if-eq.true
    c.line.ensures.text c.line.ensures.few

pub loop-block-smaller : goal.loop-block-smaller
loop-block-smaller c = block_moves ipv4_sound _ _ c.in-Some.block c.in-Some.ensures c.loop-block.invariant.inside

pub loop-block-preserved : goal.loop-block-preserved
loop-block-preserved c =
    passed_other _ _ _ _ _ c.loop-block.invariant c.requires.0 c.in-Some.block c.in-Some.ensures _ c.eq.ensures c.if-eq.false

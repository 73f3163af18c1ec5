-- `same_path`: the next block of each is taken, as far as both have one.
use mathlib.Core.Path.{refl, ap, ◌∙◌}
use native.Mathlib.Omega.{arith}
use Rattle.reply.specs.Inside.{left_of}
use Rattle.reply.proofs.Laws.{item_long}
use Rattle.loss.proofs.Along.{along_first, along_parts, along_on, along_short, along_over}
use Rattle.loss.proofs.same_path.Goals as goal

pub loop-block-init : goal.loop-block-init
loop-block-init c =
    let all = ap left_of c.into_iter-block-iterator.ensures.into_iter_gives ∙ c.known_blocks-block-items.ensures.left in
    along_first c.args.first.now c.args.second.now _ _ c.known_blocks-others.ensures.fills all c.known_blocks-others.ensures.left

pub same_router-requires : goal.same_router-requires
same_router-requires c =
    let block = item_long _ _ _ _ c.in-Some.ensures.steps in
    let other = item_long _ _ _ _ c.in-Some-next.ensures.steps in
    (omega (arith, block), omega (arith, other))

pub returns-in_default : goal.returns-in_default
returns-in_default c =
    along_short _ _ _ _ c.loop-block.invariant _ _ c.in-Some.ensures.steps c.in_default.ensures.steps.0

pub returns-then-not-same_router : goal.returns-then-not-same_router
returns-then-not-same_router c =
    along_parts _ _ _ _ c.loop-block.invariant _ _ _ _ c.in-Some.ensures.steps c.in-Some-next.ensures.steps _ c.same_router.ensures c.if-not-same_router.true

pub loop-block-preserved : goal.loop-block-preserved
loop-block-preserved c =
    along_on _ _ _ _ c.loop-block.invariant _ _ _ _ c.in-Some.ensures.steps c.in-Some-next.ensures.steps _ c.same_router.ensures
    _ _ refl refl c.in-Some-next.ensures.goes.keeps c.if-not-same_router.false

pub returns : goal.returns
returns c =
    along_over _ _ _ _ c.loop-block.invariant _ _ c.next-2.new.self c.in-None.ensures.steps.0 c.next-2.ensures.steps c.is_none.ensures

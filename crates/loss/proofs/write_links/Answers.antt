-- `write_links`: the next block of each message is taken, as far as both have one.
use mathlib.Core.Path.{ap, ◌∙◌}
use native.Mathlib.Omega.{arith}
use Rattle.reply.specs.Inside.{left_of}
use Rattle.reply.proofs.Laws.{item_long}
use Rattle.loss.proofs.Linking.{either_over, none_first, between_first, between_on, between_over}
use Rattle.loss.proofs.write_links.Goals as goal

pub returns-in_default : goal.returns-in_default
returns-in_default c =
    let one = ap left_of c.zip-blocks.ensures.first ∙ c.known_blocks.ensures.left in
    let other = ap left_of c.zip-blocks.ensures.second ∙ c.known_blocks-2.ensures.left in
    none_first _ _ _ c.zip-blocks.result one other (either_over c.zip-blocks.result c.in_default.ensures.steps)

pub loop-far-init : goal.loop-far-init
loop-far-init c =
    let one = ap left_of c.zip-blocks.ensures.first ∙ c.known_blocks.ensures.left in
    let other = ap left_of c.zip-blocks.ensures.second ∙ c.known_blocks-2.ensures.left in
    rw c.into_iter-far-iterator.ensures.into_iter_gives
    (between_first _ _ _ c.zip-blocks.result c.next.new.self _ _ (omega (arith, c.requires.0)) c.requires.1 c.requires.3 one other c.in-Some.ensures.steps.0 c.in-Some.ensures.steps.1)

pub count_in-requires : goal.count_in-requires
count_in-requires c =
    let far = item_long _ _ _ _ c.in-Some-2.ensures.steps.0 in
    (omega (arith, c.loop-far.invariant.one), omega (arith, far))

pub count_in-requires-in-loop-far : goal.count_in-requires-in-loop-far
count_in-requires-in-loop-far c =
    let far = item_long _ _ _ _ c.in-Some-2.ensures.steps.1 in
    (omega (arith, c.loop-far.invariant.other), omega (arith, far))

pub loop-far-preserved : goal.loop-far-preserved
loop-far-preserved c =
    between_on _ _ _ _ _ _ _ _ c.loop-far.invariant c.next-in-loop-far.new.self _ _ c.in-Some-2.ensures.steps.0 c.in-Some-2.ensures.steps.1
    c.link_of-l.result _ (cc) c.write_link.ensures

pub returns : goal.returns
returns c = between_over _ _ _ _ _ _ _ _ c.loop-far.invariant (either_over c.loop-far.far-iterator c.in-None.ensures.steps)

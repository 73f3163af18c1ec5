-- `next` of an iterator over type 4 blocks: those left are the block found and those behind it.
use mathlib.Core.Path.{◌≡◌, ap}
use mathlib.Core.List.{List}
use Prim.Native.Nat.{ℕ, ◌+◌, ◌-◌}
use lib.ListN.{length}
use native.Mathlib.Omega.{arith}
use Rattle.header.specs.Format.{standard_size}
use Rattle.reply.proofs.Places.{found_inside}
use Rattle.reply.proofs.Known.{known_none, known_here, known_fills}
use Rattle.reply.proofs.KnownBlocksIterator.next.Goals as goal

pub returns-in_err-at-clause-steps : goal.returns-in_err-at-clause-steps
returns-in_err-at-clause-steps c =
    let none = known_none _ _ c.in_err-at.ensures.found in
    rw c.from_residual.ensures (none, none)

pub overflow_add-end : goal.overflow_add-end
overflow_add-end c = record { fits = omega (arith, found_inside _ _ _ c.in_ok-at.ensures.found) }

pub slice_bounds-result-end : goal.slice_bounds-result-end
slice_bounds-result-end c = found_inside c.args.self.now.reply.now c.args.self.now.place _ c.in_ok-at.ensures.found

pub returns-clause-steps : goal.returns-clause-steps
returns-clause-steps c =
    let size : c.in_ok-at.at + standard_size - c.in_ok-at.at ≡ standard_size = omega arith in
    rw size (known_here c.args.self.now.reply.now c.args.self.now.place _ c.in_ok-at.ensures.found)

pub returns-clause-goes : goal.returns-clause-goes
returns-clause-goes c =
    let here = known_here c.args.self.now.reply.now c.args.self.now.place _ c.in_ok-at.ensures.found in
    let fills = known_fills c.args.self.now.reply.now c.args.self.now.place _ c.in_ok-at.ensures.found c.in_ok-at.ensures.fills in
    record { on = λ _. (fills, tt, omega (arith, ap (λ (l : List (List ℕ)). length l) here)); keeps = fills; rests = λ _. tt }

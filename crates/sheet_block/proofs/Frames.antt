-- A block's frame bounds the entries in use.
use Prim.Native.Nat.{ℕ, ◌≤◌}
use mathlib.Core.Bool.{Bool, false, not}
use mathlib.Core.List.{List}
use mathlib.Core.Path.{◌≡◌, sym, ◌∙◌}
use borrow.Author.Tests.{not-false}
use Rattle.block.specs.Block.{used_in, entries_each, frame_ok}
use Rattle.block.proofs.Laws.{frame_filled}

-- the entries in use of a block whose frame was found to hold
pub used_fits : (size kind number : ℕ) (partly ok : Bool) (b : List ℕ) (used : ℕ) → ok ≡ frame_ok kind size number partly b → not ok ≡ false → used ≡ used_in b
    → used ≤ entries_each size
used_fits size kind number partly ok b used e h u = rw u (frame_filled kind size number partly b (sym e ∙ not-false ok h)).most

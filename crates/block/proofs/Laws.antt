-- What a block that keeps its frame says of its entries in use: some, as many as there is room for, within the block.
use Rattle.std.proofs.Common.{◌≡◌, ℕ, ◌*◌, ◌<◌, ◌≤◌, Bool, true, false, ◌&&◌, ◌||◌, eqb, leb, List, le-div_iff_mul-le, arith, eqb-true, leb-true}
use Rattle.rows.proofs.Laws.{both_of, parts}
use Rattle.block.specs.Block.{used_in, entries_room, entries_each, filled_ok, frame_ok}

-- entries in use fit between the head and the switches
pub entries_fit : (size used : ℕ) → 0 < size → used ≤ entries_each size → size * used ≤ entries_room
entries_fit size used h k = omega (arith, (le-div_iff_mul-le h).0 k)

-- at least one entry is in use, at most as many as there is room for, and all of these where the block may not be partly filled
pub record InUse (each : ℕ) (partly : Bool) (used : ℕ) : Type 0 where
  pub some : 1 ≤ used
  pub most : used ≤ each
  pub full : partly ≡ false → used ≡ each

pub filled : (each : ℕ) (partly : Bool) (used : ℕ) → filled_ok each partly used ≡ true → InUse each partly used
filled each partly used e =
    let p = both_of (leb 1 used && leb used each) (partly || eqb used each) e in
    let q = both_of (leb 1 used) (leb used each) p.0 in
    record { some = leb-true 1 used q.0; most = leb-true used each q.1; full = λ f. eqb-true used each (rw f at p.1) }

pub frame_filled : (kind size number : ℕ) (partly : Bool) (b : List ℕ) → frame_ok kind size number partly b ≡ true
    → InUse (entries_each size) partly (used_in b)
unfolding frame_ok
frame_filled kind size number partly b e = filled (entries_each size) partly (used_in b) (search parts depth 8)

-- Where an entry stands: in a run of blocks of which all but the last are full, entry i is entry i % each of block i / each.
use Prim.Native.Nat.{ℕ, zero, suc, ◌+◌, ◌*◌, ◌-◌, ◌/◌, ◌%◌, ◌≤◌, ◌<◌}
use mathlib.Core.Bool.{Bool, true}
use mathlib.Core.List.{List}
use mathlib.Core.Logic.{⊎_elim}
use mathlib.Core.Path.{◌≡◌, sym, ap, ◌∙◌}
use native.Mathlib.Omega.{arith}
use native.Mathlib.Nat.{zero-add, mul-add, mod-lt, mod-add-mod, mod-eq_of_lt, div-eq_of_lt, div-add-mod', add-mul-div_right, le-div_iff_mul-le, div-lt_iff_lt-mul, eq-or-lt_of_le}
use lib.Dec.{eqb}
use lib.ListN.{length}
use borrow.Author.Tests.{ne_eqb}
use Rattle.block.specs.Block.{block_size, entries_room, used_in, entries_each, place_in_block}
use Rattle.block.proofs.Laws.{entries_fit, InUse, frame_filled}
use Rattle.sheet.specs.Sheet.{sheet_block, entries_in}
use Rattle.tables.specs.Tables.{place_of}
use Rattle.sheet_block.proofs.Laws.{every_one}
use Rattle.sheet.proofs.Laws.{Run}

-- a block has room for an entry of a size that is not too large
pub some_room : (size : ℕ) → 0 < size → size ≤ entries_room → 0 < entries_each size
some_room size some most = omega (arith, (le-div_iff_mul-le {k = size} {x = 1} {y = entries_room} some).1 (omega arith))

-- entries of one block stand side by side
module _ (size i j : ℕ) (near : j < entries_each size - i % entries_each size) where
  abbrev each : ℕ
  each = entries_each size

  same_block : (i + j) / each ≡ i / each
  same_block =
      let e : i + j ≡ i % each + j + i / each * each = omega (arith, div-add-mod' i each) in
      ap (λ (n : ℕ). n / each) e ∙ add-mul-div_right (i % each + j) (i / each) (omega arith)
      ∙ ap (λ (n : ℕ). n + i / each) (div-eq_of_lt (omega arith)) ∙ zero-add (i / each)

  so_far_on : (i + j) % each ≡ i % each + j
  so_far_on = sym (mod-add-mod i each j) ∙ mod-eq_of_lt (omega arith)

  pub in_row : (first : ℕ) → place_of size first i + size * j ≡ place_of size first (i + j)
  in_row first = rw (same_block, so_far_on) (omega (arith, mul-add size (i % each) j))

-- where there is an entry there is a block
in_blocks : (s : List ℕ) (each first count i : ℕ) → i < entries_in s each first count
    → (1 ≤ count) × (i < each * (count - 1) + used_in (sheet_block s (first + (count - 1))))
unfolding entries_in
in_blocks s each first zero i h = absurd (omega arith)
in_blocks s each first (suc n) i h = (omega arith, rw (ne_eqb (suc n) 0 (λ e. omega arith)) at h)

-- an entry that is there: it keeps its rules, and lies within its block and within the sheet
pub record There (s : List ℕ) (size : ℕ) (right : List ℕ → ℕ → Bool) (first i : ℕ) : Type 0 where
  pub rules : right (sheet_block s (first + i / entries_each size)) (place_in_block size (i % entries_each size)) ≡ true
  pub inside : place_in_block size (i % entries_each size) + size ≤ block_size
  pub bytes : place_of size first i + size ≤ length s

module _ (s : List ℕ) (kind size : ℕ) (right : List ℕ → ℕ → Bool) (first stop : ℕ) (run : Run s kind size right first stop) (count : ℕ) (end : first + count ≡ stop) (i : ℕ)
    (there : i < entries_in s (entries_each size) first count) where
  filled_at : (k : ℕ) → first ≤ k → k < stop → InUse (entries_each size) (eqb (k + 1) stop) (used_in (sheet_block s k))
  filled_at k l h = frame_filled kind size k (eqb (k + 1) stop) (sheet_block s k) (run.frames k l h)

  some_each : 0 < entries_each size
  some_each =
      let p = in_blocks s (entries_each size) first count i there in
      let f = filled_at first (omega arith) (omega arith) in
      omega (arith, f.some, f.most)

  -- its block is one of the run
  its_block : i / entries_each size < count
  its_block =
      let each : ℕ = entries_each size in
      let n : ℕ = count - 1 in
      let p = in_blocks s each first count i there in
      let e : count ≡ n + 1 = omega arith in
      let f = filled_at (first + n) (omega arith) (omega arith) in
      (div-lt_iff_lt-mul some_each).1 (omega (arith, p.1, f.most, ap (λ (x : ℕ). x * each) e))

  -- and it is in use there
  its_entry : i % entries_each size < used_in (sheet_block s (first + i / entries_each size))
  its_entry =
      let each : ℕ = entries_each size in
      let n : ℕ = count - 1 in
      let p = in_blocks s each first count i there in
      let q = its_block in
      let small = mod-lt i some_each in
      ⊎_elim
      (λ (e : i / each ≡ n). rw e (omega (arith, p.1, div-add-mod' i each, ap (λ (x : ℕ). x * each) e)))
      (λ (l : i / each < n). rw ((filled_at (first + i / each) (omega arith) (omega arith)).full (ne_eqb (first + i / each + 1) stop (λ z. omega arith))) small)
      (eq-or-lt_of_le {n = i / each} {m = n} (omega arith))

  pub entry_there : 0 < size → There s size right first i
  entry_there pos =
      let k : ℕ = first + i / entries_each size in
      let j : ℕ = i % entries_each size in
      let before : k < stop = omega (arith, its_block) in
      let f = filled_at k (omega arith) before in
      let most : size * (j + 1) ≤ entries_room = entries_fit size (j + 1) pos (omega (arith, its_entry, f.most)) in
      record {
        rules = every_one (λ n. right (sheet_block s k) (place_in_block size n)) (used_in (sheet_block s k)) j (run.entries k (omega arith) before) its_entry;
        inside = omega arith;
        bytes = omega (arith, run.within);
      }

-- Blocks of a sheet, one by one: how many entries they hold.
use Prim.Native.Nat.{ℕ, ◌+◌, ◌*◌, ◌≤◌, ◌<◌}
use mathlib.Core.List.{List}
use mathlib.Core.Path.{◌≡◌}
use native.Mathlib.Nat.{div-le_self}
use lib.Seq.{get_or-take, get_or-drop}
use Rattle.wire.specs.Numbers.{byte_at}
use Rattle.block.specs.Block.{block_size, entries_room, entries_each}
use Rattle.sheet.specs.Sheet.{sheet_block}

-- a byte of block k is a byte of the sheet
pub byte_in : (s : List ℕ) (k j : ℕ) → j < block_size → byte_at (sheet_block s k) j ≡ byte_at s (block_size * k + j)
byte_in s k j h = rw (get_or-take, get_or-drop)

-- a block has no more entries than bytes for them
pub each_few : (size : ℕ) → entries_each size ≤ entries_room
each_few size = div-le_self entries_room size

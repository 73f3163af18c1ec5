-- A valid sheet: 1 to 16 blocks of 512 bytes, interface blocks first, at least one, then route blocks; only the last block of
-- a kind may be partly filled; at most 64 interfaces.
use Rattle.std.specs.Prelude.{ℕ, zero, suc, ◌+◌, ◌*◌, ◌-◌, ◌/◌, Bool, ◌&&◌, cond, List, leb, ltb, eqb, length, Option, Some, None}
use Rattle.wire.specs.Parts.{part, whole_parts}
use Rattle.block.specs.Block.{block_size, kind_of, used_in, entries_each}
use Rattle.format.specs.declared.Format.{Format}
use Rattle.interface.specs.Interface.{most_interfaces}
use Rattle.sheet_block.specs.Every.{every}
use Rattle.sheet_block.specs.Rules.{interface_kind, route_kind, interface_right, route_right, block_ok}
use Rattle.sheet.specs.declared.Layout.{Layout}

-- the most blocks of a sheet
abbrev pub most_blocks : ℕ
most_blocks = 16

-- a length of 1 to 16 whole blocks
abbrev pub sheet_size_ok : ℕ → Bool
sheet_size_ok = whole_parts block_size most_blocks

-- how many blocks there are
abbrev pub blocks : List ℕ → ℕ
blocks s = length s / block_size

-- block k
abbrev pub sheet_block : List ℕ → ℕ → List ℕ
sheet_block s k = part (block_size * k) block_size s

-- how many of the first n blocks are interface blocks
unfoldable pub interface_blocks_in : List ℕ → ℕ → ℕ
interface_blocks_in s zero = 0
interface_blocks_in s (suc k) = interface_blocks_in s k + cond (eqb (kind_of (sheet_block s k)) interface_kind) 1 0

-- and of all
unfoldable pub interface_blocks : List ℕ → ℕ
interface_blocks s = interface_blocks_in s (blocks s)

-- the entries in `count` blocks from block `first` on, of which all but the last are full with `each`
unfoldable pub entries_in : List ℕ → ℕ → ℕ → ℕ → ℕ
entries_in s each first count = cond (eqb count 0) 0 (each * (count - 1) + used_in (sheet_block s (first + (count - 1))))

-- how many interfaces a sheet that keeps the rules has
unfoldable pub interfaces_in : Format → List ℕ → ℕ
interfaces_in F s = entries_in s (entries_each F.interface) 0 (interface_blocks s)

-- and how many routes
unfoldable pub routes_in : Format → List ℕ → ℕ
routes_in F s = entries_in s (entries_each F.route) (interface_blocks s) (blocks s - interface_blocks s)

-- block k keeps the rules of an interface block, where there are m of them: the last may be partly filled
unfoldable pub interface_block_ok : Format → List ℕ → ℕ → ℕ → Bool
interface_block_ok F s m k = block_ok interface_kind F.interface (interface_right F) k (eqb (k + 1) m) (sheet_block s k)

-- block k keeps the rules of a route block, where there are so many interfaces: the last block may be partly filled
unfoldable pub route_block_ok : Format → List ℕ → ℕ → ℕ → Bool
route_block_ok F s interfaces k = block_ok route_kind F.route (route_right interfaces) k (eqb (k + 1) (blocks s)) (sheet_block s k)

-- block k keeps its rules, where there are m interface blocks, which come first, and so many interfaces
unfoldable pub block_ok_with : Format → List ℕ → ℕ → ℕ → ℕ → Bool
block_ok_with F s m interfaces k = cond (ltb k m) (interface_block_ok F s m k) (route_block_ok F s interfaces k)

-- and where there are as many as the sheet has
abbrev pub block_ok_at : Format → List ℕ → ℕ → Bool
block_ok_at F s = block_ok_with F s (interface_blocks s) (interfaces_in F s)

-- 1 to 16 blocks, at least one of them an interface block, at most 64 interfaces, and every block keeps its rules
unfoldable pub valid_sheet : Format → List ℕ → Bool
valid_sheet F s =
    sheet_size_ok (length s) && leb 1 (interface_blocks s) && leb (interfaces_in F s) most_interfaces && every (block_ok_at F s) (blocks s)

-- the counts of a sheet that breaks a rule: none
abbrev pub no_layout : Layout
no_layout = record { blocks = 0; interfaces = 0; routes = 0 }

-- the counts of one that keeps them all: how many interface blocks, interfaces and routes it has
unfoldable pub counted : Format → List ℕ → Layout
counted F s = record { blocks = interface_blocks s; interfaces = interfaces_in F s; routes = routes_in F s }

-- and of any sheet
unfoldable pub layout_of : Format → List ℕ → Layout
layout_of F s = cond (valid_sheet F s) (counted F s) no_layout

-- what the check answers: the counts of a sheet that keeps all rules, and nothing of any other
unfoldable pub told_of : Format → List ℕ → Option Layout
told_of F s = cond (valid_sheet F s) (Some (counted F s)) None

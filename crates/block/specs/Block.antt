-- A block of 512 bytes. Byte 0 is its kind, byte 1 the entries in use, 2-3 the block number, 4-507 the entries, 508-509 the
-- switches, 510-511 the check.
use Rattle.std.specs.Prelude.{ℕ, ◌+◌, ◌-◌, ◌*◌, ◌/◌, Bool, ◌&&◌, ◌||◌, List, ◌==◌, nat_le}
use Rattle.wire.specs.Numbers.{byte_at, be16}
use Rattle.wire.specs.Parts.{part, all_zero}
use Rattle.block.specs.Sum.{sum_ok}

-- bytes of a block
abbrev pub block_size : ℕ
block_size = 512

-- where its entries begin
abbrev pub entries_at : ℕ
entries_at = 4

-- where its switches stand
abbrev pub switches_at : ℕ
switches_at = 508

-- the bytes between, in which the entries stand
abbrev pub entries_room : ℕ
entries_room = switches_at - entries_at

-- byte 0: its kind
abbrev pub kind_of : List ℕ → ℕ
kind_of b = byte_at b 0

-- byte 1: its entries in use
abbrev pub used_in : List ℕ → ℕ
used_in b = byte_at b 1

-- bytes 2 and 3: its number
abbrev pub block_number : List ℕ → ℕ
block_number b = be16 b 2

-- its switches
abbrev pub switches_of : List ℕ → ℕ
switches_of b = be16 b switches_at

-- how many entries of a size a block has room for: 18 interfaces of 28 bytes, 9 routes of 56
abbrev pub entries_each : ℕ → ℕ
entries_each size = entries_room / size

-- where entry j begins
abbrev pub place_in_block : ℕ → ℕ → ℕ
place_in_block size j = entries_at + size * j

-- the entry bytes past the entries in use
abbrev pub unused_of : ℕ → List ℕ → List ℕ
unused_of size b = part (place_in_block size (used_in b)) (switches_at - place_in_block size (used_in b)) b

-- entries in use, where there is room for `each`: no block is empty, and only some may be partly filled
abbrev pub filled_ok : ℕ → Bool → ℕ → Bool
filled_ok each partly used = nat_le 1 used && nat_le used each && (partly || used == each)

-- what a block of a kind, with entries of a size and with its number, keeps whatever its entries say: kind, entries in use,
-- number, unused entry bytes zero, sum; `partly` where it may be partly filled
unfoldable pub frame_ok : ℕ → ℕ → ℕ → Bool → List ℕ → Bool
frame_ok kind size number partly b =
    (kind_of b == kind) && filled_ok (entries_each size) partly (used_in b) && block_number b == number && all_zero (unused_of size b) && sum_ok b

-- A yard (document 01, "Walk"): 1 to 32 sheets of 1024 bytes, one for each router, and who of them holds an address.
use Rattle.std.specs.Prelude.{ℕ, zero, suc, ◌+◌, ◌*◌, ◌/◌, Bool, ◌&&◌, List, length, Option, Some, None}
use Rattle.wire.specs.Parts.{part, whole_parts}
use Rattle.sheet_block.specs.Every.{every}
use Rattle.sheet.specs.Sheet.{valid_sheet}
use Rattle.tables.specs.Tables.{holder_of}
use Rattle.format.specs.declared.Format.{Format}

-- the bytes of a router's sheet in a yard
abbrev pub sheet_size : ℕ
sheet_size = 1024

-- a yard has at most so many
abbrev pub most_routers : ℕ
most_routers = 32

-- how many routers there are
abbrev pub routers_in : List ℕ → ℕ
routers_in yard = length yard / sheet_size

-- the sheet of router i
unfoldable pub sheet_at : List ℕ → ℕ → List ℕ
sheet_at yard i = part (sheet_size * i) sheet_size yard

-- whether it is valid
abbrev pub valid_at : Format → List ℕ → ℕ → Bool
valid_at F yard i = valid_sheet F (sheet_at yard i)

-- 1 to 32 whole sheets
abbrev pub yard_size_ok : ℕ → Bool
yard_size_ok = whole_parts sheet_size most_routers

-- and each of them valid
unfoldable pub yard_ok : Format → List ℕ → Bool
yard_ok F yard = yard_size_ok (length yard) && every (valid_at F yard) (routers_in yard)

-- router i holds an address at the interface that was found, or else whoever of those after it does
abbrev pub held_by : ℕ → Option ℕ → Option (ℕ × ℕ) → Option (ℕ × ℕ)
held_by i (Some k) later = Some (i, k)
held_by i None later = later

-- the lowest of n routers, from router i on, that holds an address, and its lowest interface
unfoldable pub lowest_from : Format → List ℕ → ℕ → ℕ → ℕ → Option (ℕ × ℕ)
lowest_from F yard address i zero = None
lowest_from F yard address i (suc n) =
    let later = lowest_from F yard address (i + 1) n in
    held_by i (holder_of F (sheet_at yard i) address) later

-- the lowest router and interface holding an address
unfoldable pub holder_in : Format → List ℕ → ℕ → Option (ℕ × ℕ)
holder_in F yard address = lowest_from F yard address 0 (routers_in yard)

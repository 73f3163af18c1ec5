-- The rules on one block of a sheet, of either kind: its frame, its switches, and each entry in use.
use Rattle.std.specs.Prelude.{ℕ, Bool, ◌&&◌, ◌||◌, List, eqb}
use Rattle.block.specs.Block.{used_in, switches_of, place_in_block, frame_ok}
use Rattle.format.specs.declared.Format.{Format}
use Rattle.interface.specs.Interface.{interface_at, interface_ok}
use Rattle.route_entry.specs.Route.{route_at}
use Rattle.route_rules.specs.Rules.{route_ok}
use Rattle.sheet_block.specs.Every.{every}

-- the kind of an interface block
abbrev pub interface_kind : ℕ
interface_kind = 1

-- the kind of a route block
abbrev pub route_kind : ℕ
route_kind = 2

-- the switch value that prohibits tracing
abbrev pub prohibits : ℕ
prohibits = 1

-- it may stand in block 0; all other switch bits are zero
abbrev pub switches_ok : ℕ → ℕ → Bool
switches_ok number switches = eqb switches 0 || (eqb number 0 && eqb switches prohibits)

-- the interface that begins at a place keeps its rules
abbrev pub interface_right : Format → List ℕ → ℕ → Bool
interface_right F b at = interface_ok F (interface_at b at)

-- the route that begins at a place does, among so many interfaces
abbrev pub route_right : ℕ → List ℕ → ℕ → Bool
route_right interfaces b at = route_ok interfaces (route_at b at)

-- the first n entries of a block, each of a size, keep their rules
abbrev pub entries_ok : ℕ → (List ℕ → ℕ → Bool) → List ℕ → ℕ → Bool
entries_ok size right b = every (λ j. right b (place_in_block size j))

-- a block of a kind, with entries of a size that keep their rules, and with its number; `partly` where it may be partly filled
unfoldable pub block_ok : ℕ → ℕ → (List ℕ → ℕ → Bool) → ℕ → Bool → List ℕ → Bool
block_ok kind size right number partly b =
    frame_ok kind size number partly b && switches_ok number (switches_of b) && entries_ok size right b (used_in b)

-- Reading a valid sheet: interfaces and routes by their numbers, the prohibition, and who holds an address.
use Rattle.std.specs.Prelude.{ℕ, ◌+◌, ◌*◌, ◌/◌, ◌%◌, Bool, cond, List, [], ◌∷◌, eqb, Option, Some, None}
use Rattle.block.specs.Block.{block_size, switches_of, entries_each, place_in_block}
use Rattle.format.specs.declared.Format.{Format}
use Rattle.interface.specs.Interface.{interface_at}
use Rattle.route_entry.specs.Route.{route_at}
use Rattle.interface.specs.declared.Interface.{Interface}
use Rattle.route_entry.specs.declared.Route.{Route}
use Rattle.sheet_block.specs.Every.{listed}
use Rattle.sheet_block.specs.Rules.{prohibits}
use Rattle.sheet.specs.Sheet.{sheet_block, interface_blocks, layout_of}

-- where entry i of a kind begins: numbers run on over the blocks of the kind, from block `first` on
abbrev pub place_of : ℕ → ℕ → ℕ → ℕ
place_of size first i = block_size * (first + i / entries_each size) + place_in_block size (i % entries_each size)

-- interface i
unfoldable pub interface_of : Format → List ℕ → ℕ → Interface
interface_of F s i = interface_at s (place_of F.interface 0 i)

-- where route k begins: routes stand behind the interface blocks
abbrev pub route_place : Format → List ℕ → ℕ → ℕ
route_place F s k = place_of F.route (interface_blocks s) k

-- route k
unfoldable pub route_of : Format → List ℕ → ℕ → Route
route_of F s k = route_at s (route_place F s k)

-- all interfaces, in order
unfoldable pub interfaces_of : Format → List ℕ → List Interface
interfaces_of F s = listed (interface_of F s) 0 (layout_of F s).interfaces

-- all routes, in order
unfoldable pub routes_of : Format → List ℕ → List Route
routes_of F s = listed (route_of F s) 0 (layout_of F s).routes

-- by the switches of block 0 tracing is prohibited
unfoldable pub prohibited_of : List ℕ → Bool
prohibited_of s = eqb (switches_of (sheet_block s 0)) prohibits

-- the lowest interface that holds an address, of those numbered from i on
unfoldable pub holder_from : ℕ → ℕ → List Interface → Option ℕ
holder_from address i [] = None
holder_from address i (x ∷ xs) =
    let later = holder_from address (i + 1) xs in
    cond (eqb x.address address) (Some i) later

-- and of all
unfoldable pub holder_of : Format → List ℕ → ℕ → Option ℕ
holder_of F s address = holder_from address 0 (interfaces_of F s)

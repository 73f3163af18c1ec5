-- What holds of every sheet's tables as the layout counts them: each interface and each route keeps its rules and lies within
-- the sheet. A sheet that is not valid has none.
use Prim.Native.Nat.{ℕ, ◌+◌, ◌*◌, ◌-◌, ◌/◌, ◌%◌, ◌≤◌, ◌<◌}
use mathlib.Core.Bool.{true}
use mathlib.Core.List.{List}
use mathlib.Core.Path.{◌≡◌}
use native.Mathlib.Omega.{arith}
use lib.ListN.{length}
use Rattle.block.specs.Block.{block_size, place_in_block, entries_each}
use Rattle.format.specs.Sizes.{Sound}
use Rattle.format.specs.declared.Format.{Format}
use Rattle.interface.specs.Interface.{interface_ok}
use Rattle.route_rules.specs.Rules.{route_ok}
use Rattle.sheet_block.specs.Rules.{interface_kind, route_kind, interface_right, route_right}
use Rattle.sheet.specs.Sheet.{blocks, interface_blocks, interfaces_in, routes_in, valid_sheet, counted, layout_of}
use Rattle.tables.specs.Tables.{place_of, interface_of, route_of}
use Rattle.sheet.proofs.Laws.{valid, interface-run, route-run, interface_valid, route_valid, layout_valid}
use Rattle.tables.proofs.Places.{There, entry_there}
use Rattle.tables.proofs.Parts.{interface_in, route_in}

module _ {F : Format} (sound : Sound F) (s : List ℕ) where
  -- interface i: it keeps its rules, and its bytes are there
  module _ (i : ℕ) (there : i < (layout_of F s).interfaces) where
    interface_there : There s F.interface (interface_right F) 0 i
    unfolding counted interfaces_in
    interface_there =
        let e : valid_sheet F s ≡ true = interface_valid F s i there in
        entry_there s interface_kind F.interface (interface_right F) 0 (interface_blocks s) (interface-run F s (valid F s e))
        (interface_blocks s) (omega arith) i (rw (layout_valid F s e) at there) (omega arith)

    pub interface_bytes_lem : place_of F.interface 0 i + F.interface ≤ length s
    interface_bytes_lem = interface_there.bytes

    pub interface_keeps : interface_ok F (interface_of F s i) ≡ true
    unfolding interface_of
    interface_keeps =
        rw (interface_in s (block_size * (0 + i / entries_each F.interface)) block_size (place_in_block F.interface (i % entries_each F.interface)) (omega (arith, interface_there.inside))) at interface_there.rules

  -- route k likewise
  module _ (k : ℕ) (there : k < (layout_of F s).routes) where
    route_there : There s F.route (route_right (interfaces_in F s)) (interface_blocks s) k
    unfolding counted routes_in
    route_there =
        let e : valid_sheet F s ≡ true = route_valid F s k there in
        let v = valid F s e in
        entry_there s route_kind F.route (route_right (interfaces_in F s)) (interface_blocks s) (blocks s) (route-run F s v) (blocks s - interface_blocks s)
        (omega (arith, v.within)) k (rw (layout_valid F s e) at there) (omega arith)

    pub route_bytes_lem : place_of F.route (interface_blocks s) k + F.route ≤ length s
    route_bytes_lem = route_there.bytes

    pub route_keeps : route_ok (layout_of F s).interfaces (route_of F s k) ≡ true
    unfolding counted route_of
    route_keeps =
        rw (layout_valid F s (route_valid F s k there))
        (rw (route_in s (block_size * (interface_blocks s + k / entries_each F.route)) block_size (place_in_block F.route (k % entries_each F.route)) (omega (arith, route_there.inside))) at route_there.rules)

-- The tables as the code reads them: at the layout's places.
use Prim.Native.Nat.{ℕ, ◌+◌, ◌*◌, ◌%◌, ◌≤◌, ◌<◌}
use mathlib.Core.Bool.{true}
use mathlib.Core.List.{List}
use mathlib.Core.Path.{◌≡◌, ap, ◌∙◌}
use native.Mathlib.Omega.{arith}
use native.Mathlib.Nat.{mod-lt}
use lib.Dec.{eqb}
use lib.ListN.{length}
use Rattle.wire.specs.Numbers.{be16, be32}
use Rattle.wire.proofs.Laws.{be-part}
use Rattle.block.specs.Block.{block_size, switches_at, entries_each}
use Rattle.format.specs.Sizes.{Sound, interface_fields, route_fields}
use Rattle.format.specs.declared.Format.{Format}
use Rattle.interface.specs.Interface.{interface_at}
use Rattle.interface.specs.declared.Interface.{Interface}
use Rattle.sheet_block.specs.Rules.{prohibits}
use Rattle.sheet.specs.Sheet.{most_blocks, interface_blocks, valid_sheet, counted, layout_of}
use Rattle.tables.specs.Tables.{place_of, interface_of, route_place, route_of, prohibited_of}
use Rattle.tables.specs.Inside.{routes_beside, Beside}
use Rattle.sheet.specs.declared.Layout.{Layout}
use Rattle.sheet.proofs.Laws.{valid, layout_valid, route_valid}
use Rattle.tables.proofs.Places.{some_room, in_row}
use Rattle.tables.proofs.Entries.{interface_bytes_lem, route_bytes_lem, route_keeps}

module _ {F : Format} (sound : Sound F) where
  -- an interface's place
  pub place_within : (s : List ℕ) (i at : ℕ) → at ≡ place_of F.interface 0 i → i < (layout_of F s).interfaces → at + interface_fields ≤ length s
  place_within s i at e h = omega (arith, interface_bytes_lem sound s i h)

  -- what is read there is interface i
  pub interface_told : (s : List ℕ) (i at : ℕ) (x : Interface) → at ≡ place_of F.interface 0 i → x ≡ interface_at s at → x ≡ interface_of F s i
  unfolding interface_of
  interface_told s i at x e f = f ∙ rw e

  -- a route's place
  pub route_each : 0 < entries_each F.route
  route_each = some_room F.route (omega arith) (omega arith)

  pub route-next : (k : ℕ) → k % entries_each F.route < entries_each F.route
  route-next k = mod-lt k route_each

  -- some stand side by side from it on
  pub beside_some : (k routes : ℕ) → k < routes → 0 < routes_beside F routes k
  beside_some k routes h = omega (arith, route-next k)

  module _ (s : List ℕ) (l : Layout) (k : ℕ) (el : l ≡ layout_of F s) (there : k < l.routes) where
    routes_there : k < (layout_of F s).routes
    routes_there = rw el at there

    blocks-told : l.blocks ≡ interface_blocks s
    unfolding counted
    blocks-told = ap (λ (n : Layout). n.blocks) (el ∙ layout_valid F s (route_valid F s k routes_there))

    pub route_placed : place_of F.route l.blocks k + F.route ≤ block_size * most_blocks
    route_placed =
        let v = valid F s (route_valid F s k routes_there) in
        rw blocks-told (omega (arith, route_bytes_lem sound s k routes_there, v.size.whole, v.size.few))

    route_whole : (at : ℕ) → at ≡ place_of F.route l.blocks k → at + F.route ≤ length s
    route_whole at e = rw (e, blocks-told) (route_bytes_lem sound s k routes_there)

    pub route_within : (at : ℕ) → at ≡ place_of F.route l.blocks k → at + route_fields ≤ length s
    route_within at e = omega (arith, route_whole at e)

    its_place : (at : ℕ) → at ≡ place_of F.route l.blocks k → at ≡ route_place F s k
    its_place at e = rw (e, blocks-told)

  -- the routes beside a route, up to the end of its block
  module _ (s : List ℕ) (l : Layout) (k : ℕ) (el : l ≡ layout_of F s) (there : k < l.routes) (at count : ℕ)
      (placed : at ≡ place_of F.route l.blocks k) (beside : count ≡ routes_beside F l.routes k) where
    in_block : (j : ℕ) → j < count → at + F.route * j ≡ place_of F.route l.blocks (k + j)
    in_block j h = rw placed (in_row F.route k j (omega arith) l.blocks)

    -- each has its place, as many routes on as it stands behind the first
    pub beside_place : (j : ℕ) → j < count → at + F.route * j ≡ route_place F s (k + j)
    beside_place j h = its_place s l (k + j) el (omega arith) (at + F.route * j) (in_block j h)

    pub routes_beside_lem : Beside F s at count
    unfolding route_of
    routes_beside_lem =
        record {
          bytes = λ j h. route_whole s l (k + j) el (omega arith) (at + F.route * j) (in_block j h);
          kept = λ j h. rw (beside_place j h) (route_keeps sound s (k + j) (rw (← el) (omega arith)));
        }

-- the switches
pub valid_long : (F : Format) (s : List ℕ) → valid_sheet F s ≡ true → block_size ≤ length s
valid_long F s e = let v = valid F s e in omega (arith, v.size.whole, v.size.some)

pub switches_read : (s : List ℕ) (x : ℕ) → x ≡ be16 s switches_at → eqb x prohibits ≡ prohibited_of s
unfolding prohibited_of
switches_read s x e = rw (e, be-part 1 s 0 block_size switches_at (omega arith))

-- the address of an interface
pub address_read : (F : Format) (s : List ℕ) (i at x : ℕ) → at ≡ place_of F.interface 0 i → x ≡ be32 s at → x ≡ (interface_of F s i).address
unfolding interface_of interface_at
address_read F s i at x e f = f ∙ rw e

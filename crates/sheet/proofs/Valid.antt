-- What a valid sheet is, rule by rule; and how the layout tells of it.
use Prim.Native.Nat.{ℕ, zero, suc, ◌+◌, ◌*◌, ◌≤◌, ◌<◌}
use mathlib.Core.Bool.{Bool, true, ◌&&◌, cond}
use mathlib.Core.List.{List}
use mathlib.Core.Path.{◌≡◌}
use native.Mathlib.Omega.{arith}
use lib.Dec.{leb, eqb}
use lib.ListN.{length}
use borrow.Author.Tests.{lt-ltb, le-ltb, leb-true}
use Rattle.rows.proofs.Laws.{cond_cases, both_of}
use Rattle.block.specs.Block.{block_size, kind_of, used_in, switches_of, frame_ok}
use Rattle.format.specs.declared.Format.{Format}
use Rattle.interface.specs.Interface.{most_interfaces}
use Rattle.sheet_block.specs.Every.{every}
use Rattle.sheet_block.specs.Rules.{interface_kind, route_kind, switches_ok, interface_right, route_right, entries_ok, block_ok}
use Rattle.sheet.specs.Sheet.{most_blocks, sheet_size_ok, blocks, sheet_block, interface_blocks_in, interface_blocks, interfaces_in, interface_block_ok, route_block_ok, block_ok_with, block_ok_at, valid_sheet}
use Rattle.sheet_block.proofs.Laws.{every_one}
use Rattle.wire.proofs.Laws.{Wholes, wholes}

-- no more interface blocks than blocks
blocks_within : (s : List ℕ) (n : ℕ) → interface_blocks_in s n ≤ n
unfolding interface_blocks_in
blocks_within s zero = omega arith
blocks_within s (suc n) =
    let one : cond (eqb (kind_of (sheet_block s n)) interface_kind) 1 0 ≤ 1 = cond_cases (λ (k : ℕ). k ≤ 1) (eqb (kind_of (sheet_block s n)) interface_kind) 1 0 (λ e. omega arith) (λ e. omega arith) in
    omega (arith, blocks_within s n)

pub record Valid (F : Format) (s : List ℕ) : Type 0 where
  pub size : Wholes block_size most_blocks (length s)
  pub some : 1 ≤ interface_blocks s
  pub within : interface_blocks s ≤ blocks s
  pub few : interfaces_in F s ≤ most_interfaces
  pub all : every (block_ok_at F s) (blocks s) ≡ true
  pub each : (k : ℕ) → k < blocks s → block_ok_at F s k ≡ true

pub valid : (F : Format) (s : List ℕ) → valid_sheet F s ≡ true → Valid F s
unfolding valid_sheet interface_blocks
valid F s e =
    let z : Bool = sheet_size_ok (length s) in
    let m : Bool = leb 1 (interface_blocks s) in
    let f : Bool = leb (interfaces_in F s) most_interfaces in
    let p = both_of (z && m && f) (every (block_ok_at F s) (blocks s)) e in
    let q = both_of (z && m) f p.0 in
    let r = both_of z m q.0 in
    record {
      size = wholes block_size most_blocks (length s) r.0;
      some = leb-true 1 (interface_blocks s) r.1;
      within = blocks_within s (blocks s);
      few = leb-true (interfaces_in F s) most_interfaces q.1;
      all = p.1;
      each = λ k h. every_one (block_ok_at F s) (blocks s) k p.1 h;
    }

-- blocks of one kind, numbered from `first` up to `stop`: each keeps its frame, only the last may be partly filled, and each
-- entry in use keeps its rules
pub record Run (s : List ℕ) (kind size : ℕ) (right : List ℕ → ℕ → Bool) (first stop : ℕ) : Type 0 where
  pub within : block_size * stop ≤ length s
  pub frames : (k : ℕ) → first ≤ k → k < stop → frame_ok kind size k (eqb (k + 1) stop) (sheet_block s k) ≡ true
  pub entries : (k : ℕ) → first ≤ k → k < stop → entries_ok size right (sheet_block s k) (used_in (sheet_block s k)) ≡ true

run_of : (s : List ℕ) (kind size : ℕ) (right : List ℕ → ℕ → Bool) (first stop : ℕ) → block_size * stop ≤ length s
    → ((k : ℕ) → first ≤ k → k < stop → block_ok kind size right k (eqb (k + 1) stop) (sheet_block s k) ≡ true)
    → Run s kind size right first stop
unfolding block_ok
run_of s kind size right first stop within kept =
    record { within = within; frames = λ k l h. (both_of (frame k) (switches k) (parts k l h).0).0; entries = λ k l h. (parts k l h).1 } where
      frame : ℕ → Bool
      frame k = frame_ok kind size k (eqb (k + 1) stop) (sheet_block s k)

      switches : ℕ → Bool
      switches k = switches_ok k (switches_of (sheet_block s k))

      parts : (k : ℕ) → first ≤ k → k < stop → (frame k && switches k ≡ true) × (entries_ok size right (sheet_block s k) (used_in (sheet_block s k)) ≡ true)
      parts k l h = both_of (frame k && switches k) (entries_ok size right (sheet_block s k) (used_in (sheet_block s k))) (kept k l h)

-- the interface blocks, and the route blocks, of a valid sheet
module _ (F : Format) (s : List ℕ) (v : Valid F s) where
  pub interface-run : Run s interface_kind F.interface (interface_right F) 0 (interface_blocks s)
  unfolding block_ok_with interface_block_ok
  interface-run =
      run_of s interface_kind F.interface (interface_right F) 0 (interface_blocks s)
      (omega (arith, v.within, v.size.whole))
      (λ k l h. rw (lt-ltb k (interface_blocks s) h) at (v.each k (omega (arith, v.within))))

  pub route-run : Run s route_kind F.route (route_right (interfaces_in F s)) (interface_blocks s) (blocks s)
  unfolding block_ok_with route_block_ok
  route-run =
      run_of s route_kind F.route (route_right (interfaces_in F s)) (interface_blocks s) (blocks s)
      (omega (arith, v.size.whole))
      (λ k l h. rw (le-ltb k (interface_blocks s) l) at (v.each k h))

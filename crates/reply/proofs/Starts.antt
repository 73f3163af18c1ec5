-- What each turn of the walk to a place shows: whether a block begins there is told by the blocks from here on.
use Prim.Native.Nat.{ℕ, ◌+◌, ◌-◌, ◌≤◌, ◌<◌}
use mathlib.Core.Path.{◌≡◌, refl, ◌∙◌}
use mathlib.Core.Bool.{true, false, or-true}
use mathlib.Core.List.{List}
use mathlib.Core.Logic.{◌⊎◌, inl, inr, ⊎_elim}
use native.Mathlib.Omega.{arith}
use borrow.Author.Tests.{eq-eqb, ne_eqb, eqb-true, eqb-false}
use lib.Dec.{eqb}
use lib.ListN.{length, drop, length-drop}
use Rattle.wire.specs.Numbers.{be16}
use Rattle.header.specs.Format.{header_size}
use Rattle.message.specs.Blocks.{begins, blocks_from, blocks_of, total_size, blocks_end}
use Rattle.message.specs.Inside.{block_at}
use Rattle.message.proofs.Laws.{begun, by_blocks, no_blocks_lem, block_first, blocks_on}
use Rattle.rows.proofs.Laws.{decided}
use Rattle.reply.specs.Copy.{begins_at, is_place}
use Rattle.reply.specs.Inside.{FillsFrom}
use Rattle.reply.proofs.Filled.{fills_high, not_empty, size_read, head_inside, fills_on, fills_moves}
use Rattle.format.specs.Sizes.{ipv4, ipv4_sound}

-- no block begins before the place that the blocks are cut from
module _ (place at : ℕ) (rest : List ℕ) where
  abbrev NotBefore : Type 0
  NotBefore = place < at → begins_at place (blocks_from ipv4 at rest) ≡ false

before_none : (place at : ℕ) (rest : List ℕ) → begins ipv4 rest ≡ false → NotBefore place at rest
unfolding begins_at
before_none place at rest b h = rw (no_blocks_lem ipv4_sound at rest b)

before_more : (place at : ℕ) (rest : List ℕ) → begins ipv4 rest ≡ true → NotBefore place (at + be16 rest 1) (drop (be16 rest 1) rest) → NotBefore place at rest
unfolding begins_at
before_more place at rest b f h = let n : at ≡ place → ⊥ = λ e. omega arith in rw (block_first ipv4_sound at rest b, ne_eqb _ _ n, f (omega arith))

none_before : (place at : ℕ) (rest : List ℕ) → NotBefore place at rest
none_before place = by_blocks ipv4_sound (NotBefore place) (before_none place) (before_more place)

-- and none past the bytes that they are cut from
module _ (place at : ℕ) (rest : List ℕ) where
  abbrev NotPast : Type 0
  NotPast = at + length rest < place → begins_at place (blocks_from ipv4 at rest) ≡ false

past_end : (place at : ℕ) (rest : List ℕ) → begins ipv4 rest ≡ false → NotPast place at rest
unfolding begins_at
past_end place at rest b h = rw (no_blocks_lem ipv4_sound at rest b)

past_more : (place at : ℕ) (rest : List ℕ) → begins ipv4 rest ≡ true → NotPast place (at + be16 rest 1) (drop (be16 rest 1) rest) → NotPast place at rest
unfolding begins_at
past_more place at rest b f h =
    let n : at ≡ place → ⊥ = λ e. omega arith in
    let left = length-drop (be16 rest 1) rest in
    rw (block_first ipv4_sound at rest b, ne_eqb _ _ n, f (omega (arith, left, (begun ipv4_sound rest b).inside)))

pub past_none : (s : List ℕ) (place : ℕ) → header_size ≤ length s → length s < place → false ≡ is_place s place
unfolding blocks_of
past_none s place low h =
    let n : place ≡ length s → ⊥ = λ e. omega arith in
    let none = by_blocks ipv4_sound (NotPast place) (past_end place) (past_more place) header_size (drop header_size s) (omega (arith, length-drop header_size s)) in
    rw (none, ne_eqb _ _ n)

-- a walk that has come to a place: what it is asked is told by the blocks from here on, and these go up to the end
pub record Come (s : List ℕ) (place at : ℕ) : Type 0 where
  pub told : begins_at place (blocks_of ipv4 s) ≡ begins_at place (blocks_from ipv4 at (drop at s))
  pub fills : FillsFrom s at

pub come_first : (s : List ℕ) (place : ℕ) → blocks_end ipv4 s ≡ length s → Come s place header_size
unfolding blocks_of blocks_end
come_first s place e = record { told = refl; fills = e }

module _ (s : List ℕ) (place at : ℕ) (c : Come s place at) where
  pub come_high : at ≤ length s
  come_high = omega (arith, c.fills)

  module _ (before : at < place) (within : place ≤ length s) where
    abbrev low : at < length s
    low = omega arith

    pub come_inside : at + 1 + 2 ≤ length s
    come_inside = head_inside s at c.fills low

    pub come_on : (size : ℕ) → size ≡ be16 s (at + 1) → Come s place (at + size)
    unfolding begins_at
    come_on size e =
        let n : at ≡ place → ⊥ = λ z. omega arith in
        let on = blocks_on ipv4_sound s at (block_at ipv4 s at) refl (not_empty s at c.fills low) in
        rw e
        (record {
          told = c.told ∙ rw (on, ne_eqb _ _ n, size_read s at c.fills low);
          fills = fills_on s at c.fills low;
        })

    pub come_fits : (size : ℕ) → size ≡ be16 s (at + 1) → at + size ≤ length s
    come_fits size e = rw e (fills_high s (at + be16 s (at + 1)) (fills_on s at c.fills low))

    pub come_moves : (size : ℕ) → size ≡ be16 s (at + 1) → length s - (at + size) < length s - at
    come_moves size e = rw e (fills_moves s at c.fills low)

  -- where it stops: a block begins here, or the message ends here; the walk has not passed the place unless nothing begins there
  here : (at ≡ place) → (begins ipv4 (drop at s) ≡ true) ⊎ (begins ipv4 (drop at s) ≡ false) → true ≡ is_place s place
  unfolding begins_at total_size
  here e (inl b) = rw (c.told, block_first ipv4_sound at (drop at s) b, eq-eqb _ _ e)
  here e (inr b) =
      let end : at + 0 ≡ length s = rw (no_blocks_lem ipv4_sound at (drop at s) b) at c.fills in
      let last : place ≡ length s = omega arith in
      rw (eq-eqb _ _ last, or-true)

  pub come_there : place ≤ at → eqb at place ≡ is_place s place
  come_there h =
      ⊎_elim
      (λ e. e ∙ here (eqb-true _ _ e) (decided (begins ipv4 (drop at s))))
      (λ e.
      let n : at ≡ place → ⊥ = eqb-false _ _ e in
      let far : place ≡ length s → ⊥ = λ z. n (omega (arith, come_high)) in
      e ∙ rw (c.told, none_before place at (drop at s) (omega (arith, n)), ne_eqb _ _ far))
      (decided (eqb at place))

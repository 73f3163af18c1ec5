-- What each turn of the search for a type 4 block shows, and what is handed out of what it found.
use Prim.Native.Nat.{ℕ, ◌+◌, ◌-◌, ◌≤◌, ◌<◌}
use mathlib.Core.Path.{◌≡◌, refl, sym, ap, ◌∙◌}
use mathlib.Core.Bool.{Bool, true, false, true≢false}
use mathlib.Core.List.{List, [], ◌∷◌}
use mathlib.Core.Logic.{⊎_elim}
use native.Mathlib.Omega.{arith}
use denote.Enum.Bare.{sameb}
use lib.ListN.{length, get_or, drop}
use Rattle.std.specs.Prelude.{Option, Some, None, slice_get}
use Rattle.header.specs.declared.BlockKind.TheVariants.{Standard}
use Rattle.header.specs.contracts.BlockKind.{the_type}
use Rattle.header.specs.Format.{standard_size}
use Rattle.message.specs.declared.BlockHead.{BlockHead}
use Rattle.message.specs.Blocks.{begins}
use Rattle.message.specs.Inside.{Head, head_of, block_at, standards_from}
use Rattle.message.proofs.Once.{typed, kind_told}
use Rattle.message.proofs.Laws.{begun, standards_over, standards_more, standards_same, size_inside, moves_on, first_parts}
use Rattle.rows.proofs.Laws.{decided}
use Rattle.standard.specs.declared.Standard.{Standard as Block}
use Rattle.standard.specs.Standard.{standard_in}
use Rattle.reply.specs.Reader.{Handed, handed, handed_by, next_from}
use Rattle.reply.proofs.Places.{none_past, found_parts}
use Rattle.format.specs.Sizes.{ipv4, ipv4_sound}

-- a block that is read is not empty
module _ (s : List ℕ) (at : ℕ) (block : BlockHead) (b : head_of (Some block) ≡ block_at ipv4 s at) where
  some_size : block.size ≡ 0 → ⊥
  unfolding block_at
  some_size z =
      ⊎_elim
      (λ t. omega (arith, z, (begun ipv4_sound (drop at s) t).least, ap (λ (h : Head). h.size) (rw t at b)))
      (λ t. typed block.kind (ap (λ (h : Head). h.kind) (rw t at b)))
      (decided (begins ipv4 (drop at s)))

  pub search_inside : at ≤ length s → at + block.size ≤ length s
  search_inside = size_inside ipv4_sound s at (head_of (Some block)) b some_size

  pub search_moves : at ≤ length s → length s - (at + block.size) < length s - at
  search_moves = moves_on ipv4_sound s at (head_of (Some block)) b some_size

  module _ (place : ℕ) (so_far : standards_from ipv4 s place ≡ standards_from ipv4 s at) (one : Bool) (told : one ≡ sameb the_type block.kind Standard) where
    pub search_found : one ≡ true → Some at ≡ slice_get (standards_from ipv4 s place) 0
    search_found t = rw (so_far, standards_more ipv4_sound s at (head_of (Some block)) b some_size (sym (kind_told block.kind) ∙ sym told ∙ t))

    pub search_on : one ≡ false → standards_from ipv4 s place ≡ standards_from ipv4 s (at + block.size)
    search_on t = so_far ∙ standards_same ipv4_sound s at (head_of (Some block)) b some_size (sym (kind_told block.kind) ∙ sym told ∙ t)

-- where none is read the search is over; past the end there is none
pub search_over : (s : List ℕ) (at place : ℕ) (block : Option BlockHead) → head_of block ≡ block_at ipv4 s at → block ≡ None
    → standards_from ipv4 s place ≡ standards_from ipv4 s at → None ≡ slice_get (standards_from ipv4 s place) 0
search_over s at place block b none so_far =
    rw (so_far, standards_over ipv4_sound s at (head_of block) b (ap (λ (o : Option BlockHead). (head_of o).size) none))

pub search_past : (s : List ℕ) (place : ℕ) → length s < place → None ≡ slice_get (standards_from ipv4 s place) 0
search_past s place h = rw (none_past s place (omega arith))

-- what is handed out: nothing where none was found, else the block there
pub nothing_first : (s : List ℕ) (place : ℕ) (places : List ℕ) → None ≡ slice_get places 0 → places ≡ []
nothing_first s place [] e = refl
nothing_first s place (p ∷ places) e = cc

pub hands_none : (s : List ℕ) (place : ℕ) → None ≡ slice_get (standards_from ipv4 s place) 0 → handed place None ≡ next_from s place
unfolding next_from standards_from
hands_none s place e = rw (nothing_first s place (standards_from ipv4 s place) e)

pub hands_it : (s : List ℕ) (place at : ℕ) → Some at ≡ slice_get (standards_from ipv4 s place) 0
    → handed place (Some (standard_in s at, at + standard_size)) ≡ next_from s place
unfolding next_from standards_from
hands_it s place at e = rw (found_parts s place at e)

-- and what is left behind it is less
module _ (s : List ℕ) (place behind : ℕ) (block : Block) where
  fewer_by : (places : List ℕ) → record { found = true; place = behind; block = block } ≡ handed_by s place places
      → (0 < length places → places ≡ get_or places 0 0 ∷ standards_from ipv4 s (get_or places 0 0 + standard_size))
      → length (standards_from ipv4 s behind) < length places
  fewer_by [] e parts = absurd (true≢false (ap (λ (h : Handed). h.found) e))
  fewer_by (at ∷ places) e parts =
      let same : behind ≡ at + standard_size = ap (λ (h : Handed). h.place) e in
      let left : places ≡ standards_from ipv4 s (at + standard_size) = ap (drop 1) (parts (omega arith)) in
      rw (same, ← left) (omega arith)

  pub hands_fewer : handed place (Some (block, behind)) ≡ next_from s place → length (standards_from ipv4 s behind) < length (standards_from ipv4 s place)
  unfolding next_from standards_from
  hands_fewer e = fewer_by (standards_from ipv4 s place) e (first_parts ipv4_sound s place)

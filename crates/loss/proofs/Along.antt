-- What each turn of the walk along two paths shows.
use Prim.Native.Nat.{ℕ}
use mathlib.Core.Path.{◌≡◌, sym, ◌∙◌}
use mathlib.Core.Bool.{Bool, true, false, not}
use mathlib.Core.List.{List, [], ◌∷◌, map}
use borrow.Author.Tests.{not-true, not-false}
use denote.Ref.{Bor}
use Rattle.std.specs.Prelude.{Option, Some, None}
use Rattle.std.specs.Option.{is_some}
use Rattle.std.specs.Iterator.{YieldsFirstRef}
use Rattle.message.specs.Blocks.{standard_blocks}
use Rattle.standard.specs.declared.Standard.{Standard}
use Rattle.standard.specs.Standard.{standard_of}
use Rattle.reply.specs.declared.KnownBlocks.{KnownBlocks}
use Rattle.reply.specs.Reader.{standards_in}
use Rattle.reply.specs.Inside.{FillsFrom, left_of}
use Rattle.loss.specs.Path.{same_router, same_path}
use Rattle.format.specs.Sizes.{ipv4}

-- the blocks that an iterator has left, by their fields
abbrev pub fields_of : KnownBlocks → List Standard
fields_of blocks = map standard_of (left_of blocks)

-- two iterators that have come to a block of each message: whether the messages are over one path is told by the blocks left
pub record Along (s t : List ℕ) (blocks others : KnownBlocks) : Type 0 where
  pub fills : FillsFrom others.reply.now others.place
  pub told : same_path (standards_in s) (standards_in t) ≡ same_path (fields_of blocks) (fields_of others)

pub along_first : (s t : List ℕ) (blocks others : KnownBlocks) → FillsFrom others.reply.now others.place
    → left_of blocks ≡ standard_blocks ipv4 s → left_of others ≡ standard_blocks ipv4 t → Along s t blocks others
unfolding standards_in
along_first s t blocks others f e g = record { fills = f; told = rw (e, g) }

module _ (s t : List ℕ) (blocks others : KnownBlocks) (a : Along s t blocks others) where
  -- a block of each is taken
  module _ (block other : List ℕ) (xs ys : List (List ℕ)) (e : left_of blocks ≡ block ∷ xs) (g : left_of others ≡ other ∷ ys) (f : Bool)
      (ef : f ≡ same_router (standard_of block) (standard_of other)) where
    pub along_parts : f ≡ false → false ≡ same_path (standards_in s) (standards_in t)
    unfolding same_path
    along_parts p = sym (a.told ∙ rw (e, g, ← ef, p))

    pub along_on : (left also : KnownBlocks) → xs ≡ left_of left → ys ≡ left_of also → FillsFrom also.reply.now also.place → f ≡ true → Along s t left also
    unfolding same_path
    along_on left also p q h t = record { fills = h; told = a.told ∙ rw (e, g, ← ef, t, p, q) }

  -- one of them has none left
  pub along_short : (block : List ℕ) (xs : List (List ℕ)) → left_of blocks ≡ block ∷ xs → left_of others ≡ [] → false ≡ same_path (standards_in s) (standards_in t)
  unfolding same_path
  along_short block xs e g = sym (a.told ∙ rw (e, g))

  pub along_over : (r : Option (Bor (List ℕ))) (none : Bool) (left : KnownBlocks) → left_of blocks ≡ [] → YieldsFirstRef left_of others r left
      → is_some r ≡ not none → none ≡ same_path (standards_in s) (standards_in t)
  unfolding same_path
  along_over None none left e g n = not-false none (sym n) ∙ sym (a.told ∙ rw (e, g.0))
  along_over (Some other) none left e g n = not-true none (sym n) ∙ sym (a.told ∙ rw (e, g))

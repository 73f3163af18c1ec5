-- The ways out of `check` and of `loss`, each from the tests and the calls that led to it.
use Prim.Native.Nat.{ℕ, ◌≤◌, ◌<◌}
use mathlib.Core.Path.{◌≡◌, refl, sym, ap, ◌∙◌}
use mathlib.Core.Bool.{Bool, true, false, not}
use mathlib.Core.List.{List, [], ◌∷◌, ◌++◌}
use native.Mathlib.Omega.{arith}
use borrow.Author.Tests.{lt-ltb, le-ltb}
use lib.ListN.{length}
use Rattle.rows.specs.Rows.{Row, row, by_first, first_of}
use Rattle.rows.proofs.Laws.{given_alone, none_alone, given_by, none_by, zero_none, none_split}
use Rattle.refusal.specs.declared.Refusal.{Refusal}
use Rattle.refusal.specs.Refusal.{number}
use Rattle.refusal.proofs.Laws.{number_positive}
use Rattle.wire.specs.Parts.{splice}
use Rattle.header.specs.Format.{header_size, most}
use Rattle.reply.specs.Inside.{FillsFrom}
use Rattle.reply.specs.Check.{reply_rows, Readable}
use Rattle.reply.specs.Reader.{standards_in}
use Rattle.reply.proofs.Laws.{readable_known, known_fills, fills_first, checked_known}
use Rattle.loss.specs.Path.{other_path, same_path, pair_rows}
use Rattle.loss.specs.Loss.{links_size, links_room, links_in, links_bytes, Written, written, loss_of}

-- a refusal is one
some : (e : Refusal) → number e ≡ 0 → ⊥
some e z = absurd (omega (arith, number_positive e, z))

module _ (first second : List ℕ) where
  -- the row on the path
  abbrev last : List Row
  last = row other_path (not (same_path (standards_in first) (standards_in second))) ∷ []

  pub first_refused : (e : Refusal) → number e ≡ first_of (reply_rows first) → number e ≡ first_of (pair_rows first second)
  unfolding pair_rows
  first_refused e p = sym (given_by (λ x. x) 0 (reply_rows first) (reply_rows second ++ last) (number e) p (some e))

  module _ (a : 0 ≡ first_of (reply_rows first)) where
    passed : first_of (pair_rows first second) ≡ first_of (reply_rows second ++ last)
    unfolding pair_rows reply_rows
    passed = none_by (λ x. x) 0 (reply_rows first) (reply_rows second ++ last) 0 a refl refl

    pub second_refused : (e : Refusal) → number e ≡ first_of (reply_rows second) → number e ≡ first_of (pair_rows first second)
    second_refused e p = sym (passed ∙ given_by (λ x. x) 0 (reply_rows second) last (number e) p (some e))

    module _ (b : 0 ≡ first_of (reply_rows second)) (f : Bool) (ef : f ≡ same_path (standards_in first) (standards_in second)) where
      both_passed : first_of (pair_rows first second) ≡ first_of last
      unfolding reply_rows
      both_passed = passed ∙ none_by (λ x. x) 0 (reply_rows second) last 0 b refl refl

      pub paths_same : f ≡ true → 0 ≡ first_of (pair_rows first second)
      unfolding by_first
      paths_same t = sym (both_passed ∙ rw (sym ef ∙ t))

      pub paths_other : f ≡ false → other_path ≡ first_of (pair_rows first second)
      unfolding by_first
      paths_other t = sym (both_passed ∙ rw (sym ef ∙ t))

-- what `same_path` asks of two Replies that were checked
pub asks_path : (s : List ℕ) → 0 ≡ first_of (reply_rows s) → FillsFrom s header_size
asks_path s e = fills_first s (known_fills s (checked_known s 0 e refl))

-- what `write_links` asks of two Replies that were checked
module _ (first second : List ℕ) (e : 0 ≡ first_of (pair_rows first second)) where
  both_readable : Readable first × Readable second
  unfolding pair_rows reply_rows
  both_readable =
      let none = zero_none (pair_rows first second) refl (sym e) in
      let parts = none_split (reply_rows first) (reply_rows second ++ last first second) none in
      (parts.0, (none_split (reply_rows second) (last first second) parts.1).0)

  fills : (s : List ℕ) → Readable s → FillsFrom s header_size
  fills s r = fills_first s (known_fills s (readable_known s r))

  pub asks_links : FillsFrom first header_size × (length first ≤ most) × FillsFrom second header_size
  asks_links = (fills first both_readable.0, (readable_known first both_readable.0).high, fills second both_readable.1)

module _ (first second links : List ℕ) where
  pub no_room : length links < links_size → written links_room links ≡ loss_of first second links
  unfolding loss_of by_first
  no_room h = rw (lt-ltb _ _ h)

  module _ (room : links_size ≤ length links) where
    abbrev done : Written
    done = written 0 (splice links 0 (links_bytes (links_in first second)))

    pub pair_refused : (e : Refusal) → number e ≡ first_of (pair_rows first second) → written (number e) links ≡ loss_of first second links
    unfolding loss_of by_first
    pair_refused e p = rw (le-ltb _ _ room) (sym (given_alone (λ number. written number links) done (pair_rows first second) (number e) p (some e)))

    pub pair_written : (left : List ℕ) → 0 ≡ first_of (pair_rows first second) → left ≡ splice links 0 (links_bytes (links_in first second))
        → written 0 left ≡ loss_of first second links
    unfolding loss_of by_first pair_rows reply_rows
    pair_written left z e =
        rw (le-ltb _ _ room)
        (ap (written 0) e ∙ sym (none_alone (λ number. written number links) done (pair_rows first second) 0 z refl refl))

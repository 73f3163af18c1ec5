-- The ways out of `right_form` and of `check`, each from the tests and the calls that led to it.
use Prim.Native.Nat.{ℕ, ◌+◌, ◌-◌, ◌≤◌, ◌<◌, min}
use mathlib.Core.Path.{◌≡◌, refl, sym, ap, ◌∙◌}
use mathlib.Core.Bool.{Bool, true, false, not, ◌&&◌, ◌||◌, and-false}
use mathlib.Core.List.{List, [], ◌∷◌, ◌++◌}
use mathlib.Core.Logic.{⊎_elim}
use native.Mathlib.Omega.{arith}
use native.Mathlib.Nat.{add-zero}
use borrow.Author.Tests.{lt-ltb, le-ltb, eq-eqb, ne_eqb, ltb-true, ltb-false}
use lib.Dec.{ltb, eqb}
use lib.ListN.{length, drop, length-drop}
use lib.Seq.{get_or-drop}
use Rattle.wire.specs.Numbers.{byte_at}
use Rattle.header.specs.declared.Header.{Header}
use Rattle.message.specs.declared.Blocks.{Blocks}
use Rattle.header.specs.Format.{query}
use Rattle.header.specs.Header.{header_of}
use Rattle.message.specs.Blocks.{Placed, begins, blocks_of, total_size, blocks_end, standard_first, fills_message, right_form}
use Rattle.message.specs.Check.{drop_size, drop_blocks, message_rows}
use Rattle.header.specs.Rows.{header_rows}
use Rattle.message.specs.Inside.{blocks_seen, refused_message, accepted_message, check_of}
use Rattle.rows.specs.Rows.{Row, row, by_first, first_of}
use Rattle.refusal.specs.declared.Refusal.{Refusal}
use Rattle.refusal.specs.Refusal.{number}
use Rattle.refusal.proofs.Laws.{number_positive}
use Rattle.rows.proofs.Laws.{given_by, none_by, decided, same_flag, one_of}
use Rattle.message.proofs.Cut.{too_short, no_blocks_lem, block_first}
use Rattle.format.specs.declared.Format.{Format}
use Rattle.format.specs.Sizes.{Sound}

-- what passes the smaller of two numbers passes one of them; past what is left beside `head` bytes is past the whole with them
pub past_room : (most mtu head size : ℕ) → 0 < size → (ltb most size || ltb mtu (size + head)) ≡ ltb (min most (mtu - head)) size
past_room most mtu head size some =
    same_flag (ltb most size || ltb mtu (size + head)) (ltb (min most (mtu - head)) size)
    (λ e.
    let room : ℕ = min most (mtu - head) in
    ⊎_elim
    (λ l. lt-ltb room size (omega (arith, ltb-true most size l)))
    (λ l. lt-ltb room size (omega (arith, ltb-true mtu (size + head) l)))
    (one_of (ltb most size) (ltb mtu (size + head)) e))
    (λ e.
    ⊎_elim
    (λ l. rw l)
    (λ l. rw (l, lt-ltb mtu (size + head) (omega (arith, ltb-true (min most (mtu - head)) size e, ltb-false most size l))))
    (decided (ltb most size)))

module _ {F : Format} (sound : Sound F) where
  -- a header alone has no block
  pub header_alone : (s : List ℕ) → length s ≡ F.header → blocks_of F s ≡ []
  unfolding blocks_of
  header_alone s e = no_blocks_lem sound F.header (drop F.header s) (too_short sound _ (rw (length-drop F.header s) (omega arith)))

  -- a block of a type, as the first of some
  abbrev headed : ℕ → List Placed
  headed kind = record { at = F.header; kind = kind; size = 0 } ∷ []

  -- the type of the first block is the first byte behind the header; where no block begins there, a longer message is not filled
  first_kind : (s : List ℕ) → begins F (drop F.header s) ≡ true → standard_first (blocks_of F s) ≡ standard_first (headed (byte_at s F.header))
  unfolding blocks_of standard_first
  first_kind s b = rw (block_first sound F.header (drop F.header s) b, get_or-drop F.header s 0 0, add-zero)

  not_filled : (s : List ℕ) → begins F (drop F.header s) ≡ false → (length s ≡ F.header → ⊥) → blocks_end F s ≡ length s → ⊥
  unfolding blocks_end blocks_of total_size
  not_filled s b n e = n (sym (rw (no_blocks_lem sound F.header (drop F.header s) b, add-zero) at e))

  module _ (s : List ℕ) where
    pub form_query : byte_at s 0 ≡ query → eqb (length s) F.header ≡ right_form F s
    unfolding right_form
    form_query e = rw (eq-eqb _ _ e)

    module _ (k : byte_at s 0 ≡ query → ⊥) where
      pub form_none : length s ≡ F.header → false ≡ right_form F s
      unfolding right_form standard_first
      form_none e = rw (ne_eqb _ _ k, header_alone s e) (sym (and-false (fills_message F s)))

      pub form_request : (end : ℕ) → (length s ≡ F.header → ⊥) → end ≡ blocks_end F s
          → (eqb end (length s) && standard_first (headed (byte_at s F.header))) ≡ right_form F s
      unfolding right_form fills_message
      form_request end n e =
          rw (ne_eqb _ _ k, e)
          (⊎_elim (λ b. rw (first_kind s b)) (λ b. rw (ne_eqb _ _ (not_filled s b n))) (decided (begins F (drop F.header s))))

  -- the rows of the table, each under those before it
  module _ (s : List ℕ) where
    pub row_short : length s < F.header → refused_message drop_size ≡ check_of F s
    unfolding check_of message_rows by_first
    row_short h = rw (lt-ltb _ _ h)

    module _ (low : F.header ≤ length s) where
      pub row_long : F.most < length s → refused_message drop_size ≡ check_of F s
      unfolding check_of message_rows by_first
      row_long h = rw (le-ltb _ _ low, lt-ltb _ _ h)

      module _ (high : length s ≤ F.most) (h : Header) (n : ℕ) (eh : h ≡ header_of s) (en : n ≡ first_of (header_rows F h)) where
        -- the row on the form
        abbrev last : List Row
        last = row drop_blocks (not (right_form F s)) ∷ []

        sized : check_of F s ≡ by_first refused_message (accepted_message F s) (header_rows F h ++ last)
        unfolding check_of message_rows by_first
        sized = rw (le-ltb _ _ low, le-ltb _ _ high, eh)

        pub row_header : (e : Refusal) → n ≡ number e → refused_message (number e) ≡ check_of F s
        row_header e p =
            let some : n ≡ 0 → ⊥ = λ z. absurd (omega (arith, number_positive e, p, z)) in
            ap refused_message (sym p) ∙ sym (sized ∙ given_by refused_message (accepted_message F s) (header_rows F h) last n en some)

        module _ (zero : n ≡ 0) (f : Bool) (ef : f ≡ right_form F s) where
          formed : check_of F s ≡ by_first refused_message (accepted_message F s) last
          unfolding header_rows
          formed = sized ∙ none_by refused_message (accepted_message F s) (header_rows F h) last n en refl zero

          pub row_blocks : not f ≡ true → refused_message drop_blocks ≡ check_of F s
          unfolding by_first
          row_blocks t = rw (formed, ← ef, t)

          pub row_none : (b : Blocks) → not f ≡ false → b ≡ blocks_seen F s → record { number = 0; header = h; blocks = b } ≡ check_of F s
          unfolding by_first accepted_message
          row_none b t eb = rw (formed, ← ef, t, ← eb, ← eh)

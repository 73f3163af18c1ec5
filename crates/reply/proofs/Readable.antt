-- What is known of a Reply that can be read, one to which no row of 5, 41, 7 and 13 applies.
use Prim.Native.Nat.{ℕ, ◌≤◌, ◌<◌}
use mathlib.Core.Path.{◌≡◌, refl, sym, ◌∙◌}
use mathlib.Core.Bool.{true}
use mathlib.Core.List.{List}
use borrow.Author.Tests.{ltb-false, le-ltb, eq-eqb, eqb-true, not-false}
use native.Mathlib.Omega.{arith}
use lib.Dec.{ltb}
use lib.ListN.{length}
use Rattle.wire.specs.Numbers.{byte_at}
use Rattle.header.specs.Format.{header_size, most, reply}
use Rattle.header.specs.Header.{header_of, right_length}
use Rattle.message.specs.Blocks.{blocks_end, fills_message, request_form, right_form, standard_count}
use Rattle.message.specs.Check.{drop_size, drop_blocks}
use Rattle.header.specs.Rows.{drop_header}
use Rattle.message.proofs.Laws.{request_formed, request_has_standard}
use Rattle.rows.specs.Rows.{first_of}
use Rattle.rows.proofs.Laws.{neither_of, both_of, none_at, zero_none}
use Rattle.reply.specs.Check.{not_reply, is_reply, reply_rows, Readable}
use Rattle.format.specs.Sizes.{ipv4, ipv4_sound}

pub record Known (s : List ℕ) : Type 0 where
  pub low : header_size ≤ length s
  pub high : length s ≤ most
  pub kind : (header_of s).kind ≡ reply
  pub header : (header_of s).length ≡ header_size
  pub form : right_form ipv4 s ≡ true

-- a Reply to which no row applies is so
pub readable_known : (s : List ℕ) → Readable s → Known s
unfolding reply_rows
readable_known s none =
    let at = none_at (reply_rows s) none in
    let size = neither_of (ltb (length s) header_size) _ (at drop_size) in
    record {
      low = ltb-false _ _ size.0;
      high = ltb-false _ _ size.1;
      kind = eqb-true _ _ (not-false (is_reply (header_of s)) (at not_reply));
      header = eqb-true _ _ (not-false (right_length ipv4 (header_of s)) (at drop_header));
      form = not-false (right_form ipv4 s) (at drop_blocks);
    }

-- and to one that is so none applies
pub known_readable : (s : List ℕ) → Known s → Readable s
unfolding reply_rows
known_readable s k =
    (rw (le-ltb _ _ k.low, le-ltb _ _ k.high), (rw (eq-eqb _ _ k.kind), (rw (eq-eqb _ _ k.header), (rw k.form, tt))))

module _ (s : List ℕ) (k : Known s) where
  formed : request_form ipv4 s ≡ true
  unfolding header_of
  formed = let kind : byte_at s 0 ≡ reply = k.kind in request_formed ipv4_sound s k.form (λ q. omega arith)

  -- its blocks fill it, and there is one of type 4
  pub known_fills : blocks_end ipv4 s ≡ length s
  unfolding fills_message
  known_fills = eqb-true _ _ (both_of (fills_message ipv4 s) _ formed).0

  pub known_some : 0 < standard_count ipv4 s
  known_some = request_has_standard ipv4_sound s formed

-- by the check's answer
module _ (s : List ℕ) (n : ℕ) (en : n ≡ first_of (reply_rows s)) (z : n ≡ 0) where
  pub checked_readable : Readable s
  unfolding reply_rows
  checked_readable = zero_none (reply_rows s) refl (sym en ∙ z)

  pub checked_known : Known s
  checked_known = readable_known s checked_readable

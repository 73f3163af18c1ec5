-- Laws of accepted messages, those to which no row of 5 to 13 applies: what is known of one, what the check answers for it,
-- and that a Query has room and a Request a type 4 block.
use Prim.Native.Nat.{ℕ, zero, suc, ◌≤◌, ◌<◌}
use mathlib.Core.Path.{◌≡◌, refl, sym, ap, ◌∙◌}
use mathlib.Core.Bool.{true, false}
use mathlib.Core.List.{List, [], ◌∷◌}
use mathlib.Core.Logic.{◌⊎◌, inl, inr, ⊎_elim}
use native.Mathlib.Omega.{arith}
use borrow.Author.Tests.{le-ltb, eq-eqb, ne_eqb, ltb-false, eqb-true, eqb-false, not-true, not-false}
use lib.Dec.{ltb, eqb}
use lib.ListN.{length}
use Rattle.address.specs.Addresses.{unicast}
use Rattle.rows.proofs.Laws.{neither_of, both_of, one_of, none_is, number_kept, zero_none, applies_at, none_at}
use Rattle.header.specs.declared.Header.{Header}
use Rattle.header.specs.Format.{query, request}
use Rattle.header.specs.Header.{header_of, query_or_request, right_length, right_group, right_source, names_nothing, right_client}
use Rattle.message.specs.Blocks.{Placed, blocks_of, standard_places, standards, standard_count, fills_message, standard_first, request_form, right_form}
use Rattle.message.specs.Check.{drop_size, drop_blocks, message_rows}
use Rattle.header.specs.Rows.{drop_type, drop_header, drop_hops, drop_group, drop_source, drop_pair, drop_client, header_rows}
use Rattle.message.specs.Inside.{Checked, refused_message, accepted_message, check_of}
use Rattle.rows.specs.Rows.{NoneApplies, first_of}
use Rattle.message.proofs.Turns.{standard_more}
use Rattle.message.proofs.Append.{query_alone, request_formed}
use Rattle.format.specs.declared.Format.{Format}
use Rattle.format.specs.Sizes.{Sound, least_room}
use Rattle.message.specs.Room.{Full, HasRoom}

-- what the rows ask of a message
pub record Accepted (F : Format) (s : List ℕ) : Type 0 where
  pub low : F.header ≤ length s
  pub high : length s ≤ F.most
  pub kind : query_or_request (header_of s) ≡ true
  pub header : (header_of s).length ≡ F.header
  pub hops : 0 < (header_of s).hops
  pub group : right_group (header_of s) ≡ true
  pub source : right_source (header_of s) ≡ true
  pub pair : names_nothing (header_of s) ≡ false
  pub client : unicast (header_of s).client ≡ true
  pub port : 0 < (header_of s).port
  pub form : right_form F s ≡ true

positive : (n : ℕ) → (n ≡ 0 → ⊥) → 0 < n
positive zero h = absurd (h refl)
positive (suc n) h = omega arith

module _ {F : Format} (sound : Sound F) where
  -- a message to which no row applies is so
  pub none_applies : (s : List ℕ) → NoneApplies (message_rows F s) → Accepted F s
  unfolding message_rows header_rows
  none_applies s none =
      let h : Header = header_of s in
      let at : (n : ℕ) → applies_at n (message_rows F s) ≡ false = none_at (message_rows F s) none in
      let size = neither_of (ltb (length s) F.header) _ (at drop_size) in
      let client = both_of (unicast h.client) _ (not-false (right_client h) (at drop_client)) in
      record {
        low = ltb-false _ _ size.0;
        high = ltb-false _ _ size.1;
        kind = not-false (query_or_request h) (at drop_type);
        header = eqb-true _ _ (not-false (right_length F h) (at drop_header));
        hops = positive h.hops (eqb-false _ _ (at drop_hops));
        group = not-false (right_group h) (at drop_group);
        source = not-false (right_source h) (at drop_source);
        pair = at drop_pair;
        client = client.0;
        port = positive h.port (eqb-false _ _ (not-true (eqb h.port 0) client.1));
        form = not-false (right_form F s) (at drop_blocks);
      }

  -- and to one that is so none applies
  pub applies_none : (s : List ℕ) → Accepted F s → NoneApplies (message_rows F s)
  unfolding message_rows header_rows
  applies_none s a =
      let hops : (header_of s).hops ≡ 0 → ⊥ = λ e. omega (arith, a.hops) in
      let port : (header_of s).port ≡ 0 → ⊥ = λ e. omega (arith, a.port) in
      (rw (le-ltb _ _ a.low, le-ltb _ _ a.high), (rw a.kind, (rw (eq-eqb _ _ a.header), (ne_eqb _ _ hops, (rw a.group, (rw a.source, (a.pair, (rw (a.client, ne_eqb _ _ port), (rw a.form, tt)))))))))

  -- the check's answer: its number is that of the first row, and where it is 0 the header and the blocks are the message's
  module _ (s : List ℕ) (c : Checked) (answer : c ≡ check_of F s) where
    pub check-number : c.number ≡ first_of (message_rows F s)
    unfolding check_of accepted_message refused_message
    check-number =
        let number : Checked → ℕ = λ (x : Checked). x.number in
        ap number answer ∙ number_kept refused_message (accepted_message F s) number (message_rows F s) (λ n. refl) refl

    module _ (passes : c.number ≡ 0) where
      none : NoneApplies (message_rows F s)
      unfolding message_rows header_rows
      none = zero_none (message_rows F s) refl (sym check-number ∙ passes)

      pub check_accepts : Accepted F s
      check_accepts = none_applies s none

      -- what the check answers for it
      pub accepts_as : c ≡ accepted_message F s
      unfolding check_of
      accepts_as = answer ∙ none_is refused_message (accepted_message F s) (message_rows F s) none

  -- where the first block is of type 4 there is one of type 4
  first_counted : (blocks : List Placed) → standard_first blocks ≡ true → 0 < length (standard_places blocks)
  unfolding standard_first
  first_counted [] e = let z : ◌≡◌ {A = ℕ} 0 1 = cc in absurd (omega arith)
  first_counted (x ∷ blocks) e = rw (standard_more x blocks e) (omega arith)

  pub request_has_standard : (s : List ℕ) → request_form F s ≡ true → 0 < standard_count F s
  unfolding standards
  request_has_standard s e = first_counted (blocks_of F s) (both_of (fills_message F s) _ e).1

  module _ (s : List ℕ) (a : Accepted F s) where
    pub accepted_kinds : ((header_of s).kind ≡ query) ⊎ ((header_of s).kind ≡ request)
    accepted_kinds =
        ⊎_elim (λ e. inl (eqb-true _ _ e)) (λ e. inr (eqb-true _ _ e)) (one_of (eqb (header_of s).kind query) _ a.kind)

    -- an accepted Query is a header alone; an accepted Request has a type 4 block
    pub accepted_query : (header_of s).kind ≡ query → length s ≡ F.header
    unfolding header_of
    accepted_query k = query_alone sound s a.form k

    pub accepted_request : (header_of s).kind ≡ request → 0 < standard_count F s
    unfolding header_of
    accepted_request k = request_has_standard s (request_formed sound s a.form (λ q. omega arith))

    -- in any room that a link leaves: a Query always has room, so that whatever has none is a Request, and there is a type 4 block
    -- for 0x81
    module _ (room : ℕ) (link : least_room F ≤ room) where
      pub query_has_room : (header_of s).kind ≡ query → HasRoom F room s
      query_has_room k = omega (arith, accepted_query k, sound.room)

      pub no_room_has_standard : Full F room s → 0 < standard_count F s
      no_room_has_standard h = ⊎_elim (λ k. absurd (omega (arith, query_has_room k))) accepted_request accepted_kinds

-- The laws of the drop table that other crates cite: what is known of what no row applies to, and whatever is so is not dropped.
use Prim.Native.Nat.{ℕ, ◌≤◌, ◌<◌}
use mathlib.Core.Bool.{true, false, not, ◌&&◌, ◌||◌}
use mathlib.Core.List.{List, [], ◌∷◌, ◌++◌}
use mathlib.Core.Logic.{⊎_elim}
use mathlib.Core.Path.{◌≡◌, refl, sym, ap, ◌∙◌}
use native.Mathlib.Omega.{arith}
use lib.Dec.{leb, ltb, eqb}
use lib.ListN.{drop}
use borrow.Author.Tests.{le-ltb, lt-leb, ne_eqb, ltb-true, ltb-false, leb-false, not-false}
use Rattle.rows.specs.Rows.{Row, row, first_of, NoneApplies, IsFirst}
use Rattle.rows.proofs.Laws.{decided, neither_of, none_is, number_kept, given_by, none_by, some_first, zero_none, first_at_most, never_reached, applies_at, none_at, none_joined, none_split}
use Rattle.address.specs.Addresses.{link_scoped}
use Rattle.recent.specs.Layout.{well_formed}
use Rattle.recent.specs.Entries.{seen_in}
use Rattle.sheet.specs.Sheet.{valid_sheet, layout_of}
use Rattle.tables.specs.Tables.{holder_of}
use Rattle.header.specs.Format.{note_size}
use Rattle.header.specs.Header.{header_of}
use Rattle.message.specs.Blocks.{standard_count}
use Rattle.message.specs.Room.{is_full, hops_used}
use Rattle.header.specs.Rows.{header_rows}
use Rattle.message.specs.Check.{message_rows}
use Rattle.message.specs.Inside.{blocks_seen}
use Rattle.drops.specs.Inside.{Verdict, lent_rows, drop_verdict, pass_verdict, judged_of, verdict_of}
use Rattle.message.proofs.Laws.{Accepted, none_applies, applies_none, no_room_has_standard}
use Rattle.drops.specs.Arrival.{Arrival, is_query, is_request, last_hop_for}
use Rattle.drops.specs.Drop.{drop_room, drop_state, drop_sheet, drop_iface, drop_dest, drop_near, drop_count, drop_seen, drop_last_hop, last_drop, near_ttl, is_held, lending_rows, delivery_rows, route_rows, table, drop_of}
use Rattle.format.specs.declared.Format.{Format}
use Rattle.format.specs.Sizes.{Sound, output_size, least_room}

-- what no row of the drop table applies to
pub record Taken (F : Format) (a : Arrival) (sheet recent : List ℕ) (output note : ℕ) : Type 0 where
  pub output_room : output_size ≤ output
  pub note_room : note_size ≤ note
  pub recent_formed : well_formed recent ≡ true
  pub sheet_valid : valid_sheet F sheet ≡ true
  pub receives : a.receiving < (layout_of F sheet).interfaces
  pub message : Accepted F a.message
  pub reaches : (is_held (holder_of F sheet a.destination) || link_scoped a.destination) ≡ true
  pub near : (is_request (header_of a.message) && not (eqb a.ttl near_ttl)) ≡ false
  pub few : (is_request (header_of a.message) && leb (header_of a.message).hops (hops_used F a.message)) ≡ false
  pub unseen : (is_query (header_of a.message) && seen_in recent (header_of a.message).client (header_of a.message).id) ≡ false
  pub last_hop : (is_query (header_of a.message) && link_scoped a.destination && not (last_hop_for F sheet (header_of a.message))) ≡ false

-- where neither applies the recent list is well-formed
pub lent_formed : (output note : ℕ) (recent : List ℕ) → first_of (lent_rows output note recent) ≡ 0 → well_formed recent ≡ true
unfolding lending_rows
lent_formed output note recent none =
    not-false (well_formed recent) (none_at (lent_rows output note recent) (zero_none (lent_rows output note recent) refl none) drop_state)

module _ {F : Format} (sound : Sound F) where
  module _ (a : Arrival) (sheet recent : List ℕ) (output note : ℕ) where
    -- every number of the table is one of 1 to 18
    zero_passes : drop_of F a sheet recent output note ≡ 0 → NoneApplies (table F a sheet recent output note)
    unfolding table lending_rows message_rows header_rows delivery_rows route_rows
    zero_passes = zero_none (table F a sheet recent output note) refl

    pub drop_numbers : drop_of F a sheet recent output note ≤ last_drop
    unfolding table lending_rows message_rows header_rows delivery_rows route_rows
    drop_numbers = first_at_most (table F a sheet recent output note) last_drop refl

  module _ (a : Arrival) (sheet recent : List ℕ) (output note : ℕ) where
    -- the rows before and behind those on the message by itself
    abbrev before : List Row
    before = lending_rows output note recent (valid_sheet F sheet) (layout_of F sheet).interfaces a.receiving

    abbrev behind : List Row
    behind =
        let h = header_of a.message in
        delivery_rows F sheet recent h (hops_used F a.message) a.destination a.ttl
        ++ route_rows (last_hop_for F sheet h) h a.destination

    itself : NoneApplies (table F a sheet recent output note) → NoneApplies (message_rows F a.message)
    unfolding table
    itself none = (none_split (message_rows F a.message) behind (none_split before (message_rows F a.message ++ behind) none).1).0

    pub taken : NoneApplies (table F a sheet recent output note) → Taken F a sheet recent output note
    unfolding table lending_rows message_rows header_rows delivery_rows route_rows
    taken none =
        let at : (n : ℕ) → applies_at n (table F a sheet recent output note) ≡ false = none_at (table F a sheet recent output note) none in
        let room = neither_of (ltb output output_size) _ (at drop_room) in
        record {
          output_room = ltb-false _ _ room.0;
          note_room = ltb-false _ _ room.1;
          recent_formed = not-false (well_formed recent) (at drop_state);
          sheet_valid = not-false (valid_sheet F sheet) (at drop_sheet);
          receives = leb-false _ _ (at drop_iface);
          message = none_applies sound a.message (itself none);
          reaches = not-false (is_held (holder_of F sheet a.destination) || link_scoped a.destination) (at drop_dest);
          near = at drop_near;
          few = at drop_count;
          unseen = at drop_seen;
          last_hop = at drop_last_hop;
        }

    -- document 01 has one row more, for a message with no room to append and no type 4 block: here of any number, and in any room
    abbrev no_previous : ℕ → ℕ → Row
    no_previous number room = row number (is_full F room a.message && eqb (standard_count F a.message) 0)

    has_previous : (number room : ℕ) → least_room F ≤ room → Accepted F a.message → (no_previous number room).applies ≡ false
    has_previous number room link accepts =
        let m = a.message in
        ⊎_elim (λ e. rw (e, ne_eqb (standard_count F m) 0 (λ z. omega (arith, no_room_has_standard sound m accepts room link (ltb-true _ _ e))))) (λ e. rw e)
        (decided (is_full F room m))

    -- no input meets it in a room that a link leaves: behind the table it would change no answer
    pub no_previous_idle : (number room : ℕ) → least_room F ≤ room
        → first_of (table F a sheet recent output note ++ (no_previous number room ∷ [])) ≡ drop_of F a sheet recent output note
    no_previous_idle number room link =
        never_reached (table F a sheet recent output note) (no_previous number room) (λ none. has_previous number room link (taken none).message)

    pub not_dropped : Taken F a sheet recent output note → NoneApplies (table F a sheet recent output note)
    unfolding table lending_rows delivery_rows route_rows
    not_dropped t =
        let first : NoneApplies before =
        (rw (le-ltb _ _ t.output_room, le-ltb _ _ t.note_room), (rw t.recent_formed, (rw t.sheet_valid, (lt-leb _ _ t.receives, tt)))) in
        let last : NoneApplies behind = (rw t.reaches, (t.near, (t.few, (t.unseen, (t.last_hop, tt))))) in
        none_joined before (message_rows F a.message ++ behind) first
        (none_joined (message_rows F a.message) behind (applies_none sound a.message t.message) last)

  -- rows 1 and 2 stand before the others: where one applies it is the first, and where none does the others decide
  module _ (a : Arrival) (sheet recent : List ℕ) (output note n : ℕ) (told : n ≡ first_of (lent_rows output note recent)) where
    abbrev others : List Row
    others = drop 2 (table F a sheet recent output_size note_size)

    pub lent_first : (n ≡ 0 → ⊥) → IsFirst (table F a sheet recent output note) n
    unfolding table lending_rows
    lent_first some =
        let is : first_of (table F a sheet recent output note) ≡ n = given_by (λ k. k) 0 (lent_rows output note recent) others n told some in
        rw is at (some_first (table F a sheet recent output note) (λ z. some (sym is ∙ z)))

    pub lent_none : n ≡ 0 → verdict_of F a sheet recent output note ≡ judged_of F a sheet recent
    unfolding verdict_of judged_of table lending_rows
    lent_none none =
        none_by drop_verdict (pass_verdict F (header_of a.message) (blocks_seen F a.message) sheet) (lent_rows output note recent) others n told refl none

  -- the verdict: its number is that of the first row that applies; where it is 0 none does, and it is what was found out
  module _ (a : Arrival) (sheet recent : List ℕ) (output note : ℕ) (v : Verdict) (told : v ≡ verdict_of F a sheet recent output note) where
    abbrev pass : Verdict
    pass = pass_verdict F (header_of a.message) (blocks_seen F a.message) sheet

    abbrev rows : List Row
    rows = table F a sheet recent output note

    number_is : v.number ≡ first_of rows
    unfolding verdict_of drop_verdict pass_verdict
    number_is =
        let number : Verdict → ℕ = λ (x : Verdict). x.number in
        ap number told ∙ number_kept drop_verdict pass number rows (λ n. refl) refl

    pub verdict_first : (v.number ≡ 0 → ⊥) → IsFirst rows v.number
    verdict_first some = rw number_is (some_first rows (λ z. some (number_is ∙ z)))

    module _ (passes : v.number ≡ 0) where
      pub verdict_none : NoneApplies rows
      verdict_none = zero_passes a sheet recent output note (sym number_is ∙ passes)

      pub verdict_passes : v ≡ pass
      unfolding verdict_of
      verdict_passes = told ∙ none_is drop_verdict pass rows verdict_none

-- A law for each way out of a function: what its tests showed and what its callees answered, and the definition's answer.
use Prim.Native.Nat.{ℕ}
use mathlib.Core.Bool.{Bool, true, false, not, ◌&&◌, ◌||◌}
use mathlib.Core.List.{List, ◌++◌}
use mathlib.Core.Path.{◌≡◌, refl, sym, ap, ◌∙◌}
use lib.Dec.{eqb}
use borrow.Author.Tests.{le-leb, lt-leb}
use Rattle.address.specs.Addresses.{link_scoped}
use Rattle.sheet.specs.declared.Layout.{Layout}
use Rattle.sheet.specs.Sheet.{valid_sheet, layout_of, told_of}
use Rattle.tables.specs.Tables.{interface_of, routes_of, holder_of}
use Rattle.route.specs.Choice.{which_route}
use Rattle.last_hop.specs.LastHop.{proper_last_hop}
use Rattle.header.specs.declared.Header.{Header}
use Rattle.message.specs.declared.Blocks.{Blocks}
use Rattle.header.specs.Header.{header_of}
use Rattle.message.specs.Blocks.{standard_count}
use Rattle.header.specs.Rows.{header_rows}
use Rattle.message.specs.Check.{message_rows}
use Rattle.message.specs.Inside.{Checked, refused_message, accepted_message, check_of, blocks_seen}
use Rattle.message.proofs.Laws.{check-number, accepts_as}
use native.Mathlib.Omega.{arith}
use Rattle.refusal.specs.declared.Refusal.{Refusal}
use Rattle.refusal.specs.Refusal.{number}
use Rattle.refusal.proofs.Laws.{number_positive}
use Rattle.sheet.proofs.Laws.{told_some, told_none}
use Rattle.drops.specs.Arrival.{arrival, is_query, route_for, last_hop_for}
use Rattle.rows.specs.Rows.{Row, by_first, first_of}
use Rattle.rows.proofs.Laws.{given_alone, none_alone, given_by, none_by}
use Rattle.header.specs.Format.{query}
use Rattle.drops.specs.Drop.{drop_sheet, drop_iface, drop_last_hop, is_held, lending_rows, delivery_rows, route_rows, table}
use Rattle.drops.specs.Inside.{Verdict, sheet_rows, drop_verdict, pass_verdict, routed_of, judged_of}
use Rattle.format.specs.declared.Format.{Format}
use Rattle.format.specs.Sizes.{Sound}
use Rattle.std.specs.Prelude.{◌≤◌, ◌<◌, Option, Some, None, is_some}
use Rattle.route_entry.specs.declared.Route.{Route}

-- a refusal's number is not 0
some : {n : ℕ} (e : Refusal) → n ≡ number e → n ≡ 0 → ⊥
some e p z = absurd (omega (arith, number_positive e, p, z))

-- row 18
module _ (proper : Bool) (h : Header) (destination : ℕ) (x : Bool) (told : x ≡ link_scoped destination) where
  pub row_18 : (eqb h.kind query && x && not proper) ≡ true → drop_last_hop ≡ first_of (route_rows proper h destination)
  unfolding route_rows by_first
  row_18 e = rw (← told, e)

  pub row_none : (eqb h.kind query && x && not proper) ≡ false → 0 ≡ first_of (route_rows proper h destination)
  unfolding route_rows by_first
  row_none e = rw (← told, e)

-- row 18 asks of Queries alone
asked_flag : (query scoped proper : Bool) → (query && scoped && not (query && proper)) ≡ (query && scoped && not proper)
asked_flag true scoped proper = refl
asked_flag false scoped proper = refl

asked : (proper : Bool) (h : Header) (destination : ℕ) → first_of (route_rows (is_query h && proper) h destination) ≡ first_of (route_rows proper h destination)
unfolding route_rows
asked proper h destination = rw (asked_flag (is_query h) (link_scoped destination) proper)

by_holder : (found : Option ℕ) → is_some found ≡ is_held found
by_holder (Some i) = refl
by_holder None = refl

module _ {F : Format} (sound : Sound F) where
  -- an interface holds the address, or none does
  pub held_or_scoped : (s : List ℕ) (address : ℕ) (found : Option ℕ) (scoped : Bool) → found ≡ holder_of F s address → scoped ≡ link_scoped address
      → (is_some found || scoped) ≡ (is_held (holder_of F s address) || link_scoped address)
  held_or_scoped s address found scoped e f = rw (e, f) (ap (λ (b : Bool). b || link_scoped address) (by_holder (holder_of F s address)))

  -- the layout that the check told
  pub layout_told : (s : List ℕ) (o : Option Layout) (l : Layout) → o ≡ told_of F s → o ≡ Some l → l ≡ layout_of F s
  layout_told s o l e q = (told_some F s l (sym e ∙ q)).1

  -- rows 14 to 18
  module _ (h : Header) (b : Blocks) (destination ttl : ℕ) (s r : List ℕ) (n : ℕ)
      (delivery : n ≡ first_of (delivery_rows F s r h b.count destination ttl)) where
    abbrev came : List Row
    came = delivery_rows F s r h b.count destination ttl

    abbrev late : List Row
    late = route_rows (last_hop_for F s h) h destination

    pub routed_dropped : (e : Refusal) → n ≡ number e → drop_verdict (number e) ≡ routed_of F h b destination ttl s r
    unfolding routed_of
    routed_dropped e p = ap drop_verdict (sym p) ∙ sym (given_by drop_verdict (pass_verdict F h b s) came late n delivery (some e p))

    module _ (none : n ≡ 0) (c : Option Route) (chosen : c ≡ which_route (routes_of F s) h.source h.group) (p : Bool)
        (hop : p ≡ (is_query h && proper_last_hop (interface_of F s) (layout_of F s).interfaces c h.client)) (k : ℕ)
        (row : k ≡ first_of (route_rows p h destination)) where
      is_route : c ≡ route_for F s h
      unfolding route_for
      is_route = chosen

      is_hop : p ≡ (is_query h && last_hop_for F s h)
      unfolding last_hop_for
      is_hop = hop ∙ ap (λ (w : Option Route). is_query h && proper_last_hop (interface_of F s) (layout_of F s).interfaces w h.client) is_route

      late_row : k ≡ first_of late
      late_row =
          row ∙ ap (λ (x : Bool). first_of (route_rows x h destination)) is_hop ∙ asked (last_hop_for F s h) h destination

      not_delivery : routed_of F h b destination ttl s r ≡ by_first drop_verdict (pass_verdict F h b s) late
      unfolding routed_of delivery_rows
      not_delivery = none_by drop_verdict (pass_verdict F h b s) came late n delivery refl none

      pub routed_late : (e : Refusal) → k ≡ number e → drop_verdict (number e) ≡ routed_of F h b destination ttl s r
      routed_late e q = ap drop_verdict (sym q) ∙ sym (not_delivery ∙ given_alone drop_verdict (pass_verdict F h b s) late k late_row (some e q))

      pub routed_taken : k ≡ 0 → record { number = 0; header = h; blocks = b; chosen = c; proper = p } ≡ routed_of F h b destination ttl s r
      unfolding pass_verdict route_rows
      routed_taken z = rw (is_hop, is_route) (sym (not_delivery ∙ none_alone drop_verdict (pass_verdict F h b s) late k late_row refl z))

  -- rows 3 to 18
  module _ (m : List ℕ) (destination receiving ttl : ℕ) (s r : List ℕ) where
    abbrev verdict : Verdict
    verdict = judged_of F (arrival m destination receiving ttl) s r

    abbrev pass : Verdict
    pass = pass_verdict F (header_of m) (blocks_seen F m) s

    abbrev first : List Row
    first = sheet_rows (valid_sheet F s) (layout_of F s).interfaces receiving

    -- from row 14 on
    abbrev last : List Row
    last =
        delivery_rows F s r (header_of m) (standard_count F m) destination ttl
        ++ route_rows (last_hop_for F s (header_of m)) (header_of m) destination

    pub judged_sheet : told_of F s ≡ None → drop_verdict drop_sheet ≡ verdict
    unfolding judged_of table lending_rows by_first
    judged_sheet none = rw (told_none F s none)

    module _ (l : Layout) (layout : told_of F s ≡ Some l) where
      abbrev valid : valid_sheet F s ≡ true
      valid = (told_some F s l layout).0

      abbrev counts : l ≡ layout_of F s
      counts = (told_some F s l layout).1

      pub judged_iface : l.interfaces ≤ receiving → drop_verdict drop_iface ≡ verdict
      unfolding judged_of table lending_rows by_first
      judged_iface far = rw (valid, ← counts, le-leb _ _ far)

      module _ (near : receiving < l.interfaces) (k : Checked) (checked : k ≡ check_of F m) where
        not_sheet : verdict ≡ by_first drop_verdict pass (message_rows F m ++ last)
        unfolding judged_of table lending_rows by_first
        not_sheet = rw (valid, ← counts, lt-leb _ _ near)

        pub judged_message : (e : Refusal) → k ≡ refused_message (number e) → drop_verdict (number e) ≡ verdict
        unfolding refused_message
        judged_message e p =
            let is : k.number ≡ number e = ap (λ (x : Checked). x.number) p in
            ap drop_verdict (sym is)
            ∙ sym (not_sheet ∙ given_by drop_verdict pass (message_rows F m) last k.number (check-number sound m k checked) (some e is))

        pub judged_routed : (v : Verdict) → k.number ≡ 0 → v ≡ routed_of F k.header k.blocks destination ttl s r → v ≡ verdict
        unfolding routed_of blocks_seen message_rows header_rows accepted_message
        judged_routed v z e =
            let as_is = accepts_as sound m k checked z in
            let header : k.header ≡ header_of m = ap (λ (x : Checked). x.header) as_is in
            let blocks : k.blocks ≡ blocks_seen F m = ap (λ (x : Checked). x.blocks) as_is in
            e
            ∙ rw (header, blocks) (sym (not_sheet ∙ none_by drop_verdict pass (message_rows F m) last k.number (check-number sound m k checked) refl z))

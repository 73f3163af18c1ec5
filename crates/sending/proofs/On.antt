-- Laws of a Request sent on: it has one type 4 block more than what was received and the same header but for the type, so that
-- the hops not yet used fall by one; it goes to a unicast address or to 224.0.0.2; and the router that it reaches does not drop it.
use Prim.Native.Nat.{ℕ, suc, ◌+◌, ◌≤◌, ◌<◌}
use mathlib.Core.Bool.{Bool, true, false, ◌||◌}
use mathlib.Core.List.{List}
use mathlib.Core.Logic.{◌⊎◌, inl, inr, ⊎_elim}
use mathlib.Core.Path.{◌≡◌, refl}
use native.Mathlib.Omega.{arith}
use native.Mathlib.Nat.{eq-or-lt_of_le}
use borrow.Author.Tests.{lt-leb, leb-false, ne_eqb, eq-eqb, eqb-false}
use lib.Dec.{leb, eqb, lit≤}
use lib.ListN.{length}
use Rattle.address.specs.Addresses.{unicast, all_ones}
use Rattle.rows.proofs.Laws.{decided, neither_of}
use Rattle.recent.specs.Entries.{empty}
use Rattle.recent.proofs.Laws.{empty-well_formed}
use Rattle.route_entry.specs.Route.{unknown, is_rp}
use Rattle.route_entry.specs.declared.Route.{Route}
use Rattle.tables.specs.Tables.{interface_of, routes_of, holder_of}
use Rattle.sheet.proofs.Laws.{interface_valid}
use Rattle.tables.proofs.Laws.{holder_there}
use Rattle.route.specs.Choice.{which_route}
use Rattle.route.proofs.Laws.{chosen_kept}
use Rattle.forwarding.specs.declared.View.{View}
use Rattle.response.specs.Fill.{all_routers, upstream_of, block_of, ends_trace}
use Rattle.written.specs.Bytes.{block_bytes}
use Rattle.header.specs.Format.{query, request, note_size}
use Rattle.header.specs.Header.{header_of, retyped}
use Rattle.message.specs.Blocks.{standard_count}
use Rattle.message.proofs.Laws.{standards_few, Accepted, accepted_kinds, accepted_query, sent-header, sent-count, sent_accepted}
use Rattle.drops.specs.Arrival.{Arrival, arrival, route_for}
use Rattle.drops.specs.Drop.{near_ttl, table}
use Rattle.view.specs.View.{incoming_for, view_with, view_of}
use Rattle.sending.specs.Answer.{Sent, sent_on, goes_on, note_on, longer_message, sent_by}
use Rattle.rows.specs.Rows.{NoneApplies}
use Rattle.message.specs.Room.{HasRoom, hops_used, hops_left}
use Rattle.drops.proofs.Laws.{Taken, not_dropped}
use Rattle.sending.proofs.Sent.{sent_cases, longer_as, longer-length, room_most}
use Rattle.format.specs.declared.Format.{Format}
use Rattle.format.specs.Sizes.{Sound, output_size, ip_and_udp}
use Rattle.written.specs.Inside.{Writes}
use Rattle.view.specs.Room.{room_with, room_for}
use Rattle.std.specs.Prelude.{Option, Some, None}
use Rattle.interface.specs.declared.Interface.{Interface}

-- a Request sent on, from what was received
pub record Grown (F : Format) (a : Arrival) (time : ℕ) (sheet : List ℕ) (s : Sent) : Type 0 where
  pub room : HasRoom F (room_for F a sheet) a.message
  pub message : s.message ≡ longer_message request a.message (block_of (view_of F a time sheet))
  pub long : length s.message ≡ length a.message + F.block
  pub header : header_of s.message ≡ retyped request (header_of a.message)
  pub few : hops_used F s.message < (header_of s.message).hops
  pub falls : hops_left F a.message ≡ suc (hops_left F s.message)
  pub accepts : Accepted F s.message
  pub goes : (unicast s.note.destination ≡ true) ⊎ (s.note.destination ≡ all_routers)

-- where the trace goes on there is a route, its upstream is not 0, and the type 4 blocks are not as many as the hops
record Onward (v : View) (blocks hops : ℕ) : Type 0 where
  route : Route
  chosen : v.chosen ≡ Some route
  upstream : route.upstream ≡ 0 → ⊥
  fewer : blocks ≡ hops → ⊥

onward : (v : View) (blocks hops : ℕ) → ends_trace v blocks hops ≡ false → Onward v blocks hops
unfolding ends_trace
onward v blocks hops e = by_choice v.chosen refl where
  by_choice : (w : Option Route) → v.chosen ≡ w → Onward v blocks hops
  by_choice None q = let t : ◌≡◌ {A = Bool} true false = rw q at e in let z : ◌≡◌ {A = ℕ} 0 1 = cc in absurd (omega arith)
  by_choice (Some r) q =
      let p = neither_of (v.prohibited || is_rp r || eqb r.upstream 0) (eqb blocks hops) (rw q at e) in
      let u = neither_of (v.prohibited || is_rp r) (eqb r.upstream 0) p.0 in
      record { route = r; chosen = q; upstream = eqb-false r.upstream 0 u.1; fewer = eqb-false blocks hops p.1 }

-- the record gives the length of what is sent
noted_on : (c : Option Route) (i : Option Interface) (n : ℕ) → (note_on c i n).length ≡ n
noted_on None i n = refl
noted_on (Some r) i n = refl

pub sent_noted : (F : Format) (a : Arrival) (time : ℕ) (sheet : List ℕ) → (sent_by F a time sheet).note.length ≡ length (sent_by F a time sheet).message
sent_noted F a time sheet =
    let v = view_of F a time sheet in
    sent_cases F a time sheet (λ (s : Sent). s.note.length ≡ length s.message) (λ h. refl) (λ h e. refl)
    (λ h e. noted_on v.chosen v.incoming (length (longer_message request a.message (block_of v))))

module _ {F : Format} (sound : Sound F) where
  -- the type 4 blocks of an accepted message stay below its hops
  pub blocks_below_hops : (a : Arrival) (sheet recent : List ℕ) (output note : ℕ) → Taken F a sheet recent output note
      → hops_used F a.message < (header_of a.message).hops
  blocks_below_hops a sheet recent output note t =
      let m = a.message in
      let h = header_of m in
      ⊎_elim
      (λ q. omega (arith, standards_few sound m t.message.low, accepted_query sound m t.message q, t.message.hops))
      (λ q.
      let asked : leb h.hops (standard_count F m) ≡ false = rw (eq-eqb h.kind request q) at t.few in
      leb-false h.hops (standard_count F m) asked)
      (accepted_kinds sound m t.message)

  -- it goes upstream: to a unicast address, or to 224.0.0.2
  goes_upstream : (sheet : List ℕ) (source group : ℕ) (r : Route) → which_route (routes_of F sheet) source group ≡ Some r → (r.upstream ≡ 0 → ⊥)
      → (unicast (upstream_of r) ≡ true) ⊎ (upstream_of r ≡ all_routers)
  goes_upstream sheet source group r chosen some =
      ⊎_elim (λ e. absurd (some e))
      (λ known.
      ⊎_elim (λ e. inr (rw e))
      (λ e. inl (rw e (⊎_elim (λ u. u) (λ ones. let z : ◌≡◌ {A = ℕ} 0 1 = cc in absurd (omega arith)) known.1)))
      (decided (all_ones r.upstream)))
      (chosen_kept sound sheet source group r chosen).upstream

  module _ (writes : Writes F) (a : Arrival) (time : ℕ) (sheet recent : List ℕ) (output note : ℕ) (t : Taken F a sheet recent output note) where
    grown : HasRoom F (room_for F a sheet) a.message
        → ends_trace (view_of F a time sheet) (hops_used F a.message + 1) (header_of a.message).hops ≡ false
        → Grown F a time sheet (goes_on (view_of F a time sheet) (longer_message request a.message (block_of (view_of F a time sheet))))
    unfolding view_with route_for
    grown room e =
        let m = a.message in
        let h = header_of m in
        let v = view_of F a time sheet in
        let b = block_of v in
        let o = onward v (hops_used F m + 1) h.hops e in
        let as_sent = longer_as request m b (omega (arith, t.message.low)) in
        let header : header_of (longer_message request m b) ≡ retyped request h =
        rw as_sent (sent-header sound m t.message (block_bytes b) (writes.standard b) request) in
        let count : standard_count F (longer_message request m b) ≡ standard_count F m + 1 =
        rw as_sent (sent-count sound m t.message (block_bytes b) (writes.standard b) request) in
        let below = blocks_below_hops a sheet recent output note t in
        let few : standard_count F m + 1 < h.hops =
        ⊎_elim (λ q. absurd (o.fewer q)) (λ l. l) (eq-or-lt_of_le {n = standard_count F m + 1} {m = h.hops} (omega arith)) in
        record {
          room = room;
          message = refl;
          long = longer-length writes request m b;
          header = header;
          few = rw (count, header) few;
          falls = rw (count, header) (omega arith);
          accepts = rw as_sent (sent_accepted sound m t.message (block_bytes b) (writes.standard b) (omega (arith, room_most F a sheet)));
          goes = rw o.chosen (goes_upstream sheet h.source h.group o.route o.chosen o.upstream);
        }

    -- what is sent on has grown by this router's block
    pub sent_on_grows : (sent_by F a time sheet).answer ≡ sent_on → Grown F a time sheet (sent_by F a time sheet)
    sent_on_grows =
        sent_cases F a time sheet (λ (s : Sent). s.answer ≡ sent_on → Grown F a time sheet s)
        (λ h e. absurd (omega arith)) (λ h e f. absurd (omega arith)) (λ h e f. grown h e)

    -- the link on which it goes is the one whose room was asked for: with the IP and UDP headers it does not pass that MTU
    fits : (r : Route) → route_for F sheet (header_of a.message) ≡ Some r → (r.upstream ≡ 0 → ⊥) → HasRoom F (room_for F a sheet) a.message
        → length a.message + F.block + ip_and_udp ≤ (interface_of F sheet r.incoming).mtu
    unfolding route_for room_with incoming_for
    fits r chosen some room =
        let h = header_of a.message in
        ⊎_elim (λ e. absurd (some e))
        (λ known. let m = rw (chosen, ne_eqb r.incoming unknown known.0) at room in omega (arith, t.message.low))
        (chosen_kept sound sheet h.source h.group r chosen).upstream

    pub sent_on_fits : (sent_by F a time sheet).answer ≡ sent_on
        → length (sent_by F a time sheet).message + ip_and_udp ≤ (interface_of F sheet (sent_by F a time sheet).note.interface).mtu
    unfolding view_with
    sent_on_fits =
        let m = a.message in
        let v = view_of F a time sheet in
        sent_cases F a time sheet (λ (s : Sent). s.answer ≡ sent_on → length s.message + ip_and_udp ≤ (interface_of F sheet s.note.interface).mtu)
        (λ h e. absurd (omega arith)) (λ h e f. absurd (omega arith))
        (λ room e f.
        let o = onward v (hops_used F m + 1) (header_of m).hops e in
        rw (longer-length writes request m (block_of v), o.chosen) (fits o.route o.chosen o.upstream room))

    -- whatever is sent goes to a unicast address, or to 224.0.0.2
    pub sent-to : (unicast (sent_by F a time sheet).note.destination ≡ true) ⊎ ((sent_by F a time sheet).note.destination ≡ all_routers)
    sent-to =
        sent_cases F a time sheet (λ (s : Sent). (unicast s.note.destination ≡ true) ⊎ (s.note.destination ≡ all_routers))
        (λ h. inl t.message.client) (λ h e. inl t.message.client) (λ h e. (grown h e).goes)

  -- a Request with fewer blocks than hops, delivered with TTL 255 to the interface that holds its destination, is not dropped
  pub no_later_drop : (m : List ℕ) (destination i : ℕ) (sheet : List ℕ) → Accepted F m → (header_of m).kind ≡ request → standard_count F m < (header_of m).hops
      → holder_of F sheet destination ≡ Some i → NoneApplies (table F (arrival m destination i near_ttl) sheet empty output_size note_size)
  no_later_drop m destination i sheet accepts is-request few held =
      let there = holder_there F sheet destination i held in
      let asked : eqb (header_of m).kind request ≡ true = eq-eqb _ _ is-request in
      let no_query : eqb (header_of m).kind query ≡ false = ne_eqb (header_of m).kind query (λ e. omega arith) in
      not_dropped sound (arrival m destination i near_ttl) sheet empty output_size note_size
      (record {
        output_room = lit≤ tt;
        note_room = lit≤ tt;
        recent_formed = empty-well_formed;
        sheet_valid = interface_valid F sheet i there;
        receives = there;
        message = accepts;
        reaches = rw held;
        near = rw asked;
        few = rw (asked, lt-leb _ _ few);
        unseen = rw no_query;
        last_hop = rw no_query;
      })

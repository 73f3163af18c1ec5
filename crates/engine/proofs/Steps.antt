-- From the verdict to the answer: what an accepted message brings, and the outcome of each way through the step.
use Prim.Native.Nat.{ℕ, ◌+◌, ◌≤◌, ◌<◌}
use mathlib.Core.Bool.{Bool, true, false, ◌&&◌}
use mathlib.Core.List.{List}
use mathlib.Core.Logic.{⊎_elim}
use mathlib.Core.Path.{◌≡◌, refl, sym, ap, ◌∙◌}
use native.Mathlib.Omega.{arith}
use lib.Dec.{ltb, eqb}
use lib.ListN.{length}
use borrow.Author.Tests.{eqb-false, ltb-true, ltb-false}
use Rattle.interface.specs.declared.Interface.{Interface}
use Rattle.recent.specs.Inside.{Formed}
use Rattle.recent.proofs.Laws.{formed}
use Rattle.sheet.specs.Sheet.{layout_of}
use Rattle.tables.specs.Tables.{interface_of, prohibited_of}
use Rattle.interface.proofs.Laws.{mtu_least}
use Rattle.sheet.proofs.Laws.{interface_few}
use Rattle.tables.proofs.Laws.{interface_keeps}
use Rattle.route.proofs.Laws.{chosen_kept}
use Rattle.route_entry.specs.Route.{unknown}
use Rattle.rows.proofs.Laws.{cond_cases}
use Rattle.forwarding.specs.declared.View.{View}
use Rattle.header.specs.declared.Header.{Header}
use Rattle.header.specs.Header.{header_of}
use Rattle.message.specs.Blocks.{standard_count, last_standard}
use Rattle.message.specs.Inside.{blocks_seen}
use Rattle.message.proofs.Laws.{no_room_has_standard, last_high, standards_few}
use Rattle.refusal.specs.declared.Refusal.{Refusal}
use Rattle.refusal.specs.Refusal.{number}
use Rattle.refusal.proofs.Laws.{number_positive}
use Rattle.rows.specs.Rows.{first_of}
use Rattle.drops.specs.Arrival.{Arrival, arrival, is_query, route_for, last_hop_for}
use Rattle.drops.specs.Inside.{Verdict, drop_verdict, lent_rows, pass_verdict, judged_of, verdict_of}
use Rattle.view.specs.View.{incoming_for, view_with}
use Rattle.sending.specs.Answer.{goes_home, full_message, longer_answer, sent_by}
use Rattle.engine.specs.Step.{outcome, recent_after, StepMeets}
use Rattle.view.specs.Inside.{RouteThere}
use Rattle.sending.specs.Inside.{Written, WithRoom, WithoutRoom}
use Rattle.engine.specs.Inside.{Ready, answered}
use Rattle.message.specs.Room.{is_full, Full, HasRoom}
use Rattle.forwarding.specs.Code.{codes}
use Rattle.response.specs.Fill.{block_of, ends_trace}
use Rattle.response.specs.Inside.{RouteFits}
use Rattle.engine.proofs.Taking.{drop_changes_nothing, taken_is_sent}
use Rattle.drops.proofs.Laws.{Taken, taken, lent_first, lent_none, lent_formed, verdict_first, verdict_none, verdict_passes}
use Rattle.format.specs.declared.Format.{Format}
use Rattle.format.specs.Sizes.{Sound, room_of, least_room}
use Rattle.view.specs.Room.{link_of, room_with, room_for}
use Rattle.std.specs.Prelude.{Option, Some, None}
use Rattle.route_entry.specs.declared.Route.{Route}

-- a refusal's number is not 0
some_number : (e : Refusal) → number e ≡ 0 → ⊥
some_number e z = absurd (omega (arith, number_positive e, z))

module _ {F : Format} (sound : Sound F) where
  -- the test for room, by the MTU of the link in view
  module _ (m : List ℕ) (receiving time : ℕ) (v : Verdict) (s : List ℕ) (view : View) (viewed : view ≡ view_with F s v.header v.chosen v.proper receiving time)
      (mtu : ℕ) (link : mtu ≡ (link_of view.incoming view.here).mtu) (x : Bool) (told : x ≡ ltb (room_of F mtu) (length m + F.block)) where
    abbrev room : ℕ
    room = room_with F s v.chosen receiving

    tested : x ≡ is_full F room m
    unfolding room_with view_with
    tested = told ∙ rw (link, viewed)

    pub no_room : x ≡ true → Full F room m
    no_room e = ltb-true room (length m + F.block) (sym tested ∙ e)

    pub has_room : x ≡ false → HasRoom F room m
    has_room e = ltb-false room (length m + F.block) (sym tested ∙ e)

    -- the outcome of what is written, as a message without room and as one with room
    module _ (r o n r1 o1 n1 : List ℕ) (answer : ℕ) (entered : r1 ≡ recent_after v.header r) where
      pub answered_full : x ≡ true → Written (goes_home v.header view.here.address (full_message F m)) o n answer o1 n1
          → outcome answer r1 o1 n1 ≡ answered F m receiving time v s r o n
      unfolding answered view_with
      answered_full e w = rw (← tested, e, w.says, w.sends, w.notes, entered, viewed)

      pub answered_longer : x ≡ false → Written (longer_answer F m view) o n answer o1 n1 → outcome answer r1 o1 n1 ≡ answered F m receiving time v s r o n
      unfolding answered
      answered_longer e w = rw (← tested, e, ← viewed, w.says, w.sends, w.notes, entered)

  -- what an accepted message brings to each of the two
  module _ (m : List ℕ) (receiving : ℕ) (v : Verdict) (s r : List ℕ) (o n : ℕ) (ready : Ready F m receiving v s r o n) where
    header_is : v.header ≡ header_of m
    unfolding pass_verdict
    header_is = ap (λ (x : Verdict). x.header) ready.verdict

    count_is : v.blocks.count ≡ standard_count F m
    unfolding pass_verdict blocks_seen
    count_is = ap (λ (x : Verdict). x.blocks.count) ready.verdict

    last_is : v.blocks.last ≡ last_standard F m
    unfolding pass_verdict blocks_seen
    last_is = ap (λ (x : Verdict). x.blocks.last) ready.verdict

    module _ (time : ℕ) (view : View) (viewed : view ≡ view_with F s v.header v.chosen v.proper receiving time) (mtu : ℕ)
        (link : mtu ≡ (link_of view.incoming view.here).mtu) (x : Bool) (told : x ≡ ltb (room_of F mtu) (length m + F.block)) where
      pub full_ready : x ≡ true → WithoutRoom F m v.header v.blocks.last o n
      full_ready e =
          record {
            header = header_is;
            last_is = last_is;
            block = rw last_is (ready.last (no_room m receiving time v s view viewed mtu link x told e));
            most_long = omega (arith, ready.high);
            output_room = ready.output_room;
            note_room = ready.note_room;
          }

      pub roomy_ready : x ≡ false → WithRoom F m v.header v.blocks.count view o n
      unfolding view_with room_with
      roomy_ready e =
          record {
            header = header_is;
            count = count_is;
            some = omega (arith, ready.low);
            room = omega (arith, has_room m receiving time v s view viewed mtu link x told e);
            few = omega (arith, standards_few sound m ready.low, ready.high, count_is);
            number = rw viewed (interface_few F s receiving ready.receives);
            fits = rw viewed ready.fits;
            output_room = ready.output_room;
            note_room = ready.note_room;
          }

  -- the route for a message names an interface of the sheet, and its length fits
  module _ (s : List ℕ) (h : Header) where
    route_there : (w : Option Route) → route_for F s h ≡ w → RouteThere (layout_of F s).interfaces w
    unfolding route_for
    route_there None e = tt
    route_there (Some r) e =
        λ other. ⊎_elim (λ p. p) (λ q. absurd (other q)) (chosen_kept sound s h.source h.group r e).incoming

    route_fits : (w : Option Route) → route_for F s h ≡ w → RouteFits w
    unfolding route_for
    route_fits None e = tt
    route_fits (Some r) e = (chosen_kept sound s h.source h.group r e).short

  -- every link of a valid sheet has the least MTU or more, and so the least room
  module _ (s : List ℕ) (receiving : ℕ) (receives : receiving < (layout_of F s).interfaces) where
    mtu_kept : (i : ℕ) → i < (layout_of F s).interfaces → F.mtu ≤ (interface_of F s i).mtu
    mtu_kept i there = mtu_least F (interface_of F s i) (interface_keeps sound s i there)

    link_least : (chosen : Option Route) → RouteThere (layout_of F s).interfaces chosen
        → F.mtu ≤ (link_of (incoming_for F s chosen) (interface_of F s receiving)).mtu
    unfolding incoming_for
    link_least None there = mtu_kept receiving receives
    link_least (Some r) there =
        cond_cases (λ (i : Option Interface). F.mtu ≤ (link_of i (interface_of F s receiving)).mtu) (eqb r.incoming unknown) None (Some (interface_of F s r.incoming))
        (λ e. mtu_kept receiving receives)
        (λ e. mtu_kept r.incoming (there (eqb-false r.incoming unknown e)))

    room-least : (chosen : Option Route) → RouteThere (layout_of F s).interfaces chosen → least_room F ≤ room_with F s chosen receiving
    unfolding room_with
    room-least chosen there = omega (arith, link_least chosen there)

  -- so has the link of whatever is not dropped
  pub taken_room : (a : Arrival) (s r : List ℕ) (o n : ℕ) → Taken F a s r o n → least_room F ≤ room_for F a s
  taken_room a s r o n t =
      let h = header_of a.message in room-least s a.receiving t.receives (route_for F s h) (route_there s h (route_for F s h) refl)

  module _ (m : List ℕ) (destination receiving ttl : ℕ) (s r : List ℕ) (o n : ℕ) (v : Verdict) (told : v ≡ verdict_of F (arrival m destination receiving ttl) s r o n)
      (none : v.number ≡ 0) where
    abbrev a : Arrival
    a = arrival m destination receiving ttl

    chosen_is : v.chosen ≡ route_for F s (header_of m)
    unfolding pass_verdict
    chosen_is = ap (λ (x : Verdict). x.chosen) (verdict_passes sound a s r o n v told none)

    -- an accepted message brings what the answer needs
    pub step_ready : Ready F m receiving v s r o n
    step_ready =
        let arrived = taken sound a s r o n (verdict_none sound a s r o n v told none) in
        let right = arrived.message in
        let there : RouteThere (layout_of F s).interfaces v.chosen = rw chosen_is (route_there s (header_of m) (route_for F s (header_of m)) refl) in
        record {
          verdict = verdict_passes sound a s r o n v told none;
          low = right.low;
          high = right.high;
          receives = arrived.receives;
          there = there;
          fits = rw chosen_is (route_fits s (header_of m) (route_for F s (header_of m)) refl);
          formed = formed r arrived.recent_formed;
          last =
              λ full. last_high sound m right.low (no_room_has_standard sound m right _ (room-least s receiving arrived.receives v.chosen there) full);
          output_room = arrived.output_room;
          note_room = arrived.note_room;
        }

  -- whether this is the proper last hop is asked of Queries alone
  asked_view : (m : List ℕ) (query proper : Bool) (chosen : Option Route) (incoming : Option Interface) (prohibited : Bool) (number : ℕ) (here : Interface) (group time : ℕ)
      → longer_answer F m
      (record { query = query; proper = query && proper; chosen = chosen; incoming = incoming; prohibited = prohibited; number = number; here = here; group = group; time = time })
      ≡ longer_answer F m
      (record { query = query; proper = proper; chosen = chosen; incoming = incoming; prohibited = prohibited; number = number; here = here; group = group; time = time })
  unfolding longer_answer block_of codes ends_trace
  asked_view m true proper chosen incoming prohibited number here group time = refl
  asked_view m false proper None incoming prohibited number here group time = refl
  asked_view m false proper (Some r) incoming prohibited number here group time = refl

  asked : (m s : List ℕ) (h : Header) (chosen : Option Route) (proper : Bool) (receiving time : ℕ)
      → longer_answer F m (view_with F s h chosen (is_query h && proper) receiving time) ≡ longer_answer F m (view_with F s h chosen proper receiving time)
  unfolding view_with
  asked m s h chosen proper receiving time =
      asked_view m (is_query h) proper chosen (incoming_for F s chosen) (prohibited_of s) receiving (interface_of F s receiving) h.group time

  -- rows 1 and 2 decide, or the others do
  module _ (m : List ℕ) (destination receiving ttl time : ℕ) (s r o n : List ℕ) (e : Refusal) (lent : number e ≡ first_of (lent_rows (length o) (length n) r)) where
    pub step_refused : StepMeets F (arrival m destination receiving ttl) time s r o n (outcome (number e) r o n)
    step_refused =
        let a = arrival m destination receiving ttl in
        sym (drop_changes_nothing F a time s r o n (number e) (lent_first sound a s r (length o) (length n) (number e) lent (some_number e)))

  -- the recent list where they do not apply
  pub lent_list : (r o n : List ℕ) → first_of (lent_rows (length o) (length n) r) ≡ 0 → Formed r
  lent_list r o n lent = formed r (lent_formed (length o) (length n) r lent)

  -- the two ways through the step then
  module _ (m : List ℕ) (destination receiving ttl time : ℕ) (s r o n : List ℕ) (lent : first_of (lent_rows (length o) (length n) r) ≡ 0) where
    abbrev came : Arrival
    came = arrival m destination receiving ttl

    module _ (v : Verdict) (judged : v ≡ judged_of F came s r) where
      pub told : v ≡ verdict_of F came s r (length o) (length n)
      told = judged ∙ sym (lent_none sound came s r (length o) (length n) 0 (sym lent) refl)

      pub step_dropped : (e : Refusal) → v ≡ drop_verdict (number e) → StepMeets F came time s r o n (outcome (number e) r o n)
      unfolding drop_verdict
      step_dropped e p =
          let is : v.number ≡ number e = ap (λ (x : Verdict). x.number) p in
          rw (← is) (sym (drop_changes_nothing F came time s r o n v.number (verdict_first sound came s r (length o) (length n) v told (λ z. some_number e (sym is ∙ z)))))

      pub lent_ready : v.number ≡ 0 → Ready F m receiving v s r (length o) (length n)
      lent_ready none = step_ready m destination receiving ttl s r (length o) (length n) v told none

      pub step_answered : (r1 o1 n1 : List ℕ) (answer : ℕ) → v.number ≡ 0 → outcome answer r1 o1 n1 ≡ answered F m receiving time v s r o n
          → StepMeets F came time s r o n (outcome answer r1 o1 n1)
      unfolding sent_by answered pass_verdict
      step_answered r1 o1 n1 answer none e =
          let sent = taken_is_sent F came time s r o n (verdict_none sound came s r (length o) (length n) v told none) in
          let h = header_of m in
          e
          ∙ rw (verdict_passes sound came s r (length o) (length n) v told none, asked m s h (route_for F s h) (last_hop_for F s h) receiving time) (sym sent)

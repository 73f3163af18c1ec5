-- A law for each way out of a function: what its tests showed and what its callees answered, and the definition's answer.
use Prim.Native.Nat.{ℕ, suc, ◌+◌, ◌*◌, ◌-◌, ◌≤◌, ◌<◌}
use mathlib.Core.Bool.{Bool, true, false, cond}
use mathlib.Core.List.{List, [], ◌∷◌}
use mathlib.Core.Path.{◌≡◌, refl, sym, ap, ◌∙◌}
use native.Mathlib.Omega.{arith}
use native.Mathlib.Nat.{div-le_self}
use native.Mathlib.Numerals.{add-one}
use lib.Dec.{eqb}
use lib.ListN.{length, take, drop, drop_of_length-le, length-append}
use lib.Seq.{take-append_seam}
use Rattle.wire.specs.Numbers.{byte_at}
use borrow.Author.Tests.{ne_eqb}
use Rattle.address.specs.Addresses.{multicast}
use Rattle.wire.proofs.Laws.{splice_front}
use Rattle.message.specs.declared.Blocks.{Blocks}
use Rattle.message.specs.Blocks.{blocks_from, blocks_by, blocks_of, standard_places, standards, standard_count}
use Rattle.message.specs.Inside.{blocks_seen}
use Rattle.header.specs.Format.{request}
use Rattle.message.specs.Room.{hops_left}
use Rattle.message.proofs.Laws.{standards_few}
use Rattle.drops.specs.Drop.{near_ttl}
use Rattle.drops.specs.Arrival.{Arrival, arrival}
use Rattle.sending.specs.Answer.{Sent, sent_on, sent_home}
use Rattle.yard.specs.declared.Call.{Call}
use Rattle.yard.specs.declared.Hop.{Hop}
use Rattle.yard.specs.declared.Onward.{Onward}
use Rattle.yard.specs.declared.End.{End}
use Rattle.yard.specs.declared.End.TheVariants.{Dropped, SentHome, ToGroup, NobodyThere}
use Rattle.yard.specs.declared.Walked as code
use Rattle.refusal.specs.declared.Refusal.{Refusal}
use Rattle.refusal.specs.Refusal.{number}
use Rattle.refusal.proofs.Laws.{number_low}
use Rattle.engine.specs.Step.{answer_of}
use Rattle.yard.specs.Yard.{sheet_size, routers_in, sheet_at, holder_in}
use Rattle.yard.specs.Walk.{to_group, end_number, Walked, walked, Visit, visit, sent_for, sent_at, end_by, end_of, next_of, walk_from, Tells}
use Rattle.yard.specs.Inside.{end_told, Called, Onwards, Hopped, Ended}
use Rattle.yard.proofs.Sheets.{lent_sheet}
use Rattle.yard.proofs.Holders.{holder_found}
use Rattle.yard.proofs.Turns.{goes_on_lem, falls, sent_short, from_ends, from_on}
use Rattle.yard.proofs.Traces.{walk_within}
use Rattle.format.specs.declared.Format.{Format}
use Rattle.format.specs.Sizes.{Sound, output_size}
use Rattle.written.specs.Inside.{Writes}
use Rattle.std.specs.Prelude.{Option, Some, None, Result, Ok, Err}

pub counted : (F : Format) (s : List ℕ) (b : Blocks) → b ≡ blocks_seen F s → b.count ≡ standard_count F s
unfolding blocks_seen
counted F s b e = ap (λ (x : Blocks). x.count) e

-- nothing has a first byte
pub no_first_byte : (m : List ℕ) → length m ≡ 0 → false ≡ eqb (byte_at m 0) request
no_first_byte [] e = refl
no_first_byte (x ∷ m) e = absurd (omega arith)

-- no end but 100 goes on
end_other : (end : End) → end_number end ≡ sent_on → ⊥
end_other (Dropped refusal) e = absurd (omega (arith, number_low refusal, e))
end_other SentHome e = absurd (omega (arith, e))
end_other ToGroup e = absurd (omega (arith, e))
end_other NobodyThere e = absurd (omega (arith, e))

-- an end goes on to nobody, and what goes on has no end
ends_here : (end : End) (on : Onward) → ◌≡◌ {A = Result Onward End} (Err end) (Ok on) → ⊥
ends_here end on e = cc

same_ok : {a b : Onward} → ◌≡◌ {A = Result Onward End} (Ok a) (Ok b) → a ≡ b
same_ok e = cc

-- what becomes of what was sent to an address: each way out of `go_on`
module _ (F : Format) (yard : List ℕ) (answer to : ℕ) where
  ended : (end : End) → end_number end ≡ cond (eqb answer sent_on) (cond (multicast to) to_group (end_by (holder_in F yard to))) answer
      → Onwards F yard answer to (Err end)
  ended end e = record { end = e; held = λ on z. absurd (ends_here end on z); sent = λ on z. absurd (ends_here end on z) }

  pub onward_home : answer ≡ sent_home → Onwards F yard answer to (Err SentHome)
  onward_home e = ended SentHome (rw e)

  pub onward_dropped : (refusal : Refusal) → answer ≡ number refusal → Onwards F yard answer to (Err (Dropped refusal))
  onward_dropped refusal e =
      ended (Dropped refusal) (rw (e, ne_eqb (number refusal) sent_on (λ z. absurd (omega (arith, number_low refusal, z)))))

  module _ (on : answer ≡ sent_on) (x : Bool) (told : x ≡ multicast to) where
    pub onward_group : x ≡ true → Onwards F yard answer to (Err ToGroup)
    onward_group g = ended ToGroup (rw (on, ← told, g))

    module _ (one : x ≡ false) (h : Option (ℕ × ℕ)) (holder : h ≡ holder_in F yard to) where
      pub onward_nobody : h ≡ None → Onwards F yard answer to (Err NobodyThere)
      onward_nobody e = ended NobodyThere (rw (on, ← told, one, ← holder, e))

      pub onward_held : (router interface : ℕ) → h ≡ Some (router, interface)
          → Onwards F yard answer to (Ok (record { router = router; interface = interface; to = to }))
      onward_held router interface e =
          record {
            end = rw (on, ← told, one, ← holder, e);
            held = λ o z. sym holder ∙ e ∙ ap (λ (w : Onward). Some (w.router, w.interface)) (same_ok z);
            sent = λ o z. ap (λ (w : Onward). w.to) (sym (same_ok z));
          }

module _ {F : Format} (sound : Sound F) (writes : Writes F) where
  -- what is shorter than a header has no block
  pub no_block : (s : List ℕ) → length s < F.header → 0 ≡ standard_count F s
  unfolding standards blocks_of blocks_from blocks_by standard_places
  no_block s h = rw (drop_of_length-le s {i = F.header} (omega arith))

  pub count_fits : (s : List ℕ) (b : Blocks) → b ≡ blocks_seen F s → F.header ≤ length s → length s ≤ output_size → b.count < 4294967296
  count_fits s b e low high = omega (arith, counted F s b e, standards_few sound s low)

  -- what becomes of what a router sent, by what was found of its answer and its destination
  module _ (yard : List ℕ) (router time : ℕ) (a : Arrival) (old new : List ℕ) (c : Call)
      (called : Called (sent_for F (take (sheet_size * router + sheet_size - sheet_size * router) (drop (sheet_size * router) yard)) time a) old c new)
      (r : Result Onward End) (found : Onwards F yard (answer_of c.answer) c.to r) where
    abbrev sent : Sent
    sent = sent_for F (sheet_at yard router) time a

    asked : Called sent old c new
    asked = rw (lent_sheet yard router) at called

    held : (on : Onward) → r ≡ Ok on → holder_in F yard sent.note.destination ≡ Some (on.router, on.interface)
    held on e = ap (holder_in F yard) (sym asked.to) ∙ found.held on e

    pub hopped : (h : Hop) → h ≡ record { length = c.length; next = r } → Hopped F yard sent old h new
    unfolding end_of
    hopped h is =
        rw is
        (record {
          end = found.end ∙ rw (asked.answer, asked.to);
          long = asked.long;
          sends = asked.sends;
          next = λ on e. rw (held on e, found.sent on e ∙ asked.to);
          there = λ on e. (holder_found F yard c.to on.router on.interface (found.held on e)).there;
        })

  pub held_fits : (yard : List ℕ) (to i k : ℕ) (h : Option (ℕ × ℕ)) → h ≡ holder_in F yard to → h ≡ Some (i, k) → k < 4294967296
  held_fits yard to i k h e f = omega (arith, (holder_found F yard to i k (sym e ∙ f)).few)

  -- a turn of the walk
  module _ (yard times : List ℕ) (v : Visit) (old new : List ℕ) (h : Hop) (hopped : Hopped F yard (sent_at F yard times v) old h new) where
    message_is : take h.length new ≡ (sent_at F yard times v).message
    message_is =
        let m = (sent_at F yard times v).message in
        rw (hopped.long, hopped.sends, splice_front old m) (take-append_seam m (drop (length m) old))

    pub message_within : h.length ≤ length new
    message_within =
        let m = (sent_at F yard times v).message in
        rw (hopped.long, hopped.sends, splice_front old m, length-append m (drop (length m) old)) (omega arith)

    pub message_measured : h.length ≡ length (take h.length new)
    message_measured = hopped.long ∙ ap (λ (l : List ℕ). length l) (sym message_is)

    pub message_short : length (take h.length new) ≤ output_size
    message_short = rw message_is (sent_short sound writes yard times v)

    pub walk_over : (output output' : List ℕ) (end : End) (r : code.Walked) → h.next ≡ Err end
        → Ended F end (take h.length new) output r output' → Tells F (walk_from F yard times v) output (walked r) output'
    walk_over output output' end r over e =
        let told : end_number end ≡ end_of F yard (sent_at F yard times v) = sym (ap end_told over) ∙ hopped.end in
        rw (from_ends sound writes yard times v (λ z. end_other end (told ∙ z)), ← told, ← message_is)
        (record {
          answer = λ d. record { end = (ap end_number e.ends) d; steps = e.steps d; blocks = e.blocks d; length = e.long d };
          sends = e.sends;
        })

    module _ (on : Onward) (e : h.next ≡ Ok on) where
      goes : end_of F yard (sent_at F yard times v) ≡ sent_on
      goes = sym hopped.end ∙ ap end_told e

      next-visit : visit on.router (arrival (take h.length new) on.to on.interface near_ttl) ≡ next_of F yard (sent_at F yard times v)
      next-visit = rw message_is (hopped.next on e)

      -- the hops not yet used fall
      pub hops_fall : (t : ℕ) → hops_left F v.arrival.message ≡ t → hops_left F (take h.length new) < t
      hops_fall t q =
          let less = falls sound writes yard times v (goes_on_lem sound writes yard times v goes) in
          omega (arith, ap (λ (w : Visit). hops_left F w.arrival.message) next-visit)

      pub there_next : on.router < routers_in yard
      there_next = hopped.there on e

      pub walk_goes_on : (output output' : List ℕ) (r : code.Walked)
          → Tells F (walk_from F yard times (visit on.router (arrival (take h.length new) on.to on.interface near_ttl))) output (walked r) output'
          → Tells F (walk_from F yard times v) output (record { end = end_number r.end; steps = r.steps + 1; blocks = r.blocks; length = r.length }) output'
      walk_goes_on output output' r w =
          let t = rw next-visit at w in
          let steps : r.steps + 1 ≡ suc (length (walk_from F yard times (next_of F yard (sent_at F yard times v))).visits) =
          rw (ap (λ (x : Walked). x.steps) t.answer, add-one) in
          rw (from_on sound writes yard times v goes)
          (record {
            answer = λ d. record { end = (t.answer d).end; steps = steps d; blocks = (t.answer d).blocks; length = (t.answer d).length };
            sends = t.sends;
          })

  pub steps_fit : (yard times : List ℕ) (v : Visit) (output output' : List ℕ) (r : code.Walked) → Tells F (walk_from F yard times v) output (walked r) output'
      → r.steps + 1 < 4294967296
  steps_fit yard times v output output' r w =
      omega (arith, ap (λ (x : Walked). x.steps) w.answer, walk_within sound writes yard times v, div-le_self (F.most + F.block - F.header) F.block)

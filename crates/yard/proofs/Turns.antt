-- Laws of one turn of the walk: it ends here, or it goes on to the router that holds the destination, which does not drop what
-- arrives, and the hops not yet used are one fewer.
use Prim.Native.Nat.{ℕ, suc, ◌≤◌}
use mathlib.Core.Bool.{true, false}
use mathlib.Core.List.{List}
use mathlib.Core.Logic.{◌⊎◌, inl, inr, ⊎_elim}
use mathlib.Core.Path.{◌≡◌, refl, sym, ap, ◌∙◌}
use native.Mathlib.Omega.{arith}
use borrow.Author.Tests.{eq-eqb, ne_eqb, eqb-true, eqb-false}
use lib.Dec.{eqb}
use lib.ListN.{length, get_or}
use Rattle.address.specs.Addresses.{multicast}
use Rattle.rows.proofs.Laws.{decided, first_or_none}
use Rattle.recent.specs.Entries.{empty}
use Rattle.written.specs.declared.Block.{Block}
use Rattle.header.specs.Format.{request, reply, note_size}
use Rattle.message.specs.Room.{Full, HasRoom, hops_left}
use Rattle.drops.specs.Arrival.{arrival}
use Rattle.drops.specs.Drop.{near_ttl}
use Rattle.rows.specs.Rows.{first_of}
use Rattle.sending.specs.Answer.{Sent, sent_on, sent_home, full_message, longer_message, sent_by}
use Rattle.drops.proofs.Laws.{Taken, taken, drop_numbers}
use Rattle.sending.proofs.Laws.{sent_cases, sent-answer, sent_fits, Grown, sent_on_grows, no_later_drop}
use Rattle.yard.specs.Yard.{sheet_at, holder_in}
use Rattle.yard.specs.Holders.{LowestHolder, NobodyHolds}
use Rattle.yard.specs.Faithful.{Accepts, block_for, room_at, EndsWell}
use Rattle.yard.specs.Walk.{to_group, nobody_there, Visit, visit, rows_for, sent_at, end_by, end_of, next_of, ends_at, enters, walk_by, walk_from, next_by}
use Rattle.yard.proofs.Holders.{holder_found, holder_unique}
use Rattle.yard.proofs.Calls.{sent-dropped, sent_taken}
use Rattle.format.specs.declared.Format.{Format}
use Rattle.format.specs.Sizes.{Sound, output_size}
use Rattle.written.specs.Inside.{Writes}
use Rattle.std.specs.Prelude.{Option, Some, None}

-- what becomes of a Request sent on
pub record Reaches (F : Format) (yard : List ℕ) (sent : Sent) : Type 0 where
  pub router : ℕ
  pub interface : ℕ
  pub held : holder_in F yard sent.note.destination ≡ Some (router, interface)
  pub on : end_of F yard sent ≡ sent_on

-- a visit from which the walk goes on
pub record Onward (F : Format) (yard times : List ℕ) (v : Visit) : Type 0 where
  pub accepts : Accepts F yard v
  pub grown : Grown F v.arrival (get_or times v.router 0) (sheet_at yard v.router) (sent_at F yard times v)
  pub reaches : Reaches F yard (sent_at F yard times v)

-- how a walk ends at a router that received m, has room for so much and gives a block: without room for it by a Reply with NO_SPACE, or with it behind m
pub data Ending (F : Format) (room : ℕ) (m : List ℕ) (b : Block) : ℕ → List ℕ → Type 0 where
  full : Full F room m → Ending F room m b sent_home (full_message F m)
  longer : {end : ℕ} (kind : ℕ) → HasRoom F room m → EndsWell end → Ending F room m b end (longer_message kind m b)

module _ {F : Format} (sound : Sound F) (writes : Writes F) where
  module _ (yard : List ℕ) (sent : Sent) where
    pub end_not_on : (sent.answer ≡ sent_on → ⊥) → end_of F yard sent ≡ sent.answer
    unfolding end_of
    end_not_on h = rw (ne_eqb sent.answer sent_on h)

    module _ (on : sent.answer ≡ sent_on) where
      pub end_group : multicast sent.note.destination ≡ true → end_of F yard sent ≡ to_group
      unfolding end_of
      end_group g = rw (eq-eqb sent.answer sent_on on, g)

      pub end_held : multicast sent.note.destination ≡ false → end_of F yard sent ≡ end_by (holder_in F yard sent.note.destination)
      unfolding end_of
      end_held g = rw (eq-eqb sent.answer sent_on on, g)

      -- by who holds the destination, said without the search for it
      module _ (single : multicast sent.note.destination ≡ false) where
        pub end_nobody : NobodyHolds F yard sent.note.destination → end_of F yard sent ≡ nobody_there
        end_nobody h = end_held single ∙ ap end_by (sym (holder_unique F yard sent.note.destination None h))

        pub end_goes : (router interface : ℕ) → LowestHolder F yard sent.note.destination router interface
            → (end_of F yard sent ≡ sent_on) × (next_of F yard sent ≡ visit router (arrival sent.message sent.note.destination interface near_ttl))
        end_goes router interface h =
            let is = sym (holder_unique F yard sent.note.destination (Some (router, interface)) h) in
            (end_held single ∙ ap end_by is, ap (next_by sent) is)

      -- 102, 103, or it reaches a router
      pub end_on : ((end_of F yard sent ≡ to_group) ⊎ (end_of F yard sent ≡ nobody_there)) ⊎ Reaches F yard sent
      end_on =
          ⊎_elim (λ g. inl (inl (end_group g)))
          (λ g. by_holder (end_held g) (holder_in F yard sent.note.destination) refl)
          (decided (multicast sent.note.destination)) where
            by_holder : end_of F yard sent ≡ end_by (holder_in F yard sent.note.destination) → (h : Option (ℕ × ℕ)) → holder_in F yard sent.note.destination ≡ h
                → ((end_of F yard sent ≡ to_group) ⊎ (end_of F yard sent ≡ nobody_there)) ⊎ Reaches F yard sent
            by_holder e (Some (i, k)) q = inr (record { router = i; interface = k; held = q; on = e ∙ rw q })
            by_holder e None q = inl (inr (e ∙ rw q))

  ending_as : (room : ℕ) (m : List ℕ) (b : Block) (e e' : ℕ) (last last' : List ℕ) → e ≡ e' → last ≡ last' → Ending F room m b e' last' → Ending F room m b e last
  ending_as room m b e e' last last' p q x = rw (p, q) x

  module _ (yard times : List ℕ) (v : Visit) where
    abbrev sent : Sent
    sent = sent_at F yard times v

    abbrev here : Sent
    here = sent_by F v.arrival (get_or times v.router 0) (sheet_at yard v.router)

    abbrev m : List ℕ
    m = v.arrival.message

    sent-here : Accepts F yard v → sent ≡ here
    sent-here = sent_taken sound writes (sheet_at yard v.router) (get_or times v.router 0) v.arrival

    takes : Accepts F yard v → Taken F v.arrival (sheet_at yard v.router) empty output_size note_size
    takes = taken sound v.arrival (sheet_at yard v.router) empty output_size note_size

    -- what sends on does not drop
    on_accepts : sent.answer ≡ sent_on → Accepts F yard v
    on_accepts on =
        let rows = rows_for F (sheet_at yard v.router) v.arrival in
        ⊎_elim
        (λ f.
        let dropped : sent.answer ≡ first_of rows = ap (λ (s : Sent). s.answer) (sent-dropped sound writes (sheet_at yard v.router) (get_or times v.router 0) v.arrival (first_of rows) f) in
        absurd (omega (arith, drop_numbers sound v.arrival (sheet_at yard v.router) empty output_size note_size)))
        (λ none. none)
        (first_or_none rows)

    grows : Accepts F yard v → sent.answer ≡ sent_on → Grown F v.arrival (get_or times v.router 0) (sheet_at yard v.router) sent
    grows accepts on =
        rw (sent-here accepts)
        (sent_on_grows sound writes v.arrival (get_or times v.router 0) (sheet_at yard v.router) empty output_size note_size (takes accepts) (ap (λ (s : Sent). s.answer) (sym (sent-here accepts)) ∙ on))

    -- where the end is 100 the walk goes on
    pub goes_on_lem : end_of F yard sent ≡ sent_on → Onward F yard times v
    goes_on_lem e = ⊎_elim (λ z. by_end (eqb-true _ _ z)) (λ z. absurd (eqb-false _ _ z (sym (end_not_on yard sent (eqb-false _ _ z)) ∙ e))) (decided (eqb sent.answer sent_on)) where
      by_end : sent.answer ≡ sent_on → Onward F yard times v
      by_end on =
          record {
            accepts = on_accepts on;
            grown = grows (on_accepts on) on;
            reaches = ⊎_elim (λ x. ⊎_elim (λ g. absurd (omega arith)) (λ n. absurd (omega arith)) x) (λ r. r) (end_on yard sent on);
          }

    -- and where it is not, an accepted message ends it in one of the two ways
    pub stops : Accepts F yard v → (end_of F yard sent ≡ sent_on → ⊥) → Ending F (room_at F yard v) m (block_for F yard times v) (end_of F yard sent) sent.message
    stops accepts e = ⊎_elim on home_again (sent-answer F v.arrival (get_or times v.router 0) (sheet_at yard v.router)) where
      as_here : sent.answer ≡ here.answer
      as_here = ap (λ (s : Sent). s.answer) (sent-here accepts)

      on : here.answer ≡ sent_on → Ending F (room_at F yard v) m (block_for F yard times v) (end_of F yard sent) sent.message
      on q =
          let g = grows accepts (as_here ∙ q) in
          ⊎_elim
          (λ x. ending_as _ _ _ _ _ _ _ refl g.message (longer request g.room (inr x)))
          (λ r. absurd (e r.on))
          (end_on yard sent (as_here ∙ q))

      home_again : here.answer ≡ sent_home → Ending F (room_at F yard v) m (block_for F yard times v) (end_of F yard sent) sent.message
      home_again q =
          let answer : sent.answer ≡ sent_home = as_here ∙ q in
          let end : end_of F yard sent ≡ sent_home = end_not_on yard sent (λ z. omega arith) ∙ answer in
          let message : sent.message ≡ here.message = ap (λ (s : Sent). s.message) (sent-here accepts) in
          ending_as _ _ _ _ _ _ _ end message
          (sent_cases F v.arrival (get_or times v.router 0) (sheet_at yard v.router)
          (λ (s : Sent). s.answer ≡ sent_home → Ending F (room_at F yard v) m (block_for F yard times v) sent_home s.message)
          (λ h z. full h) (λ h x z. longer reply h (inl refl)) (λ h x z. absurd (omega arith)) q)

    -- what is sent fits, whatever arrives
    pub sent_short : length sent.message ≤ output_size
    sent_short =
        let rows = rows_for F (sheet_at yard v.router) v.arrival in
        ⊎_elim
        (λ f. rw (sent-dropped sound writes (sheet_at yard v.router) (get_or times v.router 0) v.arrival (first_of rows) f) (omega arith))
        (λ none. rw (sent-here none) (omega (arith, sent_fits writes v.arrival (get_or times v.router 0) (sheet_at yard v.router) (takes none).message)))
        (first_or_none rows)

    -- the next visit
    module _ (o : Onward F yard times v) where
      pub next_is : next_of F yard sent ≡ visit o.reaches.router (arrival sent.message sent.note.destination o.reaches.interface near_ttl)
      next_is = rw o.reaches.held

      -- no later router drops
      pub next_accepts : Accepts F yard (next_of F yard sent)
      next_accepts =
          let g = o.grown in
          let h = holder_found F yard sent.note.destination o.reaches.router o.reaches.interface o.reaches.held in
          rw next_is
          (no_later_drop sound sent.message sent.note.destination o.reaches.interface (sheet_at yard o.reaches.router) g.accepts (rw g.header) g.few h.holds)

      pub falls : hops_left F m ≡ suc (hops_left F (next_of F yard sent).arrival.message)
      falls = rw next_is o.grown.falls

    -- one turn of the definition
    pub walk_ends : (end_of F yard sent ≡ sent_on → ⊥) → (n : ℕ) → walk_by F (suc n) yard times v ≡ ends_at (end_of F yard sent) v sent.message
    unfolding walk_by
    walk_ends e n = rw (ne_eqb (end_of F yard sent) sent_on e)

    pub walk_on : end_of F yard sent ≡ sent_on → (n : ℕ) → walk_by F (suc n) yard times v ≡ enters v (walk_by F n yard times (next_of F yard sent))
    unfolding walk_by
    walk_on e n = rw (eq-eqb (end_of F yard sent) sent_on e)

    pub from_ends : (end_of F yard sent ≡ sent_on → ⊥) → walk_from F yard times v ≡ ends_at (end_of F yard sent) v sent.message
    unfolding walk_from
    from_ends e = walk_ends e (hops_left F m)

    pub from_on : end_of F yard sent ≡ sent_on → walk_from F yard times v ≡ enters v (walk_from F yard times (next_of F yard sent))
    unfolding walk_from
    from_on e = walk_on e (hops_left F m) ∙ rw (falls (goes_on_lem e))

-- Demand 3 of document 01, put together: what holds of every walk that is not refused and whose first router accepts, whatever
-- the yard's addresses do.
use Prim.Native.Nat.{ℕ, ◌≤◌}
use mathlib.Core.List.{List, [], ◌∷◌}
use mathlib.Core.Logic.{⊎_elim}
use mathlib.Core.Path.{◌≡◌, refl}
use native.Mathlib.Omega.{arith}
use borrow.Author.Tests.{eqb-false}
use lib.ListN.{length}
use Rattle.wire.specs.Numbers.{byte_at}
use Rattle.rows.specs.Rows.{NoneApplies}
use Rattle.rows.proofs.Laws.{none_is, by_rows, none_at}
use Rattle.header.specs.Format.{request}
use Rattle.header.specs.Header.{header_of}
use Rattle.message.specs.Blocks.{standard_blocks}
use Rattle.message.proofs.Laws.{accepted_kinds, accepted_query, standards_few, standard_blocks-count}
use Rattle.yard.specs.Walk.{walk_request, Visit, Walk, refused_walk, walk_from, walk_rows, walk_of}
use Rattle.yard.specs.Faithful.{Starts, Faithful, most_steps}
use Rattle.yard.proofs.Traces.{TraceOf, walk-traced, received_right, steps_by_hops, walk_within, ends_well, first_visit, visits_follow, none_drops}
use Rattle.yard.proofs.Carried.{received_header, received_blocks, last_with_room, last_without_room}
use Rattle.format.specs.declared.Format.{Format}
use Rattle.format.specs.Sizes.{Sound}
use Rattle.written.specs.Inside.{Writes}

none_there : (l : List (List ℕ)) → length l ≡ 0 → l ≡ []
none_there [] e = refl
none_there (x ∷ l) e = absurd (omega arith)

module _ {F : Format} (sound : Sound F) (writes : Writes F) where
  module _ (yard times : List ℕ) (v : Visit) (output : ℕ) where
    -- where nothing refuses it, the walk is the one from the start
    pub not_refused_walks : NoneApplies (walk_rows F yard times v output) → walk_of F yard times v output ≡ walk_from F yard times v
    unfolding walk_of
    not_refused_walks = none_is refused_walk (walk_from F yard times v) (walk_rows F yard times v output)

    -- refused or not, it has at most 28 steps: those that a header leaves room for, and one
    pub steps_within : length (walk_of F yard times v output).visits ≤ most_steps F
    unfolding walk_of
    steps_within =
        by_rows refused_walk (walk_from F yard times v) (λ (w : Walk). length w.visits ≤ most_steps F) (walk_rows F yard times v output) (λ n f. omega arith)
        (λ none. walk_within sound writes yard times v)

    module _ (s : Starts F yard times v output) where
      no_request : byte_at v.arrival.message 0 ≡ request → ⊥
      unfolding walk_rows
      no_request = eqb-false _ _ (none_at (walk_rows F yard times v output) s.not_refused walk_request)

      -- the Query carries no block
      nothing_carried : standard_blocks F v.arrival.message ≡ []
      unfolding header_of
      nothing_carried =
          let m = v.arrival.message in
          let right = received_right sound writes yard times v s.accepts in
          let alone : length m ≡ F.header = ⊎_elim (accepted_query sound m right) (λ q. absurd (no_request q)) (accepted_kinds sound m right) in
          none_there (standard_blocks F m) (omega (arith, standard_blocks-count sound m, standards_few sound m right.low))

      faithful : (w : Walk) → TraceOf F yard times v w → Faithful F yard times v w
      faithful w t =
          record {
            end = ends_well sound writes yard times t;
            steps = omega (arith, steps_by_hops sound writes yard times t);
            start = first_visit sound writes yard times t v;
            follows = visits_follow sound writes yard times t v;
            accepts = none_drops sound writes yard times t v;
            header = received_header sound writes yard times t v;
            received = λ k h. rw nothing_carried at (received_blocks sound writes yard times t v k h);
            with_room = λ room. rw nothing_carried at (last_with_room sound writes yard times t v room);
            without_room = λ none. rw nothing_carried at (last_without_room sound writes yard times t v none);
            count = standard_blocks-count sound w.last;
          }

      -- every trace comes home and tells the truth
      pub walk_is_faithful : Faithful F yard times v (walk_of F yard times v output)
      walk_is_faithful = rw (not_refused_walks s.not_refused) (faithful (walk_from F yard times v) (walk-traced sound writes yard times v s.accepts))

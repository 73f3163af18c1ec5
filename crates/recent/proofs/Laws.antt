-- Laws of the recent list for the crates above: a well-formed list stays so when a Query is entered, and the Query is then
-- in it; the empty list is well-formed.
use Prim.Native.Nat.{ℕ, zero, suc, ◌+◌, ◌*◌, ◌^◌, ◌≤◌, ◌<◌}
use mathlib.Core.Path.{◌≡◌, refl, sym, ap, ◌∙◌}
use mathlib.Core.Bool.{true, ◌||◌, or-true}
use mathlib.Core.List.{List, [], ◌∷◌, ◌++◌}
use mathlib.Core.Logic.{◌⊎◌, inl, inr, ⊎_elim}
use native.Mathlib.Omega.{arith}
use native.Mathlib.Nat.{add-zero, eq-or-lt_of_le}
use borrow.Author.Tests.{le-leb, lt-ltb, eq-eqb, leb-true, ltb-true, eqb-true}
use lib.Dec.{eqb, lit≤}
use lib.ListN.{length, drop, length-append, drop_of_length-le}
use lib.Seq.{drop-drop}
use Rattle.wire.specs.Numbers.{byte_at, be, bytes32, bytes16}
use Rattle.wire.specs.Parts.{splice, all_zero}
use Rattle.rows.proofs.Laws.{both_of, one_of, parts}
use Rattle.wire.proofs.Laws.{length-bytes, length-splice, byte_before, byte_after, be-after, be_within, be_first, be_second, be-bytes, drop-splice, splice_front}
use Rattle.recent.specs.Layout.{head_size, client_size, entry_size, entry_count, list_size, used, next, recent_place, well_formed}
use Rattle.recent.specs.Inside.{Formed}
use Rattle.recent.specs.Entries.{recent_entry, first_entries, is_of, some_is_of, seen_in, grown, moved_on, entered_in, empty}
use Rattle.recent.proofs.Stores.{entry_fits}

-- the rules of a well-formed list, one by one
record Rules (s : List ℕ) : Type 0 where
  sizes : Formed s
  follows : (used s ≡ entry_count) ⊎ (next s ≡ used s)
  third : byte_at s 2 ≡ 0
  fourth : byte_at s 3 ≡ 0
  rest : all_zero (drop (recent_place (used s)) s) ≡ true

rules : (s : List ℕ) → well_formed s ≡ true → Rules s
unfolding well_formed
rules s e =
    record {
      sizes =
          record {
            whole = eqb-true (length s) list_size (search parts depth 16);
            few = leb-true (used s) entry_count (search parts depth 16);
            within = ltb-true (next s) entry_count (search parts depth 16);
          };
      follows =
          ⊎_elim (λ h. inl (eqb-true (used s) entry_count h)) (λ h. inr (eqb-true (next s) (used s) h))
          (one_of (eqb (used s) entry_count) (eqb (next s) (used s)) (search parts depth 16));
      third = eqb-true (byte_at s 2) 0 (search parts depth 16);
      fourth = eqb-true (byte_at s 3) 0 (search parts depth 16);
      rest = search parts depth 16;
    }

-- a well-formed list has its sizes
pub formed : (s : List ℕ) → well_formed s ≡ true → Formed s
formed s e = (rules s e).sizes

-- and what keeps all rules is well-formed
by_rules : (s : List ℕ) → Rules s → well_formed s ≡ true
unfolding well_formed
by_rules s r =
    let follows : (eqb (used s) entry_count || eqb (next s) (used s)) ≡ true =
    ⊎_elim (λ h. rw (eq-eqb (used s) entry_count h)) (λ h. rw (eq-eqb (next s) (used s) h) (or-true (eqb (used s) entry_count))) r.follows in
    simp (eq-eqb _ _ r.sizes.whole, le-leb _ _ r.sizes.few, lt-ltb _ _ r.sizes.within, follows, eq-eqb _ _ r.third, eq-eqb _ _ r.fourth, r.rest)

zero_drop : (n : ℕ) (l : List ℕ) → all_zero l ≡ true → all_zero (drop n l) ≡ true
unfolding all_zero
zero_drop zero l e = e
zero_drop (suc n) [] e = e
zero_drop (suc n) (x ∷ l) e = zero_drop n l (both_of (eqb x 0) (all_zero l) e).1

-- next follows used while used is below 32, also when both have moved on
follows_on : (u n : ℕ) → n < entry_count → (u ≡ entry_count) ⊎ (n ≡ u) → (grown u ≡ entry_count) ⊎ (moved_on n ≡ grown u)
follows_on u n h (inl e) = inl (omega arith)
follows_on u n h (inr e) = ⊎_elim (λ q. inl (omega arith)) (λ l. inr (omega arith)) (eq-or-lt_of_le {n = n + 1} {m = entry_count} (omega arith))

-- an entry among the first n is found
found_at : (s : List ℕ) (client id k n : ℕ) → k < n → is_of (recent_entry s k) client id ≡ true → some_is_of (first_entries s n) client id ≡ true
unfolding first_entries some_is_of
found_at s client id k zero h e = absurd (omega arith)
found_at s client id k (suc n) h e =
    ⊎_elim (λ q. rw (← q, e)) (λ l. rw (found_at s client id k n l e) (or-true (is_of (recent_entry s n) client id))) (eq-or-lt_of_le {n = k} {m = n} (omega arith))

-- a Query entered: its entry is written, and then the head
module _ (s : List ℕ) (f : Formed s) (client id : ℕ) where
  abbrev entry : List ℕ
  entry = bytes32 client ++ bytes16 id

  abbrev written : List ℕ
  written = splice s (recent_place (next s)) entry

  abbrev head : List ℕ
  head = grown (used s) ∷ moved_on (next s) ∷ []

  length_entry : length entry ≡ entry_size
  length_entry = length-append (bytes32 client) (bytes16 id) ∙ omega (arith, length-bytes 2 client, length-bytes 1 id)

  length-written : length written ≡ list_size
  length-written = length-splice s (recent_place (next s)) entry (entry_fits s f client id) ∙ f.whole

  head_fits : 0 + length head ≤ length written
  head_fits = rw length-written (lit≤ tt)

  entered_is : entered_in s client id ≡ grown (used s) ∷ moved_on (next s) ∷ drop 2 written
  unfolding entered_in
  entered_is = splice_front written head

  length-entered : length (entered_in s client id) ≡ list_size
  unfolding entered_in
  length-entered = length-splice written 0 head head_fits ∙ length-written

  entered_formed : Formed (entered_in s client id)
  entered_formed = record { whole = length-entered; few = rw entered_is (omega arith); within = rw entered_is (omega arith) }

  used-entered : used (entered_in s client id) ≡ grown (used s)
  used-entered = rw entered_is

  -- the bytes behind the head are those of the list with the entry written
  byte_kept : (j : ℕ) → 2 ≤ j → byte_at (entered_in s client id) j ≡ byte_at written j
  unfolding entered_in
  byte_kept j h = byte_after written 0 head head_fits j h

  drop_kept : (n : ℕ) → drop (2 + n) (entered_in s client id) ≡ drop (2 + n) written
  unfolding entered_in
  drop_kept n =
      rw (← drop-drop n 2 (entered_in s client id), drop-splice written 0 head head_fits)
      (drop-drop n 2 written)

  be_kept : (d j : ℕ) → 2 ≤ j → be d (entered_in s client id) j ≡ be d written j
  unfolding entered_in
  be_kept d j h = be-after written 0 head head_fits d j h

  -- the entry as it is read back
  read_back : (d j : ℕ) → j + 2 ^ d ≤ entry_size → be d (entered_in s client id) (recent_place (next s) + j) ≡ be d entry j
  read_back d j h =
      be_kept d (recent_place (next s) + j) (omega arith)
      ∙ be_within s (recent_place (next s)) entry (entry_fits s f client id) d j (rw length_entry h)

  -- the Query that was entered is of this client and id
  entry_read : client < 2 ^ 32 → id < 2 ^ 16 → is_of (recent_entry (entered_in s client id) (next s)) client id ≡ true
  entry_read hc hi =
      let c : be 2 (entered_in s client id) (recent_place (next s)) ≡ client =
      ap (be 2 (entered_in s client id)) (sym (add-zero (recent_place (next s))))
      ∙ read_back 2 0 (lit≤ tt)
      ∙ be_first 2 (bytes32 client) (bytes16 id) 0 (rw (length-bytes 2 client) (lit≤ tt))
      ∙ be-bytes 2 client hc in
      let behind : client_size ≡ length (bytes32 client) + 0 = omega (arith, length-bytes 2 client) in
      let i : be 1 (entered_in s client id) (recent_place (next s) + client_size) ≡ id =
      read_back 1 client_size (lit≤ tt)
      ∙ ap (be 1 entry) behind
      ∙ be_second 1 (bytes32 client) (bytes16 id) 0
      ∙ be-bytes 1 id hi in
      rw (eq-eqb _ _ c, eq-eqb _ _ i)

module _ (s : List ℕ) (e : well_formed s ≡ true) (client id : ℕ) where
  -- after a Query is entered it is in the list
  pub entered-seen : client < 2 ^ 32 → id < 2 ^ 16 → seen_in (entered_in s client id) client id ≡ true
  unfolding seen_in
  entered-seen hc hi =
      let f = formed s e in
      let among : next s < used (entered_in s client id) =
      rw (entered_is s f client id) (⊎_elim (λ h. omega (arith, f.within)) (λ h. omega (arith, f.within)) (rules s e).follows) in
      found_at (entered_in s client id) client id (next s) (used (entered_in s client id)) among (entry_read s f client id hc hi)

  -- the bytes past the used entries are still zero: they were, or there are none
  rest_zero : all_zero (drop (recent_place (grown (used s))) (entered_in s client id)) ≡ true
  unfolding all_zero
  rest_zero =
      let f = formed s e in
      let entry = bytes32 client ++ bytes16 id in
      ⊎_elim
      (λ h.
      let past : length (entered_in s client id) ≤ recent_place (grown (used s)) = omega (arith, length-entered s f client id) in
      rw (drop_of_length-le (entered_in s client id) {i = recent_place (grown (used s))} past))
      (λ h.
      let after : recent_place (grown (used s)) ≡ 2 + (2 + entry_size * next s + entry_size) = omega (arith, f.within) in
      let behind : 2 + (2 + entry_size * next s + entry_size) ≡ recent_place (next s) + length entry = omega (arith, length_entry s f client id) in
      rw (after, drop_kept s f client id (2 + entry_size * next s + entry_size), behind, drop-splice s (recent_place (next s)) entry (entry_fits s f client id))
      (rw (← drop-drop (length entry) (recent_place (next s)) s) (zero_drop (length entry) (drop (recent_place (next s)) s) (rw h (rules s e).rest))))
      (rules s e).follows

  -- and the list is still well-formed
  pub entered-well_formed : well_formed (entered_in s client id) ≡ true
  entered-well_formed =
      let r = rules s e in
      let f = formed s e in
      let kept : (j : ℕ) → 2 ≤ j → j < head_size → byte_at (entered_in s client id) j ≡ byte_at s j =
      λ j h l. byte_kept s f client id j h ∙ byte_before s (recent_place (next s)) (bytes32 client ++ bytes16 id) (entry_fits s f client id) j (omega arith) in
      by_rules (entered_in s client id)
      (record {
        sizes = entered_formed s f client id;
        follows = rw (entered_is s f client id) (follows_on (used s) (next s) f.within r.follows);
        third = kept 2 (lit≤ tt) (lit≤ tt) ∙ r.third;
        fourth = kept 3 (lit≤ tt) (lit≤ tt) ∙ r.fourth;
        rest = rw (used-entered s f client id) rest_zero;
      })

-- the empty list is well-formed
pub empty-well_formed : well_formed empty ≡ true
unfolding empty well_formed all_zero
empty-well_formed = refl

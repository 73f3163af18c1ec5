-- An OR of bytes, and the stores of `enter` put together.
use Prim.Native.Nat.{ℕ, ◌+◌, ◌≤◌}
use mathlib.Core.Path.{◌≡◌, sym, ◌∙◌}
use mathlib.Core.Bool.{◌&&◌, and-true, and_assoc}
use mathlib.Core.List.{List, [], ◌∷◌, ◌++◌}
use native.Mathlib.Omega.{arith}
use lib.Bits.{bit_or}
use Rattle.std.specs.List.{fold}
use lib.Dec.{eqb}
use lib.ListN.{length, set, length-append}
use lib.Seq.{sets-eq}
use Rattle.wire.specs.Numbers.{bytes32, bytes16}
use Rattle.recent.specs.Layout.{client_size, used, next, recent_place}
use Rattle.recent.specs.Inside.{Formed}
use Rattle.recent.specs.Entries.{grown, moved_on, entered_in}
use Rattle.wire.specs.Parts.{splice, all_zero}
use Rattle.wire.proofs.Laws.{or_none, length-bytes, length-splice, splice_join, splice_front}

-- no bit is set in an OR of bytes where each is zero
pub none_set : (bits : ℕ) (s : List ℕ) → eqb (fold bit_or bits s) 0 ≡ (eqb bits 0 && all_zero s)
unfolding all_zero
none_set bits [] = sym (and-true (eqb bits 0))
none_set bits (x ∷ s) = none_set (bit_or bits x) s ∙ rw or_none (and_assoc (eqb bits 0) (eqb x 0) (all_zero s))

-- the stores of `enter`, in its order
module _ (s : List ℕ) (f : Formed s) (client id : ℕ) where
  pub entry_fits : recent_place (next s) + length (bytes32 client ++ bytes16 id) ≤ length s
  entry_fits = simp length-append (omega (arith, f.whole, f.within, length-bytes 2 client, length-bytes 1 id))

  pub entered_by : (a b : List ℕ) (at u n : ℕ) → at ≡ recent_place (next s) → a ≡ splice s at (bytes32 client)
      → b ≡ splice a (at + client_size) (bytes16 id) → u ≡ grown (used s) → n ≡ moved_on (next s) → set (set b 0 u) 1 n ≡ entered_in s client id
  unfolding entered_in
  entered_by a b at u n e p q eu en =
      let fits : at + length (bytes32 client) ≤ length s = omega (arith, f.whole, f.within, length-bytes 2 client) in
      let joined : b ≡ splice s at (bytes32 client ++ bytes16 id) =
      rw (q, p, ← length-bytes 2 client) (splice_join s at (bytes32 client) fits (bytes16 id)) in
      let long : 2 ≤ length b = rw (joined, e, length-splice s (recent_place (next s)) (bytes32 client ++ bytes16 id) entry_fits, f.whole) (omega arith) in
      sets-eq (u ∷ n ∷ []) b 0 long ∙ rw (eu, en, joined, e) (sym (splice_front _ (grown (used s) ∷ moved_on (next s) ∷ [])))

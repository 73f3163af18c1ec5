-- The header is what its 20 bytes of fields say: two messages that agree on them have the same header, and two that agree on all but
-- the first have the same but for the type.
use Prim.Native.Nat.{ℕ, ◌+◌, ◌^◌, ◌≤◌, ◌<◌}
use mathlib.Core.Path.{◌≡◌, ap, ◌∙◌}
use mathlib.Core.List.{List}
use native.Mathlib.Omega.{arith}
use lib.Dec.{lit≤}
use Rattle.wire.specs.Numbers.{byte_at, be}
use Rattle.wire.proofs.Laws.{be_same}
use Rattle.format.specs.Sizes.{header_fields}
use Rattle.header.specs.Header.{header_of, retyped}

module _ (s t : List ℕ) where
  pub same_but_type : ((j : ℕ) → 0 < j → j < header_fields → byte_at t j ≡ byte_at s j) → header_of t ≡ retyped (byte_at t 0) (header_of s)
  unfolding header_of
  same_but_type f =
      let same : (d j : ℕ) → 0 < j → j + 2 ^ d ≤ header_fields → be d t j ≡ be d s j =
      λ d j l h. be_same d t s j j (λ k m. f (j + k) (omega arith) (omega arith)) in
      rw (
        same 1 1 (lit≤ tt) (lit≤ tt),
        f 3 (lit≤ tt) (lit≤ tt),
        same 2 4 (lit≤ tt) (lit≤ tt),
        same 2 8 (lit≤ tt) (lit≤ tt),
        same 2 12 (lit≤ tt) (lit≤ tt),
        same 1 16 (lit≤ tt) (lit≤ tt),
        same 1 18 (lit≤ tt) (lit≤ tt),
      )

  pub same_header : ((j : ℕ) → j < header_fields → byte_at t j ≡ byte_at s j) → header_of t ≡ header_of s
  unfolding header_of
  same_header f = same_but_type (λ j l. f j) ∙ ap (λ (v : ℕ). retyped v (header_of s)) (f 0 (lit≤ tt))

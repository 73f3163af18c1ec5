-- The ways out of `start_of`, each from what the check answered.
use Prim.Native.Nat.{ℕ}
use mathlib.Core.Path.{◌≡◌, refl, sym}
use mathlib.Core.List.{List}
use native.Mathlib.Omega.{arith}
use lib.ListN.{length}
use Rattle.header.specs.Format.{header_size}
use Rattle.refusal.specs.declared.Refusal.{Refusal}
use Rattle.refusal.specs.Refusal.{number}
use Rattle.refusal.proofs.Laws.{number_positive}
use Rattle.rows.specs.Rows.{first_of}
use Rattle.rows.proofs.Laws.{given_alone, none_alone}
use Rattle.reply.specs.Check.{reply_rows}
use Rattle.reply.specs.Reader.{start_of}

pub starts_first : (s : List ℕ) → 0 ≡ first_of (reply_rows s) → header_size ≡ start_of s
unfolding start_of reply_rows
starts_first s e = sym (none_alone (λ _. length s) header_size (reply_rows s) 0 e refl refl)

pub starts_last : (s : List ℕ) (e : Refusal) → number e ≡ first_of (reply_rows s) → length s ≡ start_of s
unfolding start_of
starts_last s e p =
    sym (given_alone (λ _. length s) header_size (reply_rows s) (number e) p (λ z. absurd (omega (arith, number_positive e, z))))

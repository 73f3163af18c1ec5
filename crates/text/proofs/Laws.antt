-- What may be said of every text: an input that is longer than what is read of it is printed as what is read is.
use Prim.Native.Nat.{ℕ}
use mathlib.Core.Path.{◌≡◌}
use mathlib.Core.List.{List}
use mathlib.Core.Logic.{⊎_elim}
use borrow.Author.Tests.{leb-true, leb-false}
use lib.Dec.{leb}
use lib.ListN.{length, take}
use lib.Seq.{take_all}
use Rattle.rows.proofs.Laws.{decided}
use Rattle.input.proofs.Laws.{long_walk}
use Rattle.input.specs.Input.{input_size}
use Rattle.text.specs.Text.{text_of}

-- no more need be read than one byte more than the longest yard
pub read_enough : (input : List ℕ) → text_of (take input_size input) ≡ text_of input
unfolding text_of
read_enough input =
    ⊎_elim
    (λ e. rw (take_all input_size input (leb-true (length input) input_size e)))
    (λ e. rw (long_walk input (leb-false (length input) input_size e)))
    (decided (leb (length input) input_size))

-- What may be said of every input: one that is longer than what is read of it asks for the walk that what is read does.
use Prim.Native.Nat.{ℕ, ◌*◌, ◌<◌}
use mathlib.Core.Path.{◌≡◌, sym, ◌∙◌}
use mathlib.Core.Bool.{false}
use mathlib.Core.List.{List}
use mathlib.Core.Logic.{⊎_elim}
use native.Mathlib.Omega.{arith}
use lib.ListN.{length, take, drop, length-drop}
use lib.Seq.{length-take-le}
use Rattle.rows.specs.Rows.{by_first}
use Rattle.rows.proofs.Laws.{decided, both_of}
use Rattle.wire.proofs.Laws.{wholes}
use Rattle.yard.specs.Yard.{sheet_size, most_routers, yard_size_ok, yard_ok}
use Rattle.yard.specs.Walk.{walk_yard, refused_walk, walk_rows, walk_of}
use Rattle.input.specs.Input.{head_size, input_size, walk_in, walk_for}
use Rattle.format.specs.Sizes.{ipv4}

-- a yard of more than 32 sheets is refused
too_long : (yard : List ℕ) → sheet_size * most_routers < length yard → yard_ok ipv4 yard ≡ false
unfolding yard_ok
too_long yard h =
    ⊎_elim
    (λ e. let w = wholes sheet_size most_routers (length yard) (both_of (yard_size_ok (length yard)) _ e).0 in absurd (omega (arith, w.whole, w.few)))
    (λ e. e)
    (decided (yard_ok ipv4 yard))

refused : (head yard : List ℕ) → yard_ok ipv4 yard ≡ false → walk_in head yard ≡ refused_walk walk_yard
unfolding walk_in walk_of walk_rows by_first
refused head yard e = rw e

pub long_walk : (input : List ℕ) → input_size < length input → walk_for (take input_size input) ≡ walk_for input
unfolding walk_for
long_walk input h =
    let short : length (take input_size input) ≡ input_size = length-take-le input_size input (omega arith) in
    refused _ _ (too_long (drop head_size (take input_size input)) (omega (arith, short, length-drop head_size (take input_size input))))
    ∙ sym (refused _ _ (too_long (drop head_size input) (omega (arith, length-drop head_size input))))

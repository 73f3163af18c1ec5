-- A drop returns its number and changes nothing lent; anything else is answered by what is sent.
use Prim.Native.Nat.{ℕ}
use mathlib.Core.List.{List}
use mathlib.Core.Path.{◌≡◌}
use lib.ListN.{length}
use Rattle.rows.proofs.Laws.{none_is, first_is}
use Rattle.header.specs.Header.{header_of}
use Rattle.drops.specs.Arrival.{Arrival}
use Rattle.drops.specs.Drop.{table}
use Rattle.rows.specs.Rows.{NoneApplies, IsFirst}
use Rattle.sending.specs.Answer.{sent_by}
use Rattle.engine.specs.Step.{outcome, answered_by, step_of}
use Rattle.format.specs.declared.Format.{Format}

module _ (F : Format) (a : Arrival) (time : ℕ) (sheet recent output note : List ℕ) where
  pub drop_changes_nothing : (n : ℕ) → IsFirst (table F a sheet recent (length output) (length note)) n
      → step_of F a time sheet recent output note ≡ outcome n recent output note
  unfolding step_of
  drop_changes_nothing n f = first_is (λ number. outcome number recent output note) _ _ n f

  pub taken_is_sent : NoneApplies (table F a sheet recent (length output) (length note))
      → step_of F a time sheet recent output note ≡ answered_by (sent_by F a time sheet) (header_of a.message) recent output note
  unfolding step_of
  taken_is_sent none = none_is (λ number. outcome number recent output note) _ _ none

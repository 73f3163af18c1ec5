-- The walk is a run: from every visit, whether its router accepts or drops, the definition gives one, and there is no other.
use Prim.Native.Nat.{ℕ, zero, suc, ◌<◌}
use mathlib.Core.List.{List, ◌∷◌}
use mathlib.Core.Logic.{⊎_elim}
use mathlib.Core.Path.{◌≡◌, refl, ap}
use native.Mathlib.Omega.{arith}
use borrow.Author.Tests.{eqb-true, eqb-false}
use lib.Dec.{eqb}
use Rattle.rows.proofs.Laws.{decided}
use Rattle.message.specs.Room.{hops_left}
use Rattle.sending.specs.Answer.{sent_on}
use Rattle.yard.specs.Walk.{Visit, sent_at, end_of, next_of, walk_from}
use Rattle.yard.specs.Faithful.{Walks, run_over, run_on, RunOf}
use Rattle.yard.proofs.Turns.{goes_on_lem, falls, from_ends, from_on}
use Rattle.format.specs.declared.Format.{Format}
use Rattle.format.specs.Sizes.{Sound}
use Rattle.written.specs.Inside.{Writes}

module _ {F : Format} (sound : Sound F) (writes : Writes F) where
  module _ (yard times : List ℕ) where
    -- by the hops not yet used, which fall where the walk goes on
    runs : (n : ℕ) (v : Visit) → hops_left F v.arrival.message < n → RunOf F yard times v (walk_from F yard times v)
    runs zero v h = absurd (omega arith)
    runs (suc n) v h =
        ⊎_elim
        (λ t.
        let on = eqb-true _ _ t in
        rw (from_on sound writes yard times v on)
        (run_on on (runs n (next_of F yard (sent_at F yard times v)) (omega (arith, falls sound writes yard times v (goes_on_lem sound writes yard times v on))))))
        (λ t. let off = eqb-false _ _ t in rw (from_ends sound writes yard times v off) (run_over off))
        (decided (eqb (end_of F yard (sent_at F yard times v)) sent_on))

    pub walk_runs : (v : Visit) → RunOf F yard times v (walk_from F yard times v)
    walk_runs v = runs (suc (hops_left F v.arrival.message)) v (omega arith)

    -- two runs from one visit are equal
    pub one_run : {v : Visit} {vs ws : List Visit} {end end' : ℕ} {last last' : List ℕ} → Walks F yard times v vs end last → Walks F yard times v ws end' last'
        → (vs ≡ ws) × (end ≡ end') × (last ≡ last')
    one_run (run_over off) (run_over off') = (refl, refl, refl)
    one_run (run_over off) (run_on on r) = absurd (off on)
    one_run (run_on on r) (run_over off) = absurd (off on)
    one_run {v} (run_on on r) (run_on on' r') = let same = one_run r r' in (ap (λ (l : List Visit). v ∷ l) same.0, same.1, same.2)

-- The law that other crates cite: a WRONG_LAST_HOP hides NO_ROUTE.
use mathlib.Core.Bool.{true}
use mathlib.Core.Path.{◌≡◌}
use Rattle.forwarding.specs.declared.View.{View}
use Rattle.rows.specs.Rows.{by_first}
use Rattle.forwarding.specs.Code.{code_wrong_last_hop, wrong_last_hop, codes, code_of}
use Rattle.std.specs.Prelude.{None}

pub hidden_no_route : (v : View) → v.chosen ≡ None → wrong_last_hop v ≡ true → code_of v ≡ code_wrong_last_hop
unfolding codes by_first
hidden_no_route v none wrong = rw (none, wrong)

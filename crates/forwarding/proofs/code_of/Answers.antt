-- `code_of`: by the route chosen, as the definition goes.
use Rattle.forwarding.proofs.Rows.{code_found}
use Rattle.forwarding.proofs.code_of.Goals as goal

pub returns-in-Some : goal.returns-in-Some
returns-in-Some c = code_found c.args.v c.in-Some.r c.in-Some.is _ c.code_on.ensures

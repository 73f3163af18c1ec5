-- `yard_ok`: the size is tested first, so that every sheet lies within the yard.
use Rattle.yard.proofs.Sheets.{yard_checked}
use Rattle.yard.proofs.yard_ok.Goals as goal

pub returns : goal.returns
returns c = search yard_checked

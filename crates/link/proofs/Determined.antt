-- Two answers that meet a function's promise are equal: what each ensures is an equation.
use mathlib.Core.Path.{◌≡◌}
use Rattle.rows.proofs.Laws.{both_are}
use Rattle.link.proofs.count_of.Reads as count_of
use Rattle.link.proofs.link_of.Reads as link_of
use Rattle.link.proofs.Link.verdict.Reads as verdict
use Rattle.link.proofs.Link.tally.Reads as tally

pub count_of_determined : (κs : _) (a : _) (x y : _) (e f : _) → count_of.Post κs a x e → count_of.Post κs a y f → x ≡ y
count_of_determined κs a x y e f = both_are

pub link_of_determined : (κs : _) (a : _) (x y : _) (e f : _) → link_of.Post κs a x e → link_of.Post κs a y f → x ≡ y
link_of_determined κs a x y e f = both_are

pub verdict_of_determined : (κs : _) (a : _) (x y : _) (e f : _) → verdict.Post κs a x e → verdict.Post κs a y f → x ≡ y
verdict_of_determined κs a x y e f = both_are

pub tally_of_determined : (κs : _) (a : _) (x y : _) (e f : _) → tally.Post κs a x e → tally.Post κs a y f → x ≡ y
tally_of_determined κs a x y e f = both_are

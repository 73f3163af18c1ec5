-- Two answers that meet what a function ensures are equal.
use mathlib.Core.Path.{◌≡◌, sym, ◌∙◌}
use Rattle.rows.proofs.Laws.{both_are}
use Rattle.refusal.specs.Refusal.{number_of}
use Rattle.refusal.proofs.Laws.{one_answer}
use Rattle.header.proofs.header_of.Reads as header_of
use Rattle.header.proofs.check.Reads as check
use Rattle.header.proofs.Header.is_query.Reads as is_query
use Rattle.header.proofs.Header.is_request.Reads as is_request

pub header_of_determined : (κs : _) (a : _) (x y : _) (e f : _) → header_of.Post κs a x e → header_of.Post κs a y f → x ≡ y
header_of_determined κs a x y e f = both_are

pub check_determined : (κs : _) (a : _) (x y : _) (e f : _) → check.Post κs a x e → check.Post κs a y f → x ≡ y
check_determined κs a x y e f p q = one_answer x y (p ∙ sym q)

-- the number that a header's check comes to: the first of the rows that applies, or 0
pub header_number_determined : (κs : _) (a : _) (x y : _) (e f : _) → check.Post κs a x e → check.Post κs a y f → number_of x ≡ number_of y
header_number_determined κs a x y e f p q = p ∙ sym q

pub is_query_determined : (κs : _) (a : _) (x y : _) (e f : _) → is_query.Post κs a x e → is_query.Post κs a y f → x ≡ y
is_query_determined κs a x y e f = both_are

pub is_request_determined : (κs : _) (a : _) (x y : _) (e f : _) → is_request.Post κs a x e → is_request.Post κs a y f → x ≡ y
is_request_determined κs a x y e f = both_are

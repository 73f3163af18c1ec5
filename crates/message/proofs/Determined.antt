-- Two answers that meet what a function ensures are equal.
use mathlib.Core.Path.{◌≡◌, sym, ◌∙◌}
use Rattle.rows.proofs.Laws.{both_are}
use Rattle.message.proofs.Once.{one_head, one_checked}
use Rattle.message.proofs.block_at.Reads as block_at
use Rattle.message.proofs.blocks_of.Reads as blocks_of
use Rattle.message.proofs.right_form.Reads as right_form
use Rattle.message.proofs.check.Reads as check
use Rattle.message.proofs.is_full.Reads as is_full

pub block_at_determined : (κs : _) (a : _) (x y : _) (e f : _) → block_at.Post κs a x e → block_at.Post κs a y f → x ≡ y
block_at_determined κs a x y e f p q = one_head x y (p ∙ sym q)

pub blocks_of_determined : (κs : _) (a : _) (x y : _) (e f : _) → blocks_of.Post κs a x e → blocks_of.Post κs a y f → x ≡ y
blocks_of_determined κs a x y e f = both_are

pub check_determined : (κs : _) (a : _) (x y : _) (e f : _) → check.Post κs a x e → check.Post κs a y f → x ≡ y
check_determined κs a x y e f p q = one_checked x y (p ∙ sym q)

pub right_form_determined : (κs : _) (a : _) (x y : _) (e f : _) → right_form.Post κs a x e → right_form.Post κs a y f → x ≡ y
right_form_determined κs a x y e f = both_are

pub is_full_determined : (κs : _) (a : _) (x y : _) (e f : _) → is_full.Post κs a x e → is_full.Post κs a y f → x ≡ y
is_full_determined κs a x y e f = both_are

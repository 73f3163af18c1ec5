-- Two answers that meet a function's promise are equal: what each ensures is an equation.
use mathlib.Core.Path.{◌≡◌}
use Rattle.rows.proofs.Laws.{both_are}
use Rattle.wire.proofs.be16.Reads as be16
use Rattle.wire.proofs.be32.Reads as be32
use Rattle.wire.proofs.be64.Reads as be64
use Rattle.wire.proofs.put16.Reads as put16
use Rattle.wire.proofs.put32.Reads as put32
use Rattle.wire.proofs.put64.Reads as put64
use Rattle.wire.proofs.copy_to.Reads as copy_to

pub be16_determined : (κs : _) (a : _) (x y : _) (e f : _) → be16.Post κs a x e → be16.Post κs a y f → x ≡ y
be16_determined κs a x y e f p q = both_are p q

pub be32_determined : (κs : _) (a : _) (x y : _) (e f : _) → be32.Post κs a x e → be32.Post κs a y f → x ≡ y
be32_determined κs a x y e f p q = both_are p q

pub be64_determined : (κs : _) (a : _) (x y : _) (e f : _) → be64.Post κs a x e → be64.Post κs a y f → x ≡ y
be64_determined κs a x y e f p q = both_are p q

pub put16_determined : (κs : _) (a : _) (x y : _) (e f : _) → put16.Post κs a x e → put16.Post κs a y f → e.0.now ≡ f.0.now
put16_determined κs a x y e f p q = both_are p q

pub put32_determined : (κs : _) (a : _) (x y : _) (e f : _) → put32.Post κs a x e → put32.Post κs a y f → e.0.now ≡ f.0.now
put32_determined κs a x y e f p q = both_are p q

pub put64_determined : (κs : _) (a : _) (x y : _) (e f : _) → put64.Post κs a x e → put64.Post κs a y f → e.0.now ≡ f.0.now
put64_determined κs a x y e f p q = both_are p q

pub copy_to_determined : (κs : _) (a : _) (x y : _) (e f : _) → copy_to.Post κs a x e → copy_to.Post κs a y f → e.0.now ≡ f.0.now
copy_to_determined κs a x y e f p q = both_are p q

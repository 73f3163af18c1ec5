-- Laws of what the entries promise.
use mathlib.Core.Path.{◌≡◌, sym, ◌∙◌}
use Rattle.unix.specs.Unix.{clock_unix, unix_of}
use Rattle.unix.proofs.Laws.{unix_zero}
use Rattle.servicebough.proofs.bough_clock_unix.Reads as bough_clock_unix

-- 0 units are answered exactly where the UNIX time is refused
pub bough_clock_unix_zero : (κs : _) (a : _) (x : _) (e : _) → bough_clock_unix.Post κs a x e
    → ((unix_of a.0 a.1.0).number ≡ clock_unix → x ≡ 0) × (x ≡ 0 → (unix_of a.0 a.1.0).number ≡ clock_unix)
bough_clock_unix_zero κs a x e p =
    let law = unix_zero a.0 a.1.0 in
    (λ refused. p ∙ law.0 refused, λ zero. law.1 (sym p ∙ zero))

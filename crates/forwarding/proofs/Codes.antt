-- No two forwarding codes have one byte: a code is settled by its byte.
use Rattle.std.specs.Prelude.{ℕ, ◌≡◌, cond, eqb}
use Rattle.std.proofs.Common.{refl}
use mathlib.Core.Path.{sym, ap, ◌∙◌}
use Rattle.forwarding.specs.declared.Code.{Code}
use Rattle.forwarding.specs.declared.Code.TheVariants.{NoError, WrongIf, PruneSent, PruneRcvd, Scoped, NoRoute, WrongLastHop, NotForwarding, ReachedRp, RpfIf, NoMulticast, NoSpace, AdminProhib}
use Rattle.forwarding.specs.Code.{byte_of}

-- the code of a byte
named : ℕ → Code
named n =
    cond (eqb n 0) NoError (
    cond (eqb n 1) WrongIf (
    cond (eqb n 2) PruneSent (
    cond (eqb n 3) PruneRcvd (
    cond (eqb n 4) Scoped (
    cond (eqb n 5) NoRoute (
    cond (eqb n 6) WrongLastHop (
    cond (eqb n 7) NotForwarding (
    cond (eqb n 8) ReachedRp (
    cond (eqb n 9) RpfIf (
    cond (eqb n 10) NoMulticast (
    cond (eqb n 129) NoSpace (AdminProhib))))))))))))

named_byte : (code : Code) → named (byte_of code) ≡ code
unfolding named
named_byte NoError = refl
named_byte WrongIf = refl
named_byte PruneSent = refl
named_byte PruneRcvd = refl
named_byte Scoped = refl
named_byte NoRoute = refl
named_byte WrongLastHop = refl
named_byte NotForwarding = refl
named_byte ReachedRp = refl
named_byte RpfIf = refl
named_byte NoMulticast = refl
named_byte NoSpace = refl
named_byte AdminProhib = refl

pub one_byte : (a b : Code) → byte_of a ≡ byte_of b → a ≡ b
one_byte a b same = sym (named_byte a) ∙ (ap named same ∙ named_byte b)

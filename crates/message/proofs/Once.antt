-- What code answers is settled by what the definitions make of it.
use Rattle.std.specs.Prelude.{ℕ, ◌≡◌, eqb, Option, Some, None, Result, Ok, Err}
use Rattle.std.proofs.Common.{refl, arith}
use mathlib.Core.Path.{sym, ap, ap₂}
use Rattle.refusal.specs.declared.Refusal.{Refusal}
use Rattle.refusal.proofs.Laws.{one_number, number_positive}
use Rattle.header.specs.declared.BlockKind.{BlockKind}
use Rattle.header.specs.declared.BlockKind.TheVariants.{Standard, Augmented}
use denote.Enum.Bare.{sameb}
use Rattle.header.specs.contracts.BlockKind.{the_type}
use Rattle.header.specs.Format.{standard}
use Rattle.message.specs.declared.BlockHead.{BlockHead}
use Rattle.message.specs.declared.Accepted.{Accepted}
use Rattle.message.specs.declared.Blocks.{Blocks}
use Rattle.header.specs.declared.Header.{Header}
use Rattle.message.specs.Inside.{Head, Checked, type_of, head_of, refused_message, checked_of}

-- no kind's type is 0
pub typed : (kind : BlockKind) → type_of kind ≡ 0 → ⊥
typed Standard e = absurd (omega (arith, e))
typed Augmented e = absurd (omega (arith, e))

-- a test for the kind of type 4 is one for its type
pub kind_told : (kind : BlockKind) → sameb the_type kind Standard ≡ eqb (type_of kind) standard
kind_told Standard = refl
kind_told Augmented = refl

-- no two kinds have one type
pub one_kind : (a b : BlockKind) → type_of a ≡ type_of b → a ≡ b
one_kind Standard Standard e = refl
one_kind Standard Augmented e = absurd (omega (arith, e))
one_kind Augmented Standard e = absurd (omega (arith, e))
one_kind Augmented Augmented e = refl

-- a block that is read, or none, by its type and its length
pub one_head : (a b : Option BlockHead) → head_of a ≡ head_of b → a ≡ b
one_head None None e = refl
one_head None (Some b) e = absurd (typed b.kind (sym (ap (λ (h : Head). h.kind) e)))
one_head (Some a) None e = absurd (typed a.kind (ap (λ (h : Head). h.kind) e))
one_head (Some a) (Some b) e =
    let kind : a.kind ≡ b.kind = one_kind a.kind b.kind (ap (λ (h : Head). h.kind) e) in
    let size : a.size ≡ b.size = ap (λ (h : Head). h.size) e in
    ap₂ (λ (k : BlockKind) (n : ℕ). Some (record { kind = k; size = n })) kind size

-- an accepted message by its header and its blocks, a refused one by its number
pub one_checked : (a b : Result Accepted Refusal) → checked_of a ≡ checked_of b → a ≡ b
unfolding refused_message
one_checked (Ok a) (Ok b) e =
    let header : a.header ≡ b.header = ap (λ (c : Checked). c.header) e in
    let blocks : a.blocks ≡ b.blocks = ap (λ (c : Checked). c.blocks) e in
    ap₂ (λ (h : Header) (b : Blocks). Ok (record { header = h; blocks = b })) header blocks
one_checked (Ok a) (Err f) e = absurd (omega (arith, number_positive f, ap (λ (c : Checked). c.number) e))
one_checked (Err d) (Ok b) e = absurd (omega (arith, number_positive d, ap (λ (c : Checked). c.number) e))
one_checked (Err d) (Err f) e = ap Err (one_number d f (ap (λ (c : Checked). c.number) e))

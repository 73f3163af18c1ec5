-- Two answers that meet a function's promise are equal.
use denote.Ref.{Bor}
use mathlib.Core.List.{List, [], ◌∷◌}
use mathlib.Core.Path.{◌≡◌, refl, sym, ap, ap₂, ◌∙◌}
use mathlib.Core.Bool.{true≢false}
use Prim.Native.Nat.{ℕ}
use lib.ListN.{get_or, drop}
use Rattle.std.specs.Prelude.{Option, Some, None, option_map}
use Rattle.std.specs.Iterator.{YieldsFirstRef}
use Rattle.rows.proofs.Laws.{both_are}
use Rattle.refusal.proofs.Laws.{one_answer}
use Rattle.standard.specs.declared.Standard.{Standard}
use Rattle.reply.specs.declared.Reader.{Reader}
use Rattle.reply.specs.declared.KnownBlocks.{KnownBlocks}
use Rattle.reply.specs.Reader.{Handed, handed, handed_at, Opens, Hands}
use Rattle.reply.specs.Inside.{left_of}
use Rattle.reply.proofs.check.Reads as check
use Rattle.reply.proofs.next_at.Reads as next_at
use Rattle.reply.proofs.next_known.Reads as next_known
use Rattle.reply.proofs.next_from.Reads as next_from
use Rattle.reply.proofs.copy_next.Reads as copy_next
use Rattle.reply.proofs.start_of.Reads as start_of
use Rattle.reply.proofs.known_blocks.Reads as known_blocks

pub check_determined : (κs : _) (a : _) (x y : _) (e f : _) → check.Post κs a x e → check.Post κs a y f → x ≡ y
check_determined κs a x y e f p q = one_answer x y (both_are p q)

pub next_at_determined : (κs : _) (a : _) (x y : _) (e f : _) → next_at.Post κs a x e → next_at.Post κs a y f → x ≡ y
next_at_determined κs a x y e f = both_are

pub next_known_determined : (κs : _) (a : _) (x y : _) (e f : _) → next_known.Post κs a x e → next_known.Post κs a y f → x ≡ y
next_known_determined κs a x y e f p q = both_are p.0 q.0

-- a block and the place behind it, or none, by what is handed out
one_handed : (place : ℕ) (x y : Option (Standard × ℕ)) → handed place x ≡ handed place y → x ≡ y
one_handed place None None e = refl
one_handed place None (Some y) e = absurd (true≢false (sym (ap (λ (h : Handed). h.found) e)))
one_handed place (Some x) None e = absurd (true≢false (ap (λ (h : Handed). h.found) e))
one_handed place (Some (b, n)) (Some (c, m)) e =
    ap₂ (λ (block : Standard) (behind : ℕ). Some (block, behind)) (ap (λ (h : Handed). h.block) e) (ap (λ (h : Handed). h.place) e)

pub next_from_determined : (κs : _) (a : _) (x y : _) (e f : _) → next_from.Post κs a x e → next_from.Post κs a y f → x ≡ y
next_from_determined κs a x y e f p q = one_handed a.1.0 x y (both_are p q)

pub start_of_determined : (κs : _) (a : _) (x y : _) (e f : _) → start_of.Post κs a x e → start_of.Post κs a y f → x ≡ y
start_of_determined κs a x y e f = both_are

-- the answer, and the bytes lent
pub copy_next_determined : (κs : _) (a : _) (x y : _) (e f : _) → copy_next.Post κs a x e → copy_next.Post κs a y f → (x ≡ y) × (e.1.1.0.now ≡ f.1.1.0.now)
copy_next_determined κs a x y e f p q = (both_are p.0 q.0, both_are p.1 q.1)

-- the reader that is opened
pub open_determined : (reply : Bor (List ℕ)) (x y : Reader) → Opens reply x → Opens reply y → x ≡ y
open_determined reply x y p q = λ i. record { reply = both_are p.holds q.holds i; place = both_are p.begins q.begins i }

-- what a call hands out, and the reader as it is left
pub next_determined : (r : Reader) (x y : Handed) (left also : Reader) → Hands r x left → Hands r y also → (x ≡ y) × (left ≡ also)
next_determined r x y left also p q =
    let same : x ≡ y = both_are p.hands q.hands in
    (same, (λ i. record { reply = both_are p.holds q.holds i; place = both_are (p.goes_on ∙ ap (λ (h : Handed). h.place) same) q.goes_on i }))

-- the same of the code, whose block says whether there was one
one_at : (place also : ℕ) (x y : Option Standard) → handed_at place x ≡ handed_at also y → x ≡ y
one_at place also None None e = refl
one_at place also None (Some y) e = absurd (true≢false (sym (ap (λ (h : Handed). h.found) e)))
one_at place also (Some x) None e = absurd (true≢false (ap (λ (h : Handed). h.found) e))
one_at place also (Some x) (Some y) e = ap (λ (h : Handed). Some h.block) e

pub reader_next_determined : (r : Reader) (x y : Option Standard) (left also : Reader) → Hands r (handed_at left.place x) left → Hands r (handed_at also.place y) also
    → (x ≡ y) × (left ≡ also)
reader_next_determined r x y left also p q =
    let same = next_determined r (handed_at left.place x) (handed_at also.place y) left also p q in
    (one_at left.place also.place x y same.0, same.1)

-- the blocks that an iterator over them begins with; the one that it hands out next, and those that it has left
pub known_blocks_determined : (κs : _) (a : _) (x y : _) (e f : _) → known_blocks.Post κs a x e → known_blocks.Post κs a y f → left_of x ≡ left_of y
known_blocks_determined κs a x y e f p q = both_are p.1 q.1

pub known_next_determined : (blocks : KnownBlocks) (x y : Option (Bor (List ℕ))) (left also : KnownBlocks)
    → YieldsFirstRef left_of blocks x left → YieldsFirstRef left_of blocks y also
    → (option_map (λ (b : Bor (List ℕ)). b.now) x ≡ option_map (λ (b : Bor (List ℕ)). b.now) y) × (left_of left ≡ left_of also)
known_next_determined blocks None None left also p q = (refl, both_are p.1 q.1)
known_next_determined blocks None (Some y) left also p q = let e : [] ≡ y.now ∷ left_of also = sym p.0 ∙ q in cc
known_next_determined blocks (Some x) None left also p q = let e : [] ≡ x.now ∷ left_of left = sym q.0 ∙ p in cc
known_next_determined blocks (Some x) (Some y) left also p q =
    let e : x.now ∷ left_of left ≡ y.now ∷ left_of also = sym p ∙ q in
    (ap (λ (l : List (List ℕ)). Some (get_or l 0 [])) e, ap (λ (l : List (List ℕ)). drop 1 l) e)

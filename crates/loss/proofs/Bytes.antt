-- The bytes of a link, written as its verdict and three numbers of 64 bits.
use Prim.Native.Nat.{ℕ, ◌≤◌}
use mathlib.Core.Path.{◌≡◌, refl, sym, ap, ◌∙◌}
use mathlib.Core.List.{List, [], ◌∷◌, ◌++◌, append-nil}
use native.Mathlib.Omega.{arith}
use lib.ListN.{length, drop, length-append, drop_of_length-le}
use Rattle.wire.specs.Numbers.{bytes64}
use Rattle.wire.specs.Parts.{splice}
use Rattle.wire.proofs.Laws.{length-bytes, length-splice, splice_front, splice_join}
use Rattle.wire.proofs.Behind.{three_written}
use Rattle.link.specs.declared.Link.{Link}
use Rattle.link.specs.declared.Tally.{Tally}
use Rattle.link.specs.Link.{verdict_of, tally_of, link_bytes}
use Rattle.loss.specs.Inside.{link_size}

-- a link has 32 bytes
pub link_size_lem : (l : Link) → length (link_bytes l) ≡ link_size
unfolding link_bytes
link_size_lem l =
    let e = length-bytes 3 in
    rw (length-append, length-append, e (tally_of l).sent, e (tally_of l).received, e (tally_of l).lost)

-- the verdict and 7 zeros
abbrev pub head : ℕ → List ℕ
head v = v ∷ 0 ∷ 0 ∷ 0 ∷ 0 ∷ 0 ∷ 0 ∷ 0 ∷ []

-- as many bytes as there are take the place of all
whole : (xs bytes : List ℕ) → length xs ≡ link_size → length bytes ≡ link_size → splice bytes 0 xs ≡ xs
whole xs bytes e g = let h : length bytes ≤ length xs = omega arith in splice_front bytes xs ∙ rw (drop_of_length-le bytes h) (append-nil xs)

pub written_link : (l : Link) (t : Tally) (v : ℕ) (bytes a b c d : List ℕ) → length bytes ≡ link_size → t ≡ tally_of l → v ≡ verdict_of l
    → a ≡ head v ++ drop 8 bytes → b ≡ splice a 8 (bytes64 t.sent) → c ≡ splice b 16 (bytes64 t.received) → d ≡ splice c 24 (bytes64 t.lost)
    → d ≡ link_bytes l
unfolding link_bytes
written_link l t v bytes a b c d long et ev ea eb ec ed =
    let first : a ≡ splice bytes 0 (head v) = ea ∙ sym (splice_front bytes (head v)) in
    let room : 24 ≤ length a = rw first (rw (length-splice bytes 0 (head v) (omega arith)) (omega arith)) in
    let others : d ≡ splice a 8 (bytes64 t.sent ++ bytes64 t.received ++ bytes64 t.lost) = three_written 3 8 t.sent t.received a b c eb ec t.lost d ed room in
    let joined : splice a 8 (bytes64 t.sent ++ bytes64 t.received ++ bytes64 t.lost) ≡ splice bytes 0 (head v ++ (bytes64 t.sent ++ bytes64 t.received ++ bytes64 t.lost)) =
    rw first (splice_join bytes 0 (head v) (omega arith) (bytes64 t.sent ++ bytes64 t.received ++ bytes64 t.lost)) in
    let all : head v ++ (bytes64 t.sent ++ bytes64 t.received ++ bytes64 t.lost) ≡ link_bytes l = rw (ev, et) refl in
    others ∙ joined ∙ ap (splice bytes 0) all ∙ whole (link_bytes l) bytes (link_size_lem l) long

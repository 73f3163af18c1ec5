-- What each turn of the loop that writes the links shows: what is to be written is what stands there and the links from here on.
use Prim.Native.Nat.{ℕ, ◌+◌, ◌*◌, ◌-◌, ◌≤◌}
use mathlib.Core.Path.{◌≡◌, refl, sym, ap, ◌∙◌}
use mathlib.Core.List.{List, [], ◌∷◌, ◌++◌, map, append-nil, append_assoc}
use mathlib.Core.Logic.{◌⊎◌, inl, inr}
use native.Mathlib.Omega.{arith}
use native.Mathlib.Nat.{add-zero}
use lib.ListN.{length, take, take-append-drop, length-map}
use borrow.Rule.Slice.PartMut.{put_mid}
use lib.Seq.{drop-drop}
use Rattle.std.specs.declared.iter.Zip.{Zip}
use Rattle.std.specs.Prelude.{None}
use Rattle.std.specs.Iterator.{YieldsFirstRef}
use Rattle.std.specs.Iterator.Adapters.{zip_first, zip_second}
use Rattle.wire.specs.Parts.{part, splice}
use Rattle.wire.proofs.Laws.{length-splice, splice_join}
use Rattle.header.specs.Format.{header_size, standard_size, most}
use Rattle.message.specs.Blocks.{standards, standard_blocks}
use Rattle.message.proofs.Laws.{standards_fit}
use Rattle.standard.specs.declared.Standard.{Standard}
use Rattle.standard.specs.Standard.{standard_of}
use Rattle.reply.specs.declared.KnownBlocks.{KnownBlocks}
use Rattle.reply.specs.Reader.{standards_in}
use Rattle.reply.specs.Inside.{left_of}
use Rattle.reply.proofs.Laws.{item_long}
use Rattle.link.specs.declared.Link.{Link}
use Rattle.link.specs.Link.{count_of, link_of, link_bytes}
use Rattle.loss.specs.Loss.{links_from, links_of, links_in, links_bytes, links_size}
use Rattle.loss.specs.Inside.{link_size}
use Rattle.loss.proofs.Bytes.{link_size_lem}
use Rattle.format.specs.Sizes.{ipv4, ipv4_sound}

-- beside no blocks there are no links
no_links : (near near' : Standard) (xs : List Standard) → links_from near near' xs [] ≡ []
unfolding links_from
no_links near near' [] = refl
no_links near near' (far ∷ xs) = refl

links_beside : (xs : List Standard) → links_of xs [] ≡ []
unfolding links_of
links_beside [] = refl
links_beside (near ∷ xs) = refl

-- nothing in the place of nothing
splice_none : (s : List ℕ) (at : ℕ) → splice s at [] ≡ s
unfolding splice
splice_none s at = rw (add-zero at, append-nil (take at s)) (take-append-drop at s)

-- a link that is written over its bytes
placed : (links now : List ℕ) (at : ℕ) (l : Link) → now ≡ link_bytes l → put_mid at (at + link_size - at) links now ≡ splice links at (link_bytes l)
unfolding splice
placed links now at l e =
    let n : at + link_size - at ≡ link_size = omega arith in
    rw (n, e, link_size_lem l, drop-drop, ← append_assoc)

-- the links from a block of each message on, by the blocks behind them
abbrev pub links_left : List ℕ → List ℕ → List (List ℕ) → List (List ℕ) → List ℕ
links_left near near' xs ys = links_bytes (links_from (standard_of near) (standard_of near') (map standard_of xs) (map standard_of ys))

-- what two iterators side by side have left
abbrev pub Pairs : Type 0
Pairs = Zip KnownBlocks KnownBlocks

abbrev pub firsts : Pairs → List (List ℕ)
firsts pairs = left_of (zip_first pairs)

abbrev pub seconds : Pairs → List (List ℕ)
seconds pairs = left_of (zip_second pairs)

-- where no pair is handed out one of them has none left
pub either_over : (pairs : Pairs)
    → ((u : KnownBlocks) × YieldsFirstRef left_of (zip_first pairs) None u) ⊎ ((u : KnownBlocks) × YieldsFirstRef left_of (zip_second pairs) None u)
    → (firsts pairs ≡ []) ⊎ (seconds pairs ≡ [])
either_over pairs (inl o) = inl o.1.0
either_over pairs (inr o) = inr o.1.0

module _ (s t before : List ℕ) where
  pub record Between (links near near' : List ℕ) (pairs : Pairs) (at : ℕ) : Type 0 where
    pub one : length near ≡ standard_size
    pub other : length near' ≡ standard_size
    pub room : at + link_size * length (firsts pairs) ≤ links_size
    pub long : links_size ≤ length before
    pub same : length before ≡ length links
    pub left : splice before 0 (links_bytes (links_in s t)) ≡ splice links at (links_left near near' (firsts pairs) (seconds pairs))

  -- where either message has no block nothing is written
  pub none_first : (pairs : Pairs) → firsts pairs ≡ standard_blocks ipv4 s → seconds pairs ≡ standard_blocks ipv4 t → (firsts pairs ≡ []) ⊎ (seconds pairs ≡ [])
      → before ≡ splice before 0 (links_bytes (links_in s t))
  unfolding links_of standards_in links_bytes
  none_first pairs e g (inl none) = let nothing : standard_blocks ipv4 s ≡ [] = sym e ∙ none in rw nothing (sym (splice_none before 0))
  none_first pairs e g (inr none) =
      let nothing : standard_blocks ipv4 t ≡ [] = sym g ∙ none in
      rw (nothing, links_beside (map standard_of (standard_blocks ipv4 s))) (sym (splice_none before 0))

  pub between_first : (pairs left : Pairs) (near near' : List ℕ) → header_size ≤ length s → length s ≤ most → links_size ≤ length before
      → firsts pairs ≡ standard_blocks ipv4 s → seconds pairs ≡ standard_blocks ipv4 t → firsts pairs ≡ near ∷ firsts left → seconds pairs ≡ near' ∷ seconds left
      → Between before near near' left 0
  unfolding links_of standards_in standard_blocks
  between_first pairs left near near' low h room e g p q =
      let firsts_are : standard_blocks ipv4 s ≡ near ∷ firsts left = sym e ∙ p in
      let seconds_are : standard_blocks ipv4 t ≡ near' ∷ seconds left = sym g ∙ q in
      record {
        one = item_long _ _ _ _ p;
        other = item_long _ _ _ _ q;
        room = omega (arith, standards_fit ipv4_sound s low, ap (λ (l : List (List ℕ)). length l) firsts_are, length-map (standards ipv4 s) (λ p. part p standard_size s));
        long = room;
        same = refl;
        left = rw (firsts_are, seconds_are);
      }

  module _ (links near near' : List ℕ) (pairs : Pairs) (at : ℕ) (b : Between links near near' pairs at) where
    module _ (left : Pairs) (far far' : List ℕ) (p : firsts pairs ≡ far ∷ firsts left) (q : seconds pairs ≡ far' ∷ seconds left) where
      here : at + link_size ≤ links_size
      here = omega (arith, b.room, ap (λ (l : List (List ℕ)). length l) p)

      pub link_inside : at + link_size ≤ length links
      link_inside = omega (arith, here, b.long, b.same)

      pub between_on : (l : Link) (bytes : List ℕ) → l ≡ link_of (count_of (standard_of near) (standard_of far)) (count_of (standard_of near') (standard_of far'))
          → bytes ≡ link_bytes l → Between (put_mid at (at + link_size - at) links bytes) far far' left (at + link_size)
      unfolding links_from links_bytes
      between_on l bytes el eb =
          let now : List ℕ = put_mid at (at + link_size - at) links bytes in
          let en : now ≡ splice links at (link_bytes l) = placed links bytes at l eb in
          let size = link_size_lem l in
          let place : at + link_size ≡ at + length (link_bytes l) = ap (λ (n : ℕ). at + n) (sym size) in
          let behind : List ℕ = links_left far far' (firsts left) (seconds left) in
          let join : splice links at (link_bytes l ++ behind) ≡ splice now (at + link_size) behind =
          rw (en, place) (sym (splice_join links at (link_bytes l) (omega (arith, link_inside, size)) behind)) in
          record {
            one = item_long _ _ _ _ p;
            other = item_long _ _ _ _ q;
            room = omega (arith, b.room, ap (λ (x : List (List ℕ)). length x) p);
            long = b.long;
            same = b.same ∙ rw en (sym (length-splice links at (link_bytes l) (omega (arith, link_inside, size))));
            left = b.left ∙ rw (p, q, ← el) join;
          }

    pub between_over : (firsts pairs ≡ []) ⊎ (seconds pairs ≡ []) → links ≡ splice before 0 (links_bytes (links_in s t))
    unfolding links_from links_bytes
    between_over (inl none) = sym (b.left ∙ rw none (splice_none links at))
    between_over (inr none) = sym (b.left ∙ rw (none, no_links (standard_of near) (standard_of near') (map standard_of (firsts pairs))) (splice_none links at))

-- The loss between two Replies (document 02, M-100): a link for each two neighbouring blocks, in their order, and their bytes.
use Rattle.std.specs.Prelude.{ℕ, List, [], ◌∷◌, ◌++◌, ltb, length}
use Rattle.rows.specs.Rows.{Row, row, by_first}
use Rattle.wire.specs.Parts.{splice}
use Rattle.standard.specs.declared.Standard.{Standard}
use Rattle.reply.specs.Reader.{standards_in}
use Rattle.link.specs.declared.Link.{Link}
use Rattle.loss.specs.Path.{pair_rows}
use Rattle.link.specs.Link.{count_of, link_of, link_bytes}

-- the links from a block of each Reply on, by the blocks behind them
unfoldable pub links_from : Standard → Standard → List Standard → List Standard → List Link
links_from near near' [] ys = []
links_from near near' (far ∷ xs) [] = []
links_from near near' (far ∷ xs) (far' ∷ ys) = link_of (count_of near far) (count_of near' far') ∷ links_from far far' xs ys

-- the links of two lists of blocks; where one has a single block there is none
unfoldable pub links_of : List Standard → List Standard → List Link
links_of [] ys = []
links_of (near ∷ xs) [] = []
links_of (near ∷ xs) (near' ∷ ys) = links_from near near' xs ys

-- those of two Replies
abbrev pub links_in : List ℕ → List ℕ → List Link
links_in first second = links_of (standards_in first) (standards_in second)

-- the bytes of some links, one behind the other
unfoldable pub links_bytes : List Link → List ℕ
links_bytes [] = []
links_bytes (l ∷ ls) = link_bytes l ++ links_bytes ls

-- the bytes that are lent for them: 26 links of 32
abbrev pub links_size : ℕ
links_size = 832

-- 1, too little is lent, is tried first
abbrev pub links_room : ℕ
links_room = 1

abbrev pub loss_rows : List ℕ → List ℕ → ℕ → List Row
loss_rows first second room = row links_room (ltb room links_size) ∷ pair_rows first second

-- the number, and the bytes lent as they are left
pub record Written : Type 0 where
  pub number : ℕ
  pub links : List ℕ

abbrev pub written : ℕ → List ℕ → Written
written number links = record { number = number; links = links }

-- refused, nothing is written; else 0, and the links stand over the first bytes lent; those past them stay
unfoldable pub loss_of : List ℕ → List ℕ → List ℕ → Written
loss_of first second links =
    by_first (λ number. written number links) (written 0 (splice links 0 (links_bytes (links_in first second)))) (loss_rows first second (length links))

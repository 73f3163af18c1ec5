-- Two Replies over one path (document 02, M-100), and what refuses two.
use Rattle.std.specs.Prelude.{ℕ, Bool, true, false, not, ◌&&◌, List, [], ◌∷◌, ◌++◌, eqb}
use Rattle.rows.specs.Rows.{Row, row}
use Rattle.standard.specs.declared.Standard.{Standard}
use Rattle.reply.specs.Check.{reply_rows}
use Rattle.reply.specs.Reader.{standards_in}

-- 42: not over one path
abbrev pub other_path : ℕ
other_path = 42

-- two blocks of one router: their outgoing and their upstream address are the same
abbrev pub same_router : Standard → Standard → Bool
same_router a b = eqb a.outgoing b.outgoing && eqb a.upstream b.upstream

-- as many blocks, and the same router at each place, the last too
unfoldable pub same_path : List Standard → List Standard → Bool
same_path [] [] = true
same_path [] (b ∷ ys) = false
same_path (a ∷ xs) [] = false
same_path (a ∷ xs) (b ∷ ys) = same_router a b && same_path xs ys

-- what refuses, in this order: 5, 41, 7 and 13 of the first Reply, the same of the second, 42
unfoldable pub pair_rows : List ℕ → List ℕ → List Row
pair_rows first second =
    reply_rows first ++ (reply_rows second ++ (row other_path (not (same_path (standards_in first) (standards_in second))) ∷ []))

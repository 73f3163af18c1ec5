-- The drop table's rows on a message by itself, 5 SIZE to 13 BLOCKS (document 01, "Drop numbers"); those on its header are in crate `header`.
use Rattle.std.specs.Prelude.{ℕ, Bool, not, ◌||◌, List, [], ◌∷◌, ◌++◌, ltb, length}
use Rattle.rows.specs.Rows.{Row, row}
use Rattle.header.specs.Header.{header_of}
use Rattle.header.specs.Rows.{header_rows}
use Rattle.message.specs.Blocks.{right_form}
use Rattle.format.specs.declared.Format.{Format}

-- the numbers, by their names in the table
abbrev pub drop_size : ℕ
drop_size = 5

abbrev pub drop_blocks : ℕ
drop_blocks = 13

-- shorter than a header or longer than the most (IPv4: under 20 bytes or over 1472)
abbrev pub wrong_size : Format → ℕ → Bool
wrong_size F size = ltb size F.header || ltb F.most size

-- the rows on a message, in the table's order
unfoldable pub message_rows : Format → List ℕ → List Row
message_rows F s = row drop_size (wrong_size F (length s)) ∷ (header_rows F (header_of s) ++ (row drop_blocks (not (right_form F s)) ∷ []))

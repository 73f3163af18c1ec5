-- The drop table's rows on the header of a message, 6 TYPE to 12 CLIENT (document 01, "Drop numbers").
use Rattle.std.specs.Prelude.{ℕ, not, List, [], ◌∷◌, eqb}
use Rattle.rows.specs.Rows.{Row, row}
use Rattle.header.specs.declared.Header.{Header}
use Rattle.header.specs.Header.{query_or_request, right_length, right_group, right_source, names_nothing, right_client}
use Rattle.format.specs.declared.Format.{Format}

-- the numbers, by their names in the table
abbrev pub drop_type : ℕ
drop_type = 6

abbrev pub drop_header : ℕ
drop_header = 7

abbrev pub drop_hops : ℕ
drop_hops = 8

abbrev pub drop_group : ℕ
drop_group = 9

abbrev pub drop_source : ℕ
drop_source = 10

abbrev pub drop_pair : ℕ
drop_pair = 11

abbrev pub drop_client : ℕ
drop_client = 12

-- the rows on the header
unfoldable pub header_rows : Format → Header → List Row
header_rows F h =
    row drop_type (not (query_or_request h))
    ∷ row drop_header (not (right_length F h))
    ∷ row drop_hops (eqb h.hops 0)
    ∷ row drop_group (not (right_group h))
    ∷ row drop_source (not (right_source h))
    ∷ row drop_pair (names_nothing h)
    ∷ row drop_client (not (right_client h))
    ∷ []

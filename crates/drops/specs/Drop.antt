-- The drop table (document 01, "Drop numbers"): one list of rows in the order tried, of which the first that applies drops what
-- arrives.
use Rattle.std.specs.Prelude.{ℕ, Bool, true, false, not, ◌&&◌, ◌||◌, List, [], ◌∷◌, ◌++◌, leb, ltb, eqb, Option, Some, None}
use Rattle.rows.specs.Rows.{Row, row, first_of}
use Rattle.address.specs.Addresses.{link_scoped}
use Rattle.recent.specs.Layout.{well_formed}
use Rattle.recent.specs.Entries.{seen_in}
use Rattle.sheet.specs.Sheet.{valid_sheet, layout_of}
use Rattle.tables.specs.Tables.{holder_of}
use Rattle.header.specs.declared.Header.{Header}
use Rattle.header.specs.Format.{note_size}
use Rattle.header.specs.Header.{header_of}
use Rattle.message.specs.Room.{hops_used}
use Rattle.message.specs.Check.{message_rows}
use Rattle.drops.specs.Arrival.{Arrival, is_query, is_request, last_hop_for}
use Rattle.format.specs.declared.Format.{Format}
use Rattle.format.specs.Sizes.{output_size}

-- the numbers, by their names in the table; 5 to 13 are those of a message by itself
abbrev pub drop_room : ℕ
drop_room = 1

abbrev pub drop_state : ℕ
drop_state = 2

abbrev pub drop_sheet : ℕ
drop_sheet = 3

abbrev pub drop_iface : ℕ
drop_iface = 4

abbrev pub drop_dest : ℕ
drop_dest = 14

abbrev pub drop_near : ℕ
drop_near = 15

abbrev pub drop_count : ℕ
drop_count = 16

abbrev pub drop_seen : ℕ
drop_seen = 17

abbrev pub drop_last_hop : ℕ
drop_last_hop = 18

-- the last of them
abbrev pub last_drop : ℕ
last_drop = drop_last_hop

-- the TTL with which a Request comes from a neighbour
abbrev pub near_ttl : ℕ
near_ttl = 255

-- an interface holds the address
abbrev pub is_held : Option ℕ → Bool
is_held (Some i) = true
is_held None = false

-- what the host lends with the call: by the bytes for message and record, the recent list, and of the sheet whether it is valid and how
-- many interfaces it has
unfoldable pub lending_rows : ℕ → ℕ → List ℕ → Bool → ℕ → ℕ → List Row
lending_rows output note recent valid interfaces receiving =
    row drop_room (ltb output output_size || ltb note note_size)
    ∷ row drop_state (not (well_formed recent))
    ∷ row drop_sheet (not valid)
    ∷ row drop_iface (leb interfaces receiving)
    ∷ []

-- how the message came, with so many of its hops used
unfoldable pub delivery_rows : Format → List ℕ → List ℕ → Header → ℕ → ℕ → ℕ → List Row
delivery_rows F sheet recent h used destination ttl =
    row drop_dest (not (is_held (holder_of F sheet destination) || link_scoped destination))
    ∷ row drop_near (is_request h && not (eqb ttl near_ttl))
    ∷ row drop_count (is_request h && leb h.hops used)
    ∷ row drop_seen (is_query h && seen_in recent h.client h.id)
    ∷ []

-- whether this is the proper last hop
unfoldable pub route_rows : Bool → Header → ℕ → List Row
route_rows proper h destination =
    row drop_last_hop (is_query h && link_scoped destination && not proper)
    ∷ []

-- the whole table: 1 to 4, 5 to 13 on the message by itself, 14 to 17, 18. Document 01 has one row more, which no input meets
-- (law `no_previous_idle`)
unfoldable pub table : Format → Arrival → List ℕ → List ℕ → ℕ → ℕ → List Row
table F a sheet recent output note =
    let m = a.message in
    let h = header_of m in
    lending_rows output note recent (valid_sheet F sheet) (layout_of F sheet).interfaces a.receiving
    ++ (message_rows F m
    ++ (delivery_rows F sheet recent h (hops_used F m) a.destination a.ttl
    ++ route_rows (last_hop_for F sheet h) h a.destination))

-- the number of the first row that applies; 0 is no drop
abbrev pub drop_of : Format → Arrival → List ℕ → List ℕ → ℕ → ℕ → ℕ
drop_of F a sheet recent output note = first_of (table F a sheet recent output note)

-- Inside: what only the contracts of inner functions cite, here and in the crates above. No entry's promise rests on it, and a reader of the definitions may pass it over.
-- Here: the verdict on what arrives: the drop number, and for an accepted message all that was found out on the way.
use Rattle.std.specs.Prelude.{ℕ, Bool, false, ◌&&◌, List, [], ◌++◌, take, drop, Option, None, Result, Ok, Err}
use Rattle.rows.specs.Rows.{Row, by_first}
use Rattle.header.specs.declared.Header.{Header}
use Rattle.message.specs.declared.Blocks.{Blocks}
use Rattle.header.specs.Format.{note_size}
use Rattle.header.specs.Header.{header_of}
use Rattle.message.specs.Inside.{no_header, no_blocks, blocks_seen}
use Rattle.drops.specs.declared.Arrival as code
use Rattle.drops.specs.declared.Judged.{Judged}
use Rattle.refusal.specs.declared.Refusal.{Refusal}
use Rattle.refusal.specs.Refusal.{number}
use Rattle.route_entry.specs.declared.Route.{Route}
use Rattle.drops.specs.Arrival.{Arrival, arrival, is_query, route_for, last_hop_for}
use Rattle.drops.specs.Drop.{lending_rows, delivery_rows, route_rows, table}
use Rattle.format.specs.declared.Format.{Format}
use Rattle.format.specs.Sizes.{output_size}

-- rows 1 and 2: what is lent besides the sheet
abbrev pub lent_rows : ℕ → ℕ → List ℕ → List Row
lent_rows output note recent = take 2 (lending_rows output note recent false 0 0)

-- rows 3 and 4: the sheet, and the receiving interface
abbrev pub sheet_rows : Bool → ℕ → ℕ → List Row
sheet_rows valid interfaces receiving = drop 2 (lending_rows 0 0 [] valid interfaces receiving)

-- what arrives, as code has it
abbrev pub arrived : code.Arrival → Arrival
arrived a = arrival a.message.now a.destination a.receiving a.ttl

-- what is found out on the way: the number, 0 for no drop, and what the answer needs
pub record Verdict : Type 0 where
  pub number : ℕ
  pub header : Header
  pub blocks : Blocks
  pub chosen : Option Route
  pub proper : Bool

-- a drop: its number, and nothing else
unfoldable pub drop_verdict : ℕ → Verdict
drop_verdict number =
    record { number = number; header = no_header; blocks = no_blocks; chosen = None; proper = false }

-- number 0: the header and the blocks of the message, the route for it, and whether this is a Query's proper last hop
unfoldable pub pass_verdict : Format → Header → Blocks → List ℕ → Verdict
pass_verdict F h blocks sheet =
    record { number = 0; header = h; blocks = blocks; chosen = route_for F sheet h; proper = is_query h && last_hop_for F sheet h }

-- as code has it
abbrev pub verdict_by : Result Judged Refusal → Verdict
verdict_by (Ok j) = record { number = 0; header = j.header; blocks = j.blocks; chosen = j.chosen; proper = j.proper }
verdict_by (Err refusal) = drop_verdict (number refusal)

-- from row 14 on, for a message of this header and these blocks
unfoldable pub routed_of : Format → Header → Blocks → ℕ → ℕ → List ℕ → List ℕ → Verdict
routed_of F h blocks destination ttl sheet recent =
    by_first drop_verdict (pass_verdict F h blocks sheet)
    (delivery_rows F sheet recent h blocks.count destination ttl ++ route_rows (last_hop_for F sheet h) h destination)

-- the verdict on what arrives, where rows 1 and 2 do not apply: by the table from row 3 on
unfoldable pub judged_of : Format → Arrival → List ℕ → List ℕ → Verdict
judged_of F a sheet recent =
    let m = a.message in
    by_first drop_verdict (pass_verdict F (header_of m) (blocks_seen F m) sheet) (drop 2 (table F a sheet recent output_size note_size))

-- the verdict on what arrives, by the whole table
unfoldable pub verdict_of : Format → Arrival → List ℕ → List ℕ → ℕ → ℕ → Verdict
verdict_of F a sheet recent output note =
    let m = a.message in
    by_first drop_verdict (pass_verdict F (header_of m) (blocks_seen F m) sheet) (table F a sheet recent output note)

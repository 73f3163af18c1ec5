-- All that the worked examples and the wrong programs compute with, layer by layer: `unfolding opened`.
use Prim.Native.Nat.{ℕ}
use Rattle.wire.specs.Numbers.{be, bytes}
use Rattle.wire.specs.Parts.{splice, all_zero, blank}
use Rattle.rows.specs.Rows.{by_first}
use Rattle.clock.specs.Clock.{time_for, start_of, advance_of}
use Rattle.unix.specs.Unix.{unix_of}
use Rattle.clock.specs.Readings.{after_by, issues_by}
use Rattle.block.specs.Sum.{carried, sum_from, sum_ok}
use Rattle.block.specs.Block.{frame_ok}
use Rattle.prefix.specs.Prefix.{hosts, same_prefix, zero_past}
use Rattle.interface.specs.Interface.{interface_at, interface_ok}
use Rattle.route_entry.specs.Route.{route_at}
use Rattle.route_rules.specs.Rules.{route_ok}
use Rattle.sheet_block.specs.Every.{every, listed}
use Rattle.sheet_block.specs.Rules.{block_ok}
use Rattle.sheet.specs.Sheet.{interface_blocks_in, interface_blocks, entries_in, interfaces_in, routes_in, interface_block_ok, route_block_ok, block_ok_with, valid_sheet, counted, layout_of}
use Rattle.tables.specs.Tables.{interface_of, route_of, interfaces_of, routes_of, prohibited_of, holder_from, holder_of}
use Rattle.route.specs.Choice.{serves_both, serves_group, serves_source, longer, longest_by, or_else, which_route}
use Rattle.last_hop.specs.LastHop.{reaches, some_reaches, proper_last_hop}
use Rattle.forwarding.specs.Code.{codes}
use Rattle.response.specs.Fill.{filled_of, block_of, ends_trace}
use Rattle.written.specs.Bytes.{block_bytes, note_bytes}
use Rattle.header.specs.Header.{header_of}
use Rattle.message.specs.Blocks.{fits_in, begins, blocks_by, blocks_from, blocks_of, total_size, standard_places, last_or, standards, blocks_end, standard_first, fills_message, right_form, standard_blocks}
use Rattle.header.specs.Rows.{header_rows}
use Rattle.message.specs.Check.{message_rows}
use Rattle.recent.specs.Layout.{well_formed}
use Rattle.recent.specs.Entries.{empty, first_entries, some_is_of, seen_in, entered_in}
use Rattle.drops.specs.Arrival.{route_for, last_hop_for}
use Rattle.drops.specs.Drop.{lending_rows, delivery_rows, route_rows, table}
use Rattle.view.specs.View.{incoming_for, view_with}
use Rattle.view.specs.Room.{room_with}
use Rattle.sending.specs.Answer.{longer_message, longer_answer, sent_by}
use Rattle.engine.specs.Step.{recent_after, step_of}
use Rattle.yard.specs.Yard.{sheet_at, yard_ok, lowest_from, holder_in}
use Rattle.yard.specs.Walk.{sent_for, end_of, walk_by, walk_from, walk_rows, walk_of}
use Rattle.text.specs.Ascii.{ascii}
use Rattle.input.specs.Input.{head_of, visit_of, times_of, walk_in, walk_for}
use Rattle.text.specs.Text.{decimal, dotted, addresses, code_text, line_of, lines_of, end_text, first_line, walk_text, text_of}
use Rattle.worked.specs.Example.{linked_routers, standards_of, request_with, traced_in, sheet_block_bytes, two_routers, query_for, traced, paper_input, paper_text}

unfoldable pub opened : ℕ
unfolding be bytes splice all_zero by_first time_for start_of advance_of unix_of after_by issues_by carried sum_from sum_ok frame_ok hosts same_prefix zero_past interface_at interface_ok route_at route_ok every listed block_ok interface_blocks_in interface_blocks entries_in interfaces_in routes_in interface_block_ok route_block_ok block_ok_with valid_sheet counted layout_of interface_of route_of interfaces_of routes_of prohibited_of holder_from holder_of serves_both serves_group serves_source longer longest_by or_else which_route reaches some_reaches proper_last_hop codes filled_of block_of ends_trace block_bytes note_bytes header_of fits_in begins blocks_by blocks_from blocks_of total_size standard_places last_or standards blocks_end standard_first fills_message right_form standard_blocks header_rows message_rows well_formed empty first_entries some_is_of seen_in entered_in route_for last_hop_for lending_rows delivery_rows route_rows table incoming_for view_with room_with longer_message longer_answer sent_by recent_after step_of sheet_at yard_ok lowest_from holder_in sent_for end_of walk_by walk_from walk_rows walk_of ascii head_of visit_of times_of walk_in walk_for decimal dotted addresses code_text line_of lines_of end_text first_line walk_text text_of blank sheet_block_bytes linked_routers two_routers query_for standards_of request_with traced_in traced paper_input paper_text
opened = 0

-- The laws of messages that other crates cite.

-- an accepted message, one to which no row of 5 to 13 applies: what is known of it, and what the check answers for it
pub use Rattle.message.proofs.Accept.{Accepted, none_applies, applies_none, check-number, check_accepts, accepts_as, accepted_kinds, accepted_query, request_has_standard}
-- a Query always has room and a Request a type 4 block, so that there is always a place for 0x81
pub use Rattle.message.proofs.Accept.{query_has_room, accepted_request, no_room_has_standard}
pub use Rattle.message.proofs.Append.{request_formed}
-- where its type 4 blocks stand, also found one by one, from each block to the next
pub use Rattle.message.proofs.Standards.{standards_fit, standards_few, last_high, all_standards, standards_more, standards_same, standards_over, first_low, first_inside, first_same, first_parts}
pub use Rattle.message.proofs.Once.{kind_told}
pub use Rattle.message.proofs.Turns.{block_some, block_inside, block_moves, there, size_inside, size_standard, moves_on, blocks_over, blocks_on}
pub use Rattle.message.proofs.Cut.{Begun, begun, by_blocks, no_blocks_lem, block_first}
pub use Rattle.message.proofs.Heads.{none_short}
-- what a router sends: a type 4 block appended and a type written
pub use Rattle.message.proofs.Sent.{sent-length, sent-header, sent-count, sent_form, sent_accepted, coded_length, coded_header, coded_form}
-- the type 4 blocks as bytes, of what is sent
pub use Rattle.message.proofs.Bytes.{standard_blocks-count, sent-standard_blocks, coded_standard_blocks}

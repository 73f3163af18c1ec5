-- The laws of Replies that other crates cite.

-- a Reply that can be read: what is known of it, and that what is so known can be read
pub use Rattle.reply.proofs.Readable.{Known, readable_known, known_readable, known_fills, known_some, checked_readable, checked_known}
-- the blocks of a Reply that can be read go up to its end, and each that an iterator has left is of 52 bytes
pub use Rattle.reply.proofs.Filled.{fills_first, item_long}
-- a reader hands out the blocks of its message, in their order, each once, and then nothing
pub use Rattle.reply.proofs.Reading.{left_from, left_all, readable_blocks, reads_all}
-- and so do the calls by place, each from where the one before said
pub use Rattle.reply.proofs.Answers.{answers_all}
-- what a call by place answers, as a number, which is that of a place within the longest message
pub use Rattle.reply.proofs.Copying.{answer_high, behind_told, none_told}
-- the place that a search for a type 4 block has come to: what it found, or the message's end where it found nothing
pub use Rattle.reply.proofs.Known.{is_found, none_found}
-- where a search for a type 4 block ends, and that the blocks behind it go up to the message's end
pub use Rattle.reply.proofs.Settled.{settled, settled_same, settled_forth, settled_high, settled_over, settled_inside, settled_more, fills_behind}

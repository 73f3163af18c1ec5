-- The laws of the loss between two Replies.

-- a link is counted where no name applies, else it has the first; no more is lost than was sent; swapped, what rose has fallen
pub use Rattle.loss.proofs.Links.{counted_where, named_where, verdict_first, lost_of_sent, lost_at_most, rise_falls, swapped_fall, links-count}

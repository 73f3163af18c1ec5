-- The laws of what a router sends that other crates cite.

-- what is sent: without room, home, or on
pub use Rattle.sending.proofs.Sent.{sent_cases, sent-answer, sent_fits, room_most, longer_as}
-- without a route the trace ends, also where the code shown is WRONG_LAST_HOP
pub use Rattle.sending.proofs.Sent.{no_route_home, hidden_no_route_home}
-- what is sent on has one block more, fits the link on which it goes, and the router that it reaches does not drop it
pub use Rattle.sending.proofs.On.{blocks_below_hops, Grown, sent_on_grows, sent_on_fits, sent-to, sent_noted, no_later_drop}

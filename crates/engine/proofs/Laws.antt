-- The laws of one router's step that other crates cite.

-- a drop returns its number and changes nothing lent; anything else is answered by what is sent
pub use Rattle.engine.proofs.Taking.{drop_changes_nothing, taken_is_sent}
-- every link of a router that does not drop leaves room for a Query's block
pub use Rattle.engine.proofs.Steps.{taken_room}

-- A Standard Response Block, by its fields (document 01, "Messages").
pub mod Standard

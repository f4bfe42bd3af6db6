pub mod Chained
pub mod HeldParts
pub mod SlotReads

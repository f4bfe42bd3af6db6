pub mod HeapParts
pub mod Holding
pub mod Moves
pub mod PairsHeld
pub mod Ranks
pub mod Sifts

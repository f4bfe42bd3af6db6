pub mod Free
pub mod MemoryParts
pub mod QueueFacts
pub mod Walks

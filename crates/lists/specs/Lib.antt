pub mod Queues
pub mod Walks

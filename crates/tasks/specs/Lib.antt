pub mod Acts
pub mod Faults
pub mod Kinds
pub mod Mapped
pub mod Orders
pub mod EitherFutureLemmas

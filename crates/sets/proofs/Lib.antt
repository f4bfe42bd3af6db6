pub mod BoundedLaws
pub mod FairPolls
pub mod Polling

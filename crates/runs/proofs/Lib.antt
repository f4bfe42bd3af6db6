pub mod KeptRuns
pub mod TicketRuns
pub mod TokenRuns
pub mod WakerRuns

pub mod Chain
pub mod Holding
pub mod Signals
pub mod Kinds
pub mod Made

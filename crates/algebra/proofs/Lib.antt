pub mod Keepless
pub mod Points
pub mod Words
pub mod Listed
pub mod Blocks

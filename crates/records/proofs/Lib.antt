pub mod Counted
pub mod Spelling

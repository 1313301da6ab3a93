pub mod Faults
pub mod Outcomes
pub mod Split
pub mod Lines
pub mod Fields

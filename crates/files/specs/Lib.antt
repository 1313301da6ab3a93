pub mod Reading
pub mod Written
pub mod Lawful
pub mod Files

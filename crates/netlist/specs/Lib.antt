pub mod Circuits
pub mod Endings

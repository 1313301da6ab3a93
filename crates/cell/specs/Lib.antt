pub mod Lists
pub mod Circuits
pub mod Waiting
pub mod States
pub mod Gates
pub mod Laws

pub mod Finite
pub mod Along
pub mod Members
pub mod Devices

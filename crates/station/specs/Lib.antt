pub mod Reports
pub mod Slots
pub mod Sound
pub mod Probes
pub mod Stations

pub mod Answering
pub mod Soundness
pub mod Usable
pub mod Probing
pub mod Probes

pub mod Gating

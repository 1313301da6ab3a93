pub mod Labels
pub mod Components
pub mod Placing
pub mod Found
pub mod Left
pub mod Reasons

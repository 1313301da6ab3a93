pub mod Paths
pub mod Solving
pub mod Work
pub mod Shapes

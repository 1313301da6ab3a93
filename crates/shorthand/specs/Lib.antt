pub mod Shorthand

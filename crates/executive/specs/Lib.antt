pub mod World
pub mod Running
pub mod Draws
pub mod Fills
pub mod Runs

pub mod Draws
mod Keeping

pub mod Does
mod Enough
mod Posts
mod Absorbs
mod Few
mod Steps
mod Collects
pub mod Offers
pub mod Reached
mod Groups
pub mod Goings

mod LowHomes
mod Rounds
pub mod Applied

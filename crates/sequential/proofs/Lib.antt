pub mod Keys
pub mod Sends
pub mod Waits
pub mod Budget
mod Lines
pub mod Texts
mod Arrays

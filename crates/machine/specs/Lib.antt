pub mod Machine
pub mod Calls
pub mod Cases
pub mod Text

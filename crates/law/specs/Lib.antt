pub mod Law
pub mod Cases

pub mod Meaning
pub mod Takes
pub mod Pulls
pub mod Reports

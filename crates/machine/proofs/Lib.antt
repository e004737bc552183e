mod Worked
pub mod Steps
pub mod Texts

pub mod Fields
pub mod Lines
pub mod Reading
pub mod Writing
pub mod Playing
pub mod Play
pub mod Case

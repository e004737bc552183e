pub mod Events
pub mod Run
pub mod Posts
pub mod Text

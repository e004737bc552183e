pub mod Lanes
pub mod Calls
pub mod Stacks
pub mod Pools
pub mod Laws
pub mod Stocking

pub mod Placed
pub mod Ends
pub mod Shown
pub mod Matched
pub mod Laws
pub mod Cut

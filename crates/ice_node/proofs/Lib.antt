pub mod Carrying
pub mod Promising
pub mod Ending
pub mod Passing
pub mod Calling
pub mod Forms

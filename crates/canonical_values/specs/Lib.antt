pub mod Fronts
pub mod Standing
pub mod Keys
pub mod Frames

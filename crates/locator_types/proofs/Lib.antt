pub mod LocatorFits
pub mod ObjectFits

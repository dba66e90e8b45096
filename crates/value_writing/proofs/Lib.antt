pub mod Levels
pub mod Plain
pub mod ByteSequences
pub mod WritingSteps
mod Listed
pub mod Sorting
pub mod SortedLaws
pub mod SortedKeys

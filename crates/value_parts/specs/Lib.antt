pub mod Shapes
pub mod SlicedType
pub mod SliceIds
pub mod Prefixes
pub mod Pauses
pub mod Taking
pub mod Numbering

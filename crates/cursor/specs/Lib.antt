pub mod NonZero
pub mod Rows
pub mod Calls
pub mod Spans
pub mod Closing
pub mod Leaves

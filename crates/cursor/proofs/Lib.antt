pub mod NonZero
pub mod Laws
pub mod Costs
pub mod Spans

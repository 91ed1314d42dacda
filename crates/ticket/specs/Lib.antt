pub mod Numbers
pub mod Kinds
pub mod Records
pub mod Lists
pub mod Refusals
pub mod Reading
pub mod Loading
pub mod Samples

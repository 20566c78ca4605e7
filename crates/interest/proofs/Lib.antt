pub mod Counting
mod News
pub mod Matching
mod SameViews

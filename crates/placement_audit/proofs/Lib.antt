pub mod Anys
pub mod Judging
pub mod Listing
pub mod Naming
pub mod Noting
pub mod Ordered
pub mod Owing
pub mod Walking

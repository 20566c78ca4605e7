-- What an origin has told.
pub mod Hearing
pub mod Origins
pub mod Snapshots

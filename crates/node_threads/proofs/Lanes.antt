-- Jobs on their way to the lanes, one lane after another.
pub mod Lines
pub mod Outlets

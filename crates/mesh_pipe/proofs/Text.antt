-- The text of a pipe, ask by ask and read by read.
pub mod Said
pub mod Answering
pub mod Serves
pub mod Runs
pub mod Rows

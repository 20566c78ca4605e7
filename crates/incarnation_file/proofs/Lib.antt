pub mod Digits
pub mod Files
pub mod Keeps
pub mod Rising

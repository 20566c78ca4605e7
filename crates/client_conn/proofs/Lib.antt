mod Telling
pub mod Following
mod Bodies
mod Looking
pub mod Closing
mod Answering
mod Lending

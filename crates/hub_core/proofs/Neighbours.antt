-- Peers, what they have told, and the frames that wait for them.
pub mod Changed
pub mod CameUp
pub mod Known
pub mod Views
pub mod Origins
pub mod Walks
pub mod Puts
pub mod Sending
pub mod Taken

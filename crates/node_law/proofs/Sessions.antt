-- Hubs are sound, and a peer is up just where a session with it is kept.
pub mod Kept
pub mod HubsSound
pub mod PeersKept

-- HMAC-SHA256 (RFC 2104)
pub mod Hmac
-- what a secret is
pub mod Secrets
-- words of 32 bytes as digits
pub mod Words
-- what is authenticated
pub mod Messages
-- the lines of a handshake
pub mod Lines
-- what each end answers to a line
pub mod Handshakes
-- what the definitions come to
pub mod Laws

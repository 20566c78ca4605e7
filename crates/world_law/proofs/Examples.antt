-- Scripts that are runs, computed.
pub mod Scripts
pub mod Printed

-- how a program ends
pub mod Statuses

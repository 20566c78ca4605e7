pub mod Named
pub mod Lists
pub mod Texts
pub mod Words

pub mod Described
pub mod Firsts
pub mod Ordered
pub mod Texts
pub mod Unknown

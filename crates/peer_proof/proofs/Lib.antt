-- when the differences of two lists are all zero
pub mod Bits
-- masked blocks, byte by byte
pub mod Masks
-- what is authenticated is read in one way
pub mod Meanings

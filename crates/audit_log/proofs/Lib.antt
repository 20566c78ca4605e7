-- names of members, where their bytes were found
pub mod Named
-- bytes that are cut into lines, and lines that are gathered
pub mod Cutting

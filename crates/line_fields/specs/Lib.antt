-- what ends a line, and a payload behind it
pub mod LineEnd
-- a line as a list of fields
pub mod Fields
-- how a line is put together from its fields
pub mod Spelling

-- the content of a publication by its parts, and which content may be put into a block
pub mod Publications
-- parts of a text
pub mod Spans
-- how jobs are kept
pub mod Kept
-- a block as other crates see it
pub mod Blocks

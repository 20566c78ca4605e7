-- when placements keep the headline's clause, and what an audit tells of them
pub mod Verdicts
-- placements as the code has them, and as the definitions do
pub mod InCode
-- names in order, and as keys
pub mod Keys
-- publications and subscriptions by their names
pub mod Named
-- the clause as tests, which an audit computes
pub mod Tests
-- what was placed so far, and what is noted of one more
pub mod Seen

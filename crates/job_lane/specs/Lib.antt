-- the turns of jobs that stand in order
pub mod Turns
-- runs of jobs, one behind another
pub mod Runs
-- the ends of a lane as other crates see them
pub mod Ends
-- the rule of a lane's queue
pub mod Rule

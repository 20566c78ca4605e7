-- what a hub and its shards did, and when that is legal
pub mod Runs
-- what a legal run does once: publications, jobs, and messages that are put
pub mod Once

-- all that steps put into outboxes, and what a step adds to it
pub mod Entered
-- events, outcomes and lists as the code has them, and as the definitions do
pub mod InCode
-- what a step adds to the lists, as the code finds it: of the event, of what the server answers,
-- and of what it tells closed
pub mod Adding
-- a cluster in code, as its callers see it, and what always holds of it
pub mod Value
-- what a publish is planned as, and where it is not refused
pub mod Planned

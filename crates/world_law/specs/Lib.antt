-- the numbers 80 to 83 of the refusals
pub mod Faults
-- a cluster as its callers see it: its servers, and the lists of what was done
pub mod State
-- what a cluster is asked
pub mod Events
-- what a cluster answers to an event: why it is refused, or what the server answers that it is for
pub mod Outcomes
-- why a cluster refuses an event, the first cause first
pub mod Refusals
-- what a step adds to the lists: by what the event is, and by comparing the server before and after
-- it
pub mod Changes
-- a cluster's step with its outcome, and its runs
pub mod Steps
-- the headline, in the words of the exact cluster
pub mod Headline
-- what a run makes that no list of the world keeps: the jobs of servers, and the changes of their
-- interest
pub mod Made
-- what the headline rests on, over a run of the exact cluster: its messages sent, its jobs, its
-- changes of interest and its servers
pub mod RestsOn
-- the exact cluster as a program on lists: with a race that forgets nothing, each event has one
-- outcome and one next world
pub mod Play
-- closed scripts, with what comes of them
pub mod Scripts
-- each server that is up came to its state by a run of its own, so that what holds of all runs of a
-- server holds of it
pub mod OwnRuns
-- how outcomes and placements are written, line by line
pub mod Written
-- closed scripts, with what is written of each event
pub mod Printed
-- what waits for a connection after a step of its server: what the event keeps of what waited, and
-- behind it what the event puts
pub mod Waiting
-- lives and open subscriptions: a life that has not closed is a subscription that is open, and it
-- closes with a cause
pub mod Lives
-- how publications are numbered
pub mod Sources
-- who publishes without echo gets the message on none of its own subscriptions
pub mod Echo

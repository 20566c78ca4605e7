-- the rule of the race: it holds between any two steps, over the words and over the parts of all
-- seats
pub mod Rule
-- what each step on the words tells the seat that makes it
pub mod Steps
-- what the race and its seats show to contracts
pub mod Seats
-- what the calls promise
pub mod Calls
-- a race of one thread, on one seat that has all parts
pub mod OneSeat

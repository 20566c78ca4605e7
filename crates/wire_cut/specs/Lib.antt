-- the numbers 10 to 12 of the refusals
pub mod Faults
-- a stream of bytes as lines and payloads
pub mod Cut
-- reading a stream: a grammar says what each piece tells, and what has to come behind it
pub mod Reading
-- where a CR LF stands, and what a cutter keeps true of its fields
pub mod Search
-- what is seen of a buffer whose front is used up
pub mod Window
-- what the calls that take bytes in may answer
pub mod Answers
-- the cutter's answers as contracts see them, and what it is once the bytes that it lent are no
-- longer borrowed
pub mod Shown
-- what reads and writes do to known bytes and to the count of failures
pub mod Flow
-- what is seen of a source and a sink in memory
pub mod Memory
-- what a reader or a writer of std is wrapped in
pub mod Raw

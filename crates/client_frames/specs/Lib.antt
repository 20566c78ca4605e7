-- the fields behind an operation
pub mod Arguments
-- the operations that clients ask for
pub mod Operations
-- what the text of a CONNECT chooses
pub mod Choices
-- client spelling: what a control line of a client asks for, or why it is refused
pub mod Lines
-- the line of a publication that was read last
pub mod LastLine
-- the numbers 20 to 24 of the refusals
pub mod Faults
-- the texts of `-ERR`, and which of them end a connection
pub mod ErrTexts
-- what a server tells all its clients of itself
pub mod ServerFacts
-- what a server tells a client first
pub mod Info
-- message bytes: what a subscriber is due of a publication
pub mod Messages
-- what a server sends to its clients
pub mod Frames
-- stream commands: what a stream of a client's bytes asks for and what of it is refused, in order
pub mod Streams
-- client spelling as a grammar: how the bytes of a line are put together for a command
pub mod Spelling
-- why a line is refused: each line that spells no command has one of these causes, and no other
pub mod Causes

-- kinds of events, and how grave they are
pub mod Kinds
-- what is kept of events until they are told
pub mod Noted

-- subscriptions in order of opening, and what a trie holds for them
pub mod Rising
-- serials under keys
pub mod Groups
-- what is kept in mind of recent subjects
pub mod Recalls

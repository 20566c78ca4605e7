-- open subscriptions: the list in order of opening, and its filter
pub mod Subscriptions

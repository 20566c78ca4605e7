-- Which subscriptions are open, and why they close.
pub mod Lives
pub mod Echo

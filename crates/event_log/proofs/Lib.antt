-- what the rule for one line comes to
pub mod Spacing

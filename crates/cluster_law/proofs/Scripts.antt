-- Short scripts that are runs, and what goes wrong without a rule.
pub mod Races
pub mod Lines
pub mod Settings
pub mod Example
pub mod WithoutClaimRules
pub mod WithoutFrameRules

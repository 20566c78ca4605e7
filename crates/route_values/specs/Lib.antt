-- keys with their weights, and the text of a snapshot of them
pub mod Snapshots
-- what a route's INFO and CONNECT hold
pub mod Records
-- numbered frames
pub mod Frames
-- keys that hold only what can be spelt, with their weights
pub mod ValidKeys
-- frames that hold only what can be spelt, as the values of the types do
pub mod Valid

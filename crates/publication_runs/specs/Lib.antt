-- the line of a publication, plainly written
pub mod Lines
-- a text that begins with publications, plainly written one behind another
pub mod Runs
-- that a text that begins with publications is read as these, and then as what stands behind them
pub mod Readings
-- how a text is cut
pub mod Cuts
-- where a scan stands
pub mod States
-- what a scan has found
pub mod Scans
-- publications that are lent, on one subject
pub mod Lent

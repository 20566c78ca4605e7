-- the weighted pick
pub mod Pick

-- Of the claims of one turn and index one wins, and places.
pub mod Winners
pub mod Raced
pub mod OneJob
pub mod OneWinner
pub mod Ends
pub mod Placing
pub mod PlacedOnce

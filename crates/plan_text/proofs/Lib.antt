pub mod Listing
pub mod Telling
pub mod Running
pub mod Stopping
pub mod OneOutcome
pub mod OneTurn
pub mod OneReading

-- What the contracts of this crate cite.
pub mod Net
pub mod Walk
pub mod Search
pub mod InTurn
pub mod Tables
pub mod Searches
pub mod Marks
pub mod Book
pub mod Orders
pub mod Answers
pub mod Promise

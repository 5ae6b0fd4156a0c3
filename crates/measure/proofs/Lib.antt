-- Lemmas on totals and measures; Order is for the crates above.
pub mod Stops
pub mod Order

-- What the contracts of this crate cite.
pub mod Limits
pub mod Scale
pub mod Kinds
pub mod Written
pub mod Lawfulness
pub mod Same

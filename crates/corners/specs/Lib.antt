-- What the contract of this crate cites.
pub mod Small
pub mod Corners

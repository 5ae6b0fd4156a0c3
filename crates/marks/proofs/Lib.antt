pub mod Flipping
pub mod Lapsing

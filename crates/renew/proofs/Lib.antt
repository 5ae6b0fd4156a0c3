pub mod Reaching
pub mod OnBest
pub mod Writing
pub mod Backwards
pub mod Flagging

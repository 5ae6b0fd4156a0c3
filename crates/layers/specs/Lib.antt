pub mod Relegged
pub mod Turn
pub mod Day
pub mod Soundness

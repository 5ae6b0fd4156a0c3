pub mod Relegging
pub mod Turning
pub mod Entering

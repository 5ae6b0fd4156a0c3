pub mod Chained
pub mod Entered
pub mod Drawn
pub mod Meant
pub mod Limited

pub mod Pushed
pub mod Chaining
pub mod Fronts
pub mod Entry
pub mod Props
pub mod Passed

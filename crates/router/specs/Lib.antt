pub mod Struck
pub mod Worked
pub mod Ordered
pub mod Renewing
pub mod Routing

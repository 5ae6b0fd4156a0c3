pub mod Lent
pub mod Histories
pub mod Promising

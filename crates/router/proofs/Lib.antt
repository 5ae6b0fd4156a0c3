pub mod Commissioned
pub mod Histories
pub mod Sheets
pub mod Strikings
pub mod Renewals
pub mod Routes

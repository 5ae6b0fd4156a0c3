pub mod Cutting
pub mod Decimal
pub mod Reading
pub mod Taking

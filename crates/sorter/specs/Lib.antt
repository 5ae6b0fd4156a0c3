pub mod Ring
pub mod Limited

pub mod Mark
pub mod Soundness

-- Lemmas on replies.
pub mod Spelling
pub mod Deeds
pub mod Replying
pub mod Planning
pub mod OneAnswer

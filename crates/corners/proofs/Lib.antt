-- The proofs of the worked corners.
mod Legs
mod Potential
mod Flags
mod Listed
mod Times
mod Heights
mod Tally
mod Counted
mod Sound
mod Replying
mod Ways
mod Routes
mod Renewing
mod Corners

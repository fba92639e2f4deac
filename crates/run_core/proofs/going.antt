-- That a run goes on: a lemma for each rule of what the machine turns to.
pub mod Same
pub mod Picking
pub mod Planning
pub mod Measured
pub mod InOrder
pub mod Delivered
pub mod Asked
pub mod Going
pub mod Given

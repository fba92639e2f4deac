-- How each reading of a run's events goes on with what happens next, and what may be asked then: what a machine is proved by that
-- knows jobs by their numbers. No lemma looks into a walk.
-- ---- the readings
pub mod Readings
pub mod Flights
pub mod Known
pub mod Settled
-- ---- jobs by their numbers
pub mod Places
pub mod ByNumber
pub mod Tally
pub mod Course
pub mod Lookups
-- ---- what may be asked, and how a run grows
pub mod Vertices
pub mod Planned
pub mod Asks
pub mod Turns
pub mod AtHand
pub mod Ready
pub mod Staged
pub mod Kept
pub mod Grows
pub mod Graphs

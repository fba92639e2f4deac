pub mod PlannedJobs
pub mod Plans
pub mod WaitingLines

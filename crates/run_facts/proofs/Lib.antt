mod Names
pub mod BestSoFar
pub mod EarlierJobs
pub mod KeyLemmas

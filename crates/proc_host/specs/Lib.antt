pub mod Answers
pub mod ExitClass
pub mod Faults
pub mod Log
pub mod Script
pub mod Tickets

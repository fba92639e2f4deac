pub mod Log
pub mod Storable
pub mod Map
pub mod InStep
pub mod Memory
pub mod inner

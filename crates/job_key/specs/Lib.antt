pub mod Key
pub mod Laws
pub mod Read

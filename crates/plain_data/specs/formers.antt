pub mod items
pub mod keyed
pub mod shared
pub mod shared_items

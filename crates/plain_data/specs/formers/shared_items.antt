pub mod SharedItems

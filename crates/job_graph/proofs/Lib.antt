mod Above
mod Ahead
mod AheadOf
mod Counting
mod Flags
pub mod Graphs
mod Gathering
mod Going
mod GoingOn
mod Gone
mod Grows
mod Handing
mod Hearing
mod Index
mod Inward
pub mod Knowing
mod KeptFault
pub mod Limits
mod Loops
mod Lowering
mod Marks
mod MetMore
mod Needed
mod Nesting
mod OneOpen
mod OneTuple
mod OpenKept
mod Noting
mod Once
mod Pending
mod Outs
mod Vertices
mod Quotients
mod Reading
mod RootBegun
mod RootWalk
mod Rooted
mod SettledWalk
mod Settling
mod Tuples
mod Unfolds
mod Walks
mod Whole
pub mod laws_of_walks

mod Asked
mod Fileless
mod Folders
mod Heads
mod Needed
mod Once
mod OneMore
mod Seen

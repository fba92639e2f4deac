mod Literals
mod Walked

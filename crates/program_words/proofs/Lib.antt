pub mod CodeTexts
pub mod CommandLines
pub mod JobLines
pub mod ReadOnce
pub mod SavingsLine
pub mod ShellWords

pub mod SumsBelow
pub mod Duality
pub mod OneLeast
pub mod ChildLists
pub mod ParentLists
pub mod GraphChanges
pub mod Settled
pub mod Texts
pub mod Numbers
pub mod Rows
pub mod FirstLines
pub mod Pushed
pub mod TextLines
pub mod BadLines
pub mod Refusals
pub mod ReadBack
pub mod ReadNumbers
pub mod ReadRows
mod WholeTexts
mod SomeLeast

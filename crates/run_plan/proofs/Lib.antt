mod Apart
mod Brought
mod FewBrought
pub mod First
mod RoundedUp

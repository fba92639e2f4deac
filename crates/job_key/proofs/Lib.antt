mod Distinct
mod Exact
mod ReadNumbers
mod ReadTools
mod Told

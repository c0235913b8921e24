mod Remembered
pub mod NameLemmas
pub mod Rows
pub mod Tabled
pub mod Others
pub mod Keys
pub mod Ranked
pub mod Earliest
pub mod Cuts
pub mod Counted
pub mod Listed
pub mod Around
pub mod Halves
pub mod Found
pub mod Senders
pub mod Verdicts
pub mod Restoring

pub mod ListLemmas
pub mod DeskLemmas
pub mod SenderLemmas

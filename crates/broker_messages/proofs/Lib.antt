pub mod FrontLaws
pub mod HeadLemmas
pub mod NameLemmas
pub mod Translation
pub mod Writable

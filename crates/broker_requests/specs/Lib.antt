pub mod Bodies
pub mod Expressions
pub mod Refusals
pub mod Translations

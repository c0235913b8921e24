pub mod GivesLaws
pub mod TopicLaws
pub mod EntryLaws
pub mod SpellingLaws

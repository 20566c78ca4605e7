pub mod FieldLemmas
pub mod DigitLemmas
pub mod SpellingFields

pub mod Bounded
pub mod LineParts
pub mod ManyWords
pub mod NumberLaws
pub mod PlacedWords
pub mod SetsOf
pub mod TextsOf

pub mod Powers
pub mod Leb128Laws
pub mod Reading
pub mod Spelling

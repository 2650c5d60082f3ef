-- What becomes of texts of C.
pub mod Texts

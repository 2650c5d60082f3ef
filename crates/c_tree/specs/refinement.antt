-- What only the proofs need: how the code keeps and does what the definitions beside this folder say.
pub mod Codes
pub mod EnumeratorCodes
pub mod Falls
pub mod InitCodes
pub mod InitialiserFalls
pub mod InitialiserViews
pub mod PieceCodes
pub mod StatementCodes
pub mod StatementFalls
pub mod StatementViews
pub mod UnitCodes
pub mod Views

pub mod Lists
pub mod CallMeaning
pub mod Folds
pub mod CallTypes
pub mod CallRows
pub mod CallPrograms

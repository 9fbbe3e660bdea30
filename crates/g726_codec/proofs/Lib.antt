pub mod Histories
pub mod EachKind
pub mod Lists
pub mod InPlace

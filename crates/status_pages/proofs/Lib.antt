pub mod ToldLemmas
pub mod Written

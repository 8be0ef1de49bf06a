-- `Laws`: what is printed, by what writing answers.
pub mod Laws

pub mod piecewise
pub mod words_in
pub mod Noninterference
pub mod comes_to
pub mod made_text
pub mod Behind

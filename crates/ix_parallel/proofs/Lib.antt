pub mod together

pub mod Heap
pub mod Tied

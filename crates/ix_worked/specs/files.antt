pub mod SharedEntry
pub mod FewBlocks
pub mod Trees

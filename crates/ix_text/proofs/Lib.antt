pub mod Items
pub mod Tests
pub mod ScriptNames
pub mod Letters
pub mod AllLabels

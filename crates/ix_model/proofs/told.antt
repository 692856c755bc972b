pub mod Spent
pub mod Logs
pub mod Touching
pub mod Entitling
pub mod Unmoved
pub mod Moving
pub mod Replies

pub mod MediaTypes
pub mod ReplyHeads
pub mod Statuses

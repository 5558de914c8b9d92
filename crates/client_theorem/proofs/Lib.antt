pub mod Addresses
mod AsciiAddresses
mod FeedReplies
mod FeedRights
mod Holds
mod NoticeResults
pub mod Numerals
mod Replies
pub mod Words

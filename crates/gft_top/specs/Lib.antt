pub mod Headline
pub mod Words
pub mod Asking
pub mod Replies
pub mod Ends
pub mod Turns

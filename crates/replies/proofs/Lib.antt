-- What is proved of replies.
pub mod Answers
pub mod DockReplies
pub mod Examples
pub mod Replies

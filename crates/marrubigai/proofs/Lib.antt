pub mod TextReplies
pub mod Order

pub mod Kept
pub mod Turn
pub mod Passing
pub mod Alike
pub mod BlankLaws
pub mod Counted
pub mod Answers
pub mod OpenedLaws

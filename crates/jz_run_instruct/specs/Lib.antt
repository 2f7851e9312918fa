pub mod InnerAnswers
pub mod InnerRows

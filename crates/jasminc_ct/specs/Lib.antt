pub mod BreachLines
pub mod Judging
pub mod Causes
pub mod Answers
pub mod InnerJudging
pub mod JudgementLaws

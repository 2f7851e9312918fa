pub mod InnerLives
pub mod Lives

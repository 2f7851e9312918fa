pub mod Meets
pub mod MeetingLabels
pub mod BehindArms

pub mod Meetings
pub mod Turns
pub mod KeptMeetings

pub mod PartLemmas
pub mod NumberLemmas
pub mod RefusalLemmas
pub mod NameLemmas
pub mod SettingLemmas

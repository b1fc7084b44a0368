pub mod Names
pub mod Judging
pub mod SettingLaws
pub mod TableLaws

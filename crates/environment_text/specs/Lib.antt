pub mod EnvironmentText
pub mod RoundTexts

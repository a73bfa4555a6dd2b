pub mod Sources
pub mod Written
mod TemporaryForms
mod IntForms

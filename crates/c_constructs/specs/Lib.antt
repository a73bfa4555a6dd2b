pub mod Uses
pub mod Steps
pub mod Written
pub mod Sections
pub mod Clauses
pub mod Directives
pub mod LineMeaning

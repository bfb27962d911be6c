pub mod Causes
pub mod EventRefusals
pub mod CommandRefusals
pub mod CallAnswers
pub mod CallTable
pub mod Budgets
pub mod NamedNone

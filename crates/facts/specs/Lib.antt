pub mod Good
pub mod PlanCases
pub mod Statements

pub mod Leads
pub mod PlanView
pub mod SharedRows
pub mod Stack
pub mod StepRows
pub mod StepTree

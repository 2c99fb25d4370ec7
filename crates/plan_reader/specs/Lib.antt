pub mod PlanWords
pub mod ReadPlan

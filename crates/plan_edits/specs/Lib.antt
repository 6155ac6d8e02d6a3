pub mod Named
pub mod EditPlans
pub mod PlanTexts

pub mod RecordPlans
pub mod PlanSays

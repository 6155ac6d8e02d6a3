pub mod PlanMeasured
pub mod AnyMeasures

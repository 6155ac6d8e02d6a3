pub mod PlanWritten
pub mod AnyWrites

pub mod EndPlans

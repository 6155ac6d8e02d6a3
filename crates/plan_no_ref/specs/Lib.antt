pub mod NoRef

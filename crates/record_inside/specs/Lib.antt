pub mod AnyInside

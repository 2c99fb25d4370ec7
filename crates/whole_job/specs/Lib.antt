pub mod WholeJob

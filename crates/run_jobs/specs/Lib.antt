-- The definitions that the contracts cite.
pub mod Certain
pub mod Certificate
pub mod KernelsWorked
pub mod Printed
pub mod Worked
pub mod LiveKernels
pub mod Living

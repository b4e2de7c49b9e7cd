-- The definitions that the contracts cite: what the kernels compute, what is read off a report, and the
-- kernels as tasks, with what they go by.
pub mod Stencil
pub mod Pipeline
pub mod Results
pub mod Tasks
pub mod StencilTasks
pub mod StencilLines
pub mod PipelineTasks
pub mod PipelineLines
-- The definitions that contracts cite, in the order in which they are read.
pub mod Stencils
pub mod Pipelines
pub mod Totals
pub mod Examples

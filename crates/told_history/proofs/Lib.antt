pub mod Fields
pub mod Steps
pub mod SeenFields
pub mod SeenSteps
pub mod Tails
pub mod Goes

pub mod Removing
pub mod Telling
pub mod Registering
pub mod Moving
pub mod Lives
pub mod InOrder

pub mod Amounts
pub mod Cells
pub mod Drawn
pub mod Telling

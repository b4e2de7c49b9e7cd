pub mod ActsCode
pub mod ActsFall
pub mod Ends
pub mod ProgramCode
pub mod ReadViews
pub mod SaidViews
pub mod StepsCode
pub mod Views

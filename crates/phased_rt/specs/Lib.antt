pub mod Left
pub mod Says
pub mod Told
pub mod Totals
pub mod Traced
pub mod inner

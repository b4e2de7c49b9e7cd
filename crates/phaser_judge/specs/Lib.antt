pub mod Courses
pub mod Numbers
pub mod Owing
pub mod Reasons
pub mod Renaming
pub mod Standings
pub mod inner

pub mod Events
pub mod Told
pub mod Crews
pub mod Calls
pub mod Courses
pub mod Firsts
pub mod Turns

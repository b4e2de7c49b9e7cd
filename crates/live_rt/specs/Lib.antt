pub mod Rooms
pub mod Gone
pub mod Said
pub mod inner

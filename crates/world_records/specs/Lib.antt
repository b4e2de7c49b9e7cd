-- What a world keeps, how it is read, and which histories it stands for.
pub mod TaskState
pub mod WorldState
pub mod Kept
pub mod Plans
pub mod StandsFor
pub mod inner

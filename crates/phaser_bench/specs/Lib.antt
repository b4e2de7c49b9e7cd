pub mod CommandLine
pub mod CoreKind
pub mod LocksKind
pub mod WorldsKind

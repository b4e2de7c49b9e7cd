-- What `clap` says of the program's command, and LIST.
pub mod Commands
pub mod Listed
pub mod Named
pub mod Numbers
pub mod Plain
pub mod PlainCommands
pub mod PlainEntry
pub mod PlainItems
pub mod PlainSteps
pub mod PlainWords
pub mod Seconds
pub mod Works

mod Answered
mod Begins
mod Coming
mod Foldings
mod Holding
mod Joins
mod Keeps
mod Keeping
mod Leaves
pub mod LevelRounds
pub mod LevelTasks
mod Looks
mod Puts
pub mod Rounds
mod Refused
mod Rows
mod Seats
mod Sends
mod Stages
mod Tellings
mod Totals
mod Trades
mod Turned

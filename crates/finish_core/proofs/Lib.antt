-- The lemmas: bits, stored lists, legal histories, the state, and the laws.
pub mod Bits
pub mod Past
pub mod Legal
pub mod Standing
pub mod Awaited
pub mod Orderly

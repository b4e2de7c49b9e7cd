-- Lemmas on what the bytes of each text spell.
pub mod EventsSpelled
pub mod Spelled
pub mod TraceSpelled

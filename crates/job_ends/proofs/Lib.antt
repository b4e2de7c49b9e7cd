-- Lemmas on texts that are appended piece by piece, on readers, and on what is reported of a failure.
pub mod Known
pub mod Fronts
pub mod Reported

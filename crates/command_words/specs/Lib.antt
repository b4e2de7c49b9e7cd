-- The definitions that the contracts cite.
pub mod CommandLine
pub mod Lists

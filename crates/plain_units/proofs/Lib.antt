pub mod Lookups
pub mod RefiledUnits
pub mod PageRuns
pub mod Shorthands

-- The report: what is told of a sheet, and its text.
pub mod Words
pub mod Report

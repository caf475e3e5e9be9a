-- A table whose bridge records and agents' buses are lists, as document 01 says it; and the table as the code makes it, record by record.
pub mod Lists
pub mod Trials
pub mod code

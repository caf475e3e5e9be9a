-- Definitions that only the code's contracts and proofs speak of; nothing rests on believing them: a table gathered record by record.
pub mod Made

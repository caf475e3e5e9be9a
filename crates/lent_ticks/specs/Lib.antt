-- What is looked for among lent turns, what a tick asks first, and what judging a record leaves. Only code speaks of these.
pub mod Places
pub mod Firsts
pub mod Judged

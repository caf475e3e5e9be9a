-- What a lent channel shows, and where a change finds its entry. Only code speaks of these; nothing rests on believing them.
pub mod Looks
pub mod Places

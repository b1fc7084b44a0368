mod Room
mod Spellings

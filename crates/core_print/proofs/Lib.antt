mod Numerals
mod Rereading
mod Reprinted
mod RoundTrip

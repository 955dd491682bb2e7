pub mod Names
mod Words
mod Lists
mod Digits
mod Walks
mod Entries
mod Gathering
mod Forms
mod Table
mod Said
mod Links
mod Order

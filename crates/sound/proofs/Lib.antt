-- Laws of a sound bench, and of the lists of its test.
pub mod Below
pub mod Lists
pub mod Facts

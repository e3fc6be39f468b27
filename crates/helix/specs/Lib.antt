pub mod Helices

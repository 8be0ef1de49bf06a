pub mod Versions

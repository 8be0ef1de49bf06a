pub mod Printed
pub mod Pressure
pub mod Answers

pub mod Specimens
pub mod WorkedExample

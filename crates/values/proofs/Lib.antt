-- Laws of the value of digits and of the number at a place.
pub mod ValueLaws
-- Theorems by computation: the specimens.
pub mod Specimens

-- The laws of decimal digits, of the line and of equal lengths.
mod DecimalLaws
mod LineLaws
mod LengthLaws
mod TextLaws

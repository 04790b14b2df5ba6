-- The laws of first differences and of texts put into a buffer; those of filled buffers and values serve here alone.
pub mod DifferenceLaws
pub mod PutLaws
mod FillLaws
mod ValueLaws

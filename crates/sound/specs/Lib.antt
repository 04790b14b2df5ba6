-- What the rows of an accepted source are, in document 02's words.
pub mod SizedRows

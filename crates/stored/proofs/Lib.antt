-- What is read where a value was put; new values are undefined.
pub mod StoredLaws

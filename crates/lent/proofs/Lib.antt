pub mod LentLaws

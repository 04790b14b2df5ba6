-- W-206, and demands 1 and 3 with it.
pub mod Demands
-- The laws behind it.
pub mod BadLaws
pub mod EndLaws
pub mod PaddedLaws
pub mod NextLaws
pub mod MemberLaws
pub mod AllLaws
pub mod CallLaws
pub mod EachLaws

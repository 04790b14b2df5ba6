pub mod Trees
pub mod Verdict
pub mod ParseTable
pub mod Machine
pub mod Parser
pub mod Test

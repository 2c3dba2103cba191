pub mod Proper
pub mod Reacting
pub mod Solutions
pub mod ValuesTold
pub mod Within

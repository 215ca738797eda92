pub mod Safe
pub mod Test

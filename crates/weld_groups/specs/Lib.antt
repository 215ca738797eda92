pub mod Groups
pub mod GroupsView

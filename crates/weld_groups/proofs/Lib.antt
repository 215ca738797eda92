mod ListLemmas
mod GroupsLemmas

mod Entering
mod JoinOne
mod Walks

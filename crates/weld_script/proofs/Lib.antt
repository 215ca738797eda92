mod Fixed
mod Rows
mod Growing
mod ValueTypes
mod Columns

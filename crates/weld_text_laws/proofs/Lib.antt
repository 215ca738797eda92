mod RoundTrip
mod Cases
mod Trees
mod Decided
mod SpelledTypes
mod Sayings
mod Texts

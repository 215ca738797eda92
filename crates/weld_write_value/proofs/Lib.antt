mod StructTexts
mod Texts

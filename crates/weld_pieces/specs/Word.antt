-- The words of 64 bits with a sign in which cells are kept.
use Rattle.std.specs.Prelude.{◌^◌, ℤ, pos, ◌+ℤ◌}
use Rattle.weld_data.specs.declared.kind.Kind.{Kind}
use Rattle.weld_data.specs.declared.kind.Kind.TheVariants.{Bool, I8, I16, I32, I64, U8, U16, U32, U64}

-- the number of the kind that a word stands for: the word itself, where each number of the kind is a word. Numbers of kind u64 are kept less an offset, in their order
abbrev pub word : Kind → ℤ → ℤ
word Bool w = w
word I8 w = w
word I16 w = w
word I32 w = w
word I64 w = w
word U8 w = w
word U16 w = w
word U32 w = w
word U64 w = w +ℤ pos (2 ^ 63)

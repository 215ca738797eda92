-- Numbers kept in words of 64 bits.
use Rattle.std.specs.Prelude.{ℤ, pos}
use Rattle.std.specs.Int.{w64, cast_unsigned}
use Rattle.weld_data.specs.declared.kind.Kind.{Kind}
use Rattle.weld_data.specs.declared.kind.Kind.TheVariants.{Bool, I8, I16, I32, I64, U8, U16, U32, U64}

-- the number of the kind that a word of 64 bits with a sign stands for: of kind u64 the one with the same bits, of each other kind the word
abbrev pub of_word : Kind → ℤ → ℤ
of_word Bool x = x
of_word I8 x = x
of_word I16 x = x
of_word I32 x = x
of_word I64 x = x
of_word U8 x = x
of_word U16 x = x
of_word U32 x = x
of_word U64 x = pos (cast_unsigned w64 x)

-- The reserved words of Weld programs: how they are written.
use Rattle.std.specs.Prelude.{ℕ, Bool, ◌==◌, List, codes}
use Rattle.weld_grammar.specs.declared.terminals.reserved.Reserved.{Reserved}
use Rattle.weld_grammar.specs.declared.terminals.reserved.Reserved.TheVariants.{Let, If, Select, Lookup, Keyexists, Len, Slice, Merge, Result, For, Iterate, Zip, Iter, Vec, Dict, Bool as BoolWord, I8, I16, I32, I64, U8, U16, U32, U64, Vecbuilder, Appender, Merger, Dictmerger, Vecmerger, Groupbuilder, Groupmerger, True, False, Min, Max, Macro}

-- the bytes of a reserved word
abbrev pub reserved_text : Reserved → List ℕ
reserved_text Let = codes "let"
reserved_text If = codes "if"
reserved_text Select = codes "select"
reserved_text Lookup = codes "lookup"
reserved_text Keyexists = codes "keyexists"
reserved_text Len = codes "len"
reserved_text Slice = codes "slice"
reserved_text Merge = codes "merge"
reserved_text Result = codes "result"
reserved_text For = codes "for"
reserved_text Iterate = codes "iterate"
reserved_text Zip = codes "zip"
reserved_text Iter = codes "iter"
reserved_text Vec = codes "vec"
reserved_text Dict = codes "dict"
reserved_text BoolWord = codes "bool"
reserved_text I8 = codes "i8"
reserved_text I16 = codes "i16"
reserved_text I32 = codes "i32"
reserved_text I64 = codes "i64"
reserved_text U8 = codes "u8"
reserved_text U16 = codes "u16"
reserved_text U32 = codes "u32"
reserved_text U64 = codes "u64"
reserved_text Vecbuilder = codes "vecbuilder"
reserved_text Appender = codes "appender"
reserved_text Merger = codes "merger"
reserved_text Dictmerger = codes "dictmerger"
reserved_text Vecmerger = codes "vecmerger"
reserved_text Groupbuilder = codes "groupbuilder"
reserved_text Groupmerger = codes "groupmerger"
reserved_text True = codes "true"
reserved_text False = codes "false"
reserved_text Min = codes "min"
reserved_text Max = codes "max"
reserved_text Macro = codes "macro"

-- their numbers, in this order
abbrev pub reserved_number : Reserved → ℕ
reserved_number Let = 0
reserved_number If = 1
reserved_number Select = 2
reserved_number Lookup = 3
reserved_number Keyexists = 4
reserved_number Len = 5
reserved_number Slice = 6
reserved_number Merge = 7
reserved_number Result = 8
reserved_number For = 9
reserved_number Iterate = 10
reserved_number Zip = 11
reserved_number Iter = 12
reserved_number Vec = 13
reserved_number Dict = 14
reserved_number BoolWord = 15
reserved_number I8 = 16
reserved_number I16 = 17
reserved_number I32 = 18
reserved_number I64 = 19
reserved_number U8 = 20
reserved_number U16 = 21
reserved_number U32 = 22
reserved_number U64 = 23
reserved_number Vecbuilder = 24
reserved_number Appender = 25
reserved_number Merger = 26
reserved_number Dictmerger = 27
reserved_number Vecmerger = 28
reserved_number Groupbuilder = 29
reserved_number Groupmerger = 30
reserved_number True = 31
reserved_number False = 32
reserved_number Min = 33
reserved_number Max = 34
reserved_number Macro = 35

-- they are one word
abbrev pub same_reserved : Reserved → Reserved → Bool
same_reserved a b = reserved_number a == reserved_number b

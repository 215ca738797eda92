use Rattle.std.proofs.Common.{◌≡◌, length, take, vec_len, vec_capacity}
use Rattle.weld_deeds.specs.Rows.{words_at}
use Rattle.weld_deeds.proofs.lists.i64_list.Given as goal

-- the words of the first columns are there, and there is room for those of all
abbrev pub invariant-columns : goal.invariant-columns
invariant-columns l = record {
  words : l.words.items ≡ words_at (take l.i l.columns) l.place;
  len : vec_len l.words ≡ l.i;
  room : vec_capacity l.words ≡ length l.columns;
}

use Rattle.std.proofs.Common.{◌≡◌, ◌++◌, flat_map}
use Rattle.std.specs.Vec.Iter.{into_iter_items}
use Rattle.weld_text_pieces.proofs.writing.joining.append_texts.Given as goal

-- what is appended and the texts that are left make the whole
abbrev pub invariant-texts : goal.invariant-texts
invariant-texts l = l.out ++ flat_map (λ text. text) (into_iter_items l.text-iterator) ≡ l.fn.out ++ flat_map (λ text. text) l.fn.texts.items

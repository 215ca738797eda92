-- Objects of a script with one more behind them.
use Rattle.std.proofs.Common.{◌≡◌, ◌∙◌, sym, ap, refl, List, [], ◌∷◌, ◌++◌, append_assoc}
use Rattle.std.proofs.lemmas.List.{append-nil}
use Rattle.weld_tree.specs.TypeTree.{TypeTree}
use Rattle.weld_script.specs.declared.made.Made.{Made}
use Rattle.weld_script.specs.declared.made.Made.TheVariants as makes
use Rattle.weld_script.specs.Script.{AreMade, IsMade, AreDeclared, made_type, made_types_from, declared_of, declared_by}

pub made_grow : (ts : List TypeTree) (ms : List Made) (m : Made) → AreMade ts ms → IsMade (made_types_from ts ms) m → AreMade ts (ms ++ m ∷ [])
made_grow ts [] m old new = (new, tt)
made_grow ts (n ∷ ms) m old new = (old.0, made_grow (ts ++ made_type ts n ∷ []) ms m old.1 new)

pub types_grow : (ts : List TypeTree) (ms : List Made) (m : Made)
    → made_types_from ts (ms ++ m ∷ []) ≡ made_types_from ts ms ++ made_type (made_types_from ts ms) m ∷ []
types_grow ts [] m = refl
types_grow ts (n ∷ ms) m = types_grow (ts ++ made_type ts n ∷ []) ms m

pub declared_grow : (ms : List Made) (m : Made) → declared_of (ms ++ m ∷ []) ≡ declared_of ms ++ declared_by m
declared_grow [] m = append-nil (declared_by m)
declared_grow (n ∷ ms) m = ap (λ ds. declared_by n ++ ds) (declared_grow ms m) ∙ sym (append_assoc (declared_by n) (declared_of ms) (declared_by m))

declared_from : (ts : List TypeTree) (ms : List Made) → AreMade ts ms → AreDeclared (declared_of ms)
declared_from ts [] h = tt
declared_from ts (makes.Declared d ∷ ms) h = (h.0, declared_from (ts ++ made_type ts (makes.Declared d) ∷ []) ms h.1)
declared_from ts (makes.Literal k x ∷ ms) h = declared_from (ts ++ made_type ts (makes.Literal k x) ∷ []) ms h.1
declared_from ts (makes.Call c ids ∷ ms) h = declared_from (ts ++ made_type ts (makes.Call c ids) ∷ []) ms h.1

pub all_declared : (ms : List Made) → AreMade [] ms → AreDeclared (declared_of ms)
all_declared ms h = declared_from [] ms h

-- The fields of a struct, one after another.
use Rattle.std.proofs.Common.{◌≡◌, sym, ◌∙◌, ℕ, ◌+◌, ◌<◌, ◌≤◌, List, [], ◌∷◌, ◌++◌, length, drop, get_or, ap, append_assoc, append-nil, Result, Ok, Err, OnOk, codes}
use Rattle.std.proofs.lemmas.List.{at_drop_more, drop_all}
use Rattle.weld_data.specs.declared.op.MergeOp.{MergeOp}
use Rattle.weld_tree.specs.TypeTree.{TypeTree, keyed, groups, pack}
use Rattle.weld_print.specs.TypeText.{op_text, type_text, build_text, fields_text}

-- what is written up to a field, the field, and what is left make the whole
pub field_written : (ts : List TypeTree) (i lead : ℕ) (t : TypeTree) (out pushed written whole : List ℕ) → i < length ts → t ≡ get_or ts i t → pushed ≡ out ++ lead ∷ [] → written ≡ pushed ++ type_text t
    → out ++ fields_text lead (pack (drop i ts)) ≡ whole → written ++ fields_text 44 (pack (drop (i + 1) ts)) ≡ whole
field_written ts i lead t out pushed written whole l is p w so =
    let rest = fields_text 44 (pack (drop (i + 1) ts)) in
    ap (λ (x : List ℕ). x ++ rest) (w ∙ ap (λ (x : List ℕ). x ++ type_text t) p)
    ∙ append_assoc (out ++ lead ∷ []) (type_text t) rest
    ∙ append_assoc out (lead ∷ []) (type_text t ++ rest)
    ∙ ap (λ (x : TypeTree). out ++ (lead ∷ (type_text x ++ rest))) is
    ∙ ap (λ (x : List ℕ). out ++ x) (sym (at_drop_more (λ (r : List TypeTree). fields_text lead (pack r)) ts i t l))
    ∙ so

-- behind the last field nothing is left
pub fields_end : (ts : List TypeTree) (i lead : ℕ) (out start : List ℕ) → length ts ≤ i → out ++ fields_text lead (pack (drop i ts)) ≡ start ++ fields_text 123 (pack ts) → out ≡ start ++ fields_text 123 (pack ts)
fields_end ts i lead out start l so =
    sym (ap (λ (r : List TypeTree). out ++ fields_text lead (pack r)) (drop_all i ts l) ∙ append-nil out) ∙ so

-- three texts one after another
pub three_written : {A E : Type 0} (r : Result A E) (out front middle end first second third whole : List ℕ) → first ≡ out ++ front → second ≡ first ++ middle → OnOk r (third ≡ second ++ end) → front ++ middle ++ end ≡ whole → OnOk r (third ≡ out ++ whole)
three_written (Err e) out front middle end first second third whole a b c w = tt
three_written (Ok x) out front middle end first second third whole a b c w =
    c ∙ ap (λ (t : List ℕ). t ++ end) (b ∙ ap (λ (t : List ℕ). t ++ middle) a ∙ append_assoc out front middle) ∙ append_assoc out (front ++ middle) end ∙ ap (λ (t : List ℕ). out ++ t) w

pub keyed_text : (k v : TypeTree) (op : MergeOp) → codes "dictmerger[" ++ (type_text k ++ codes "," ++ type_text v) ++ (codes "," ++ op_text op ++ codes "]") ≡ build_text (keyed k v op)
keyed_text k v op = simp append_assoc

pub groups_text : (k v : TypeTree) → codes "groupbuilder[" ++ (type_text k ++ codes "," ++ type_text v) ++ codes "]" ≡ build_text (groups k v)
groups_text k v = simp append_assoc

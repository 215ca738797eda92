-- The steps of the loops: what is written, the next part, and what is left make the whole.
use Rattle.std.proofs.Common.{◌≡◌, ◌==◌, false, sym, ◌∙◌, ℕ, ◌+◌, ◌<◌, ◌≤◌, List, [], ◌∷◌, ◌++◌, length, drop, get_or, map, ap, append_assoc, append-nil, arith, zero, suc, subst, codes, Result, Ok, Err, OnOk}
use Rattle.std.proofs.lemmas.List.{at_drop_more, drop_all}
use Rattle.std.proofs.lemmas.Bool.{false≢true}
use Rattle.weld_tree.specs.declared.binder.Binder.{Binder}
use Rattle.weld_tree.specs.declared.expr.Leg.{Leg}
use Rattle.weld_tree.specs.ExprTree.{ExprTree, pack_exprs, pack_legs}
use Rattle.weld_tree.specs.ExprFalls.{leg_nodes, legs_nodes}
use Rattle.weld_tree.specs.ExprView.{view_leg}
use Rattle.weld_tree.specs.Program.{bound, bound_in, bound_in_leg, bound_in_legs, syms_of}
use Rattle.weld_write_value.specs.Showing.{shown_byte}
use Rattle.weld_print.specs.PrintText.{items_text, expr_text, exprs_text, leg_text, legs_text, rows_text, binder_text, binders_text}

-- one part more
more : (out piece new rest left whole : List ℕ) → new ≡ out ++ piece → left ≡ piece ++ rest → out ++ left ≡ whole → new ++ rest ≡ whole
more out piece new rest left whole n l so = ap (λ (x : List ℕ). x ++ rest) n ∙ append_assoc out piece rest ∙ ap (λ (x : List ℕ). out ++ x) (sym l) ∙ so

-- none is left
none : (out left whole : List ℕ) → left ≡ [] → out ++ left ≡ whole → out ≡ whole
none out left whole l so = sym (ap (λ (x : List ℕ). out ++ x) l ∙ append-nil out) ∙ so

-- ---- numbers of binders

pub params_more : (bs : List Binder) (i : ℕ) (b : Binder) (out new whole : List ℕ) → i < length bs → b ≡ get_or bs i b → new ≡ out ++ b.sym.0 ∷ [] → out ++ syms_of (drop i bs) ≡ whole → new ++ syms_of (drop (i + 1) bs) ≡ whole
params_more bs i b out new whole l is n so =
    more out (b.sym.0 ∷ []) new (syms_of (drop (i + 1) bs)) (syms_of (drop i bs)) whole n
    (at_drop_more syms_of bs i b l ∙ ap (λ (c : Binder). c.sym.0 ∷ syms_of (drop (i + 1) bs)) (sym is)) so

pub params_end : (bs : List Binder) (i : ℕ) (out whole : List ℕ) → length bs ≤ i → out ++ syms_of (drop i bs) ≡ whole → out ≡ whole
params_end bs i out whole l so = none out (syms_of (drop i bs)) whole (ap syms_of (drop_all i bs l)) so

pub bound_more : (es : List ExprTree) (i : ℕ) (e : ExprTree) (out new whole : List ℕ) → i < length es → e ≡ get_or es i e → new ≡ out ++ bound e → out ++ bound_in (pack_exprs (drop i es)) ≡ whole → new ++ bound_in (pack_exprs (drop (i + 1) es)) ≡ whole
bound_more es i e out new whole l is n so =
    let f : List ExprTree → List ℕ = λ r. bound_in (pack_exprs r) in
    more out (bound e) new (f (drop (i + 1) es)) (f (drop i es)) whole n
    (at_drop_more f es i e l ∙ ap (λ (c : ExprTree). bound c ++ f (drop (i + 1) es)) (sym is)) so

pub bound_end : (es : List ExprTree) (i : ℕ) (out whole : List ℕ) → length es ≤ i → out ++ bound_in (pack_exprs (drop i es)) ≡ whole → out ≡ whole
bound_end es i out whole l so = none out (bound_in (pack_exprs (drop i es))) whole (ap (λ (r : List ExprTree). bound_in (pack_exprs r)) (drop_all i es l)) so

pub bound_legs_more : (ls : List Leg) (i : ℕ) (x : Leg) (out new whole : List ℕ) → i < length ls → x ≡ get_or ls i x → new ≡ out ++ bound_in_leg (view_leg x) → out ++ bound_in_legs (pack_legs (map view_leg (drop i ls))) ≡ whole → new ++ bound_in_legs (pack_legs (map view_leg (drop (i + 1) ls))) ≡ whole
bound_legs_more ls i x out new whole l is n so =
    let f : List Leg → List ℕ = λ r. bound_in_legs (pack_legs (map view_leg r)) in
    more out (bound_in_leg (view_leg x)) new (f (drop (i + 1) ls)) (f (drop i ls)) whole n
    (at_drop_more f ls i x l ∙ ap (λ (c : Leg). bound_in_leg (view_leg c) ++ f (drop (i + 1) ls)) (sym is)) so

pub bound_legs_end : (ls : List Leg) (i : ℕ) (out whole : List ℕ) → length ls ≤ i → out ++ bound_in_legs (pack_legs (map view_leg (drop i ls))) ≡ whole → out ≡ whole
bound_legs_end ls i out whole l so = none out (bound_in_legs (pack_legs (map view_leg (drop i ls)))) whole (ap (λ (r : List Leg). bound_in_legs (pack_legs (map view_leg r))) (drop_all i ls l)) so

-- ---- texts

pub items_more : (bs : List ℕ) (i b : ℕ) (out new whole : List ℕ) → i < length bs → b ≡ get_or bs i b → new ≡ out ++ shown_byte b → out ++ items_text (drop i bs) ≡ whole → new ++ items_text (drop (i + 1) bs) ≡ whole
items_more bs i b out new whole l is n so =
    more out (shown_byte b) new (items_text (drop (i + 1) bs)) (items_text (drop i bs)) whole n
    (at_drop_more items_text bs i b l ∙ ap (λ (c : ℕ). shown_byte c ++ items_text (drop (i + 1) bs)) (sym is)) so

pub items_end : (bs : List ℕ) (i : ℕ) (out whole : List ℕ) → length bs ≤ i → out ++ items_text (drop i bs) ≡ whole → out ≡ whole
items_end bs i out whole l so = none out (items_text (drop i bs)) whole (ap items_text (drop_all i bs l)) so

-- a separator and a part more
two_more : (out lead piece pushed new rest left whole : List ℕ) → pushed ≡ out ++ lead → new ≡ pushed ++ piece → left ≡ lead ++ piece ++ rest → out ++ left ≡ whole → new ++ rest ≡ whole
two_more out lead piece pushed new rest left whole p n l so =
    more out (lead ++ piece) new rest left whole (n ∙ ap (λ (x : List ℕ). x ++ piece) p ∙ append_assoc out lead piece) l so

pub binders_more : (names lead : List ℕ) (bs : List Binder) (i : ℕ) (b : Binder) (out pushed new whole : List ℕ) → i < length bs → b ≡ get_or bs i b → pushed ≡ out ++ lead → new ≡ pushed ++ binder_text names b
    → out ++ binders_text names lead (drop i bs) ≡ whole → new ++ binders_text names (44 ∷ 32 ∷ []) (drop (i + 1) bs) ≡ whole
binders_more names lead bs i b out pushed new whole l is p n so =
    let rest = binders_text names (44 ∷ 32 ∷ []) (drop (i + 1) bs) in
    two_more out lead (binder_text names b) pushed new rest (binders_text names lead (drop i bs)) whole p n
    (at_drop_more (binders_text names lead) bs i b l ∙ ap (λ (c : Binder). lead ++ binder_text names c ++ rest) (sym is)) so

pub binders_end : (names lead : List ℕ) (bs : List Binder) (i : ℕ) (out whole : List ℕ) → length bs ≤ i → out ++ binders_text names lead (drop i bs) ≡ whole → out ≡ whole
binders_end names lead bs i out whole l so = none out (binders_text names lead (drop i bs)) whole (ap (binders_text names lead) (drop_all i bs l)) so

pub parts_more : (names lead : List ℕ) (es : List ExprTree) (i : ℕ) (e : ExprTree) (out pushed new whole : List ℕ) → i < length es → e ≡ get_or es i e → pushed ≡ out ++ lead → new ≡ pushed ++ expr_text names e
    → out ++ exprs_text names lead (pack_exprs (drop i es)) ≡ whole → new ++ exprs_text names (44 ∷ 32 ∷ []) (pack_exprs (drop (i + 1) es)) ≡ whole
parts_more names lead es i e out pushed new whole l is p n so =
    let rest = exprs_text names (44 ∷ 32 ∷ []) (pack_exprs (drop (i + 1) es)) in
    let f : List ExprTree → List ℕ = λ r. exprs_text names lead (pack_exprs r) in
    two_more out lead (expr_text names e) pushed new rest (f (drop i es)) whole p n
    (at_drop_more f es i e l ∙ ap (λ (c : ExprTree). lead ++ expr_text names c ++ rest) (sym is)) so

pub parts_end : (names lead : List ℕ) (es : List ExprTree) (i : ℕ) (out whole : List ℕ) → length es ≤ i → out ++ exprs_text names lead (pack_exprs (drop i es)) ≡ whole → out ≡ whole
parts_end names lead es i out whole l so = none out (exprs_text names lead (pack_exprs (drop i es))) whole (ap (λ (r : List ExprTree). exprs_text names lead (pack_exprs r)) (drop_all i es l)) so

pub legs_more : (names : List ℕ) (ls : List Leg) (i : ℕ) (x : Leg) (out pushed new whole : List ℕ) → i < length ls → x ≡ get_or ls i x → pushed ≡ out ++ (44 ∷ 32 ∷ []) → new ≡ pushed ++ leg_text names (view_leg x)
    → out ++ legs_text names (pack_legs (map view_leg (drop i ls))) ≡ whole → new ++ legs_text names (pack_legs (map view_leg (drop (i + 1) ls))) ≡ whole
legs_more names ls i x out pushed new whole l is p n so =
    let f : List Leg → List ℕ = λ r. legs_text names (pack_legs (map view_leg r)) in
    two_more out (44 ∷ 32 ∷ []) (leg_text names (view_leg x)) pushed new (f (drop (i + 1) ls)) (f (drop i ls)) whole p n
    (at_drop_more f ls i x l ∙ ap (λ (c : Leg). (44 ∷ 32 ∷ []) ++ leg_text names (view_leg c) ++ f (drop (i + 1) ls)) (sym is)) so

pub legs_end : (names : List ℕ) (ls : List Leg) (i : ℕ) (out whole : List ℕ) → length ls ≤ i → out ++ legs_text names (pack_legs (map view_leg (drop i ls))) ≡ whole → out ≡ whole
legs_end names ls i out whole l so = none out (legs_text names (pack_legs (map view_leg (drop i ls)))) whole (ap (λ (r : List Leg). legs_text names (pack_legs (map view_leg r))) (drop_all i ls l)) so

-- ---- legs

leg_under : (ls : List Leg) (i : ℕ) (d : Leg) → i < length ls → leg_nodes (view_leg (get_or ls i d)) ≤ legs_nodes (pack_legs (map view_leg ls))
leg_under [] i d h = absurd (omega arith)
leg_under (l ∷ ls) zero d h = omega arith
leg_under (l ∷ ls) (suc i) d h = let r : leg_nodes (view_leg (get_or ls i d)) ≤ legs_nodes (pack_legs (map view_leg ls)) = leg_under ls i d (omega arith) in omega arith

-- a leg has no more nodes than all of them
pub leg_fits : (ls : List Leg) (i : ℕ) (x : Leg) → i < length ls → x ≡ get_or ls i x → leg_nodes (view_leg x) ≤ legs_nodes (pack_legs (map view_leg ls))
leg_fits ls i x l is = subst (λ (y : Leg). leg_nodes (view_leg y) ≤ legs_nodes (pack_legs (map view_leg ls))) (sym is) (leg_under ls i x l)

-- more legs than one stand in a `zip`
pub zip_text : (names : List ℕ) (ls : List Leg) (x : Leg) (further : List Leg) → ls ≡ x ∷ further → (length further == 0) ≡ false
    → codes "zip(" ++ leg_text names (view_leg x) ++ legs_text names (pack_legs (map view_leg further)) ++ codes ")" ≡ rows_text names (pack_legs (map view_leg ls))
zip_text names ls x [] e h = absurd (false≢true (sym h))
zip_text names ls x (y ∷ ys) e h = ap (λ (r : List Leg). rows_text names (pack_legs (map view_leg r))) (sym e)

-- four texts one after another
pub four_written : {A E : Type 0} (r : Result A E) (out a b c d first second third fourth whole : List ℕ) → first ≡ out ++ a → second ≡ first ++ b → third ≡ second ++ c → OnOk r (fourth ≡ third ++ d) → a ++ b ++ c ++ d ≡ whole → OnOk r (fourth ≡ out ++ whole)
four_written (Err e) out a b c d first second third fourth whole p q s t w = tt
four_written (Ok x) out a b c d first second third fourth whole p q s t w =
    t ∙ ap (λ (y : List ℕ). y ++ d) (s ∙ ap (λ (y : List ℕ). y ++ c) (q ∙ ap (λ (y : List ℕ). y ++ b) p ∙ append_assoc out a b) ∙ append_assoc out (a ++ b) c) ∙ append_assoc out (a ++ b ++ c) d ∙ ap (λ (y : List ℕ). out ++ y) w

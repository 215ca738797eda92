-- What the functions of the walk answer, over plain variables.
use Rattle.std.proofs.Common.{◌≡◌, List, [], ◌∷◌, sym, ap, ◌∙◌, refl, subst, Result, Ok}
use Rattle.weld_meaning.specs.Typing.{Types, body_types, place_type, truth_type}
use Rattle.weld_tree.specs.TypeTree.{TypeTree, TypeTrees}
use Rattle.weld_tree.specs.Types.{pair_of}
use Rattle.weld_tree.specs.ExprTree.{At, ExprTree, LegTree, LegTrees, whole, strided, loop, iterate, pack_legs}
use Rattle.weld_tree.specs.ExprView.{view_form}
use Rattle.weld_tree.specs.declared.expr.Form.{Form}
use Rattle.weld_tree.specs.declared.binder.Binder.{Binder}
use Rattle.weld_tree.specs.declared.code.Code.TheVariants.{Y26, Y27}
use Rattle.weld_tree.specs.declared.place.Place.{Place}
use Rattle.weld_tree.specs.declared.refusal.Refusal.{Refusal}
use Rattle.weld_types.specs.Gathered.{before}
use Rattle.weld_types.specs.Says.{Allows, RefusalSays, Says}
use Rattle.weld_types.specs.Tests.{is_builder_free, same_type}
use Rattle.weld_types.specs.Walk.{Found, found, refused, at_node, demand_at, elements, go_on, noted, row_by, Strips, strips_of, type_of}
use Rattle.weld_check_types.specs.Gathered.{Pushes, GathersLeg, gathered_strips, strips_before, type_behind_legs}
use Rattle.weld_check_types.specs.declared.type_walk.legs.Strips.{Strips as CodeStrips}
use Rattle.weld_check_types.proofs.Left.{says_on, whole_gathers, strided_gathers}

abbrev strips : TypeTrees → TypeTrees → Strips
strips vs bs = record { vectors = vs; bounds = bs }

none_by : (s : CodeStrips) (w : Found Strips) → s.vectors ≡ [] → s.bounds ≡ [] → w ≡ go_on w (λ (t : Strips). found (strips_before s t))
none_by s (found t) p q =
    ap (λ (vs : List TypeTree). found (strips (before vs t.vectors) t.bounds)) (sym p)
    ∙ ap (λ (bs : List TypeTree). found (strips (before s.vectors t.vectors) (before bs t.bounds))) (sym q)
none_by s (refused c l) p q = refl

-- nothing is gathered yet
pub none_gathered : (s : CodeStrips) (ls : LegTrees) (g : Types) → s.vectors ≡ [] → s.bounds ≡ [] → strips_of ls g ≡ gathered_strips s ls g
none_gathered s ls g p q = none_by s (strips_of ls g) p q

pub whole_answer : {A : Type 0} (r : Result A Refusal) (l : LegTree) (d e : ExprTree) (g : Types) (was now : CodeStrips)
    → l ≡ whole e → d ≡ e → Pushes r (type_of d g) was.vectors now.vectors → now.bounds ≡ was.bounds → GathersLeg r l g was now
whole_answer r l d e g was now at' same p q =
    subst (λ (m : LegTree). GathersLeg r m g was now) (sym at')
    (whole_gathers r e g was now (subst (λ (x : ExprTree). Pushes r (type_of x g) was.vectors now.vectors) same p) q)

pub strided_answer : {A : Type 0} (r : Result A Refusal) (l : LegTree) (d1 d2 d3 d4 e f h i : ExprTree) (g : Types) (was now : CodeStrips) (b c : List TypeTree) (x : A)
    → l ≡ strided e f h i → d1 ≡ e → d2 ≡ f → d3 ≡ h → d4 ≡ i
    → Pushes (Ok x) (type_of d1 g) was.vectors now.vectors → Pushes (Ok x) (type_of d2 g) was.bounds b → Pushes (Ok x) (type_of d3 g) b c → Pushes r (type_of d4 g) c now.bounds
    → GathersLeg r l g was now
strided_answer r l d1 d2 d3 d4 e f h i g was now b c x at' s1 s2 s3 s4 p q u v =
    subst (λ (m : LegTree). GathersLeg r m g was now) (sym at')
    (strided_gathers r e f h i g was now b c x
    (subst (λ (y : ExprTree). Pushes (Ok x) (type_of y g) was.vectors now.vectors) s1 p)
    (subst (λ (y : ExprTree). Pushes (Ok x) (type_of y g) was.bounds b) s2 q)
    (subst (λ (y : ExprTree). Pushes (Ok x) (type_of y g) b c) s3 u)
    (subst (λ (y : ExprTree). Pushes r (type_of y g) c now.bounds) s4 v))

-- the body of a loop

pub body_refused : (r : Refusal) (number : TypeTree) (f : ExprTree) (b n x : Binder) (t w : TypeTree) (g : Types) (p : Place) (later : Found TypeTree)
    → number ≡ place_type → RefusalSays r (type_of f ((x.sym.0, w) ∷ (n.sym.0, number) ∷ (b.sym.0, t) ∷ g))
    → RefusalSays r (go_on (type_of f (body_types b n x t w g)) (λ u. demand_at (same_type u t) Y26 p later))
body_refused r number f b n x t w g p later same h =
    says_on r (type_of f (body_types b n x t w g)) (λ u. demand_at (same_type u t) Y26 p later)
    (subst (λ (m : TypeTree). RefusalSays r (type_of f ((x.sym.0, w) ∷ (n.sym.0, m) ∷ (b.sym.0, t) ∷ g))) same h)

pub body_found : {A : Type 0} (s : Result A Refusal) (v number : TypeTree) (f : ExprTree) (b n x : Binder) (t w : TypeTree) (g : Types) (p : Place) (later : Found TypeTree)
    → number ≡ place_type → type_of f ((x.sym.0, w) ∷ (n.sym.0, number) ∷ (b.sym.0, t) ∷ g) ≡ found v → Allows s (demand_at (same_type v t) Y26 p later) later
    → Allows s (go_on (type_of f (body_types b n x t w g)) (λ u. demand_at (same_type u t) Y26 p later)) later
body_found s v number f b n x t w g p later same h k =
    subst (λ (z : Found TypeTree). Allows s (go_on z (λ u. demand_at (same_type u t) Y26 p later)) later)
    (sym (subst (λ (m : TypeTree). type_of f ((x.sym.0, w) ∷ (n.sym.0, m) ∷ (b.sym.0, t) ∷ g) ≡ found v) same h)) k

-- a loop whose builder and rows have types, and whose notes fit
pub rows_found : (p : Place) (s : Strips) (e f : ExprTree) (b n x : Binder) (g : Types) (t r : TypeTree)
    → type_of e g ≡ found t → at_node p (row_by (elements s.vectors) s.bounds t) ≡ found r
    → ((later : Found TypeTree) → noted b.note b t (noted n.note n place_type (noted x.note x r later)) ≡ later)
    → type_behind_legs p s e b n x f g ≡ go_on (type_of f (body_types b n x t r g)) (λ u. demand_at (same_type u t) Y26 p (found t))
rows_found p s e f b n x g t r h k notes =
    ap (λ (w : Found TypeTree). go_on w (λ t. go_on (at_node p (row_by (elements s.vectors) s.bounds t)) (λ r.
    noted b.note b t (noted n.note n place_type (noted x.note x r (go_on (type_of f (body_types b n x t r g)) (λ u. demand_at (same_type u t) Y26 p (found t)))))))) h
    ∙ ap (λ (w : Found TypeTree). go_on w (λ r.
    noted b.note b t (noted n.note n place_type (noted x.note x r (go_on (type_of f (body_types b n x t r g)) (λ u. demand_at (same_type u t) Y26 p (found t))))))) k
    ∙ notes (go_on (type_of f (body_types b n x t r g)) (λ u. demand_at (same_type u t) Y26 p (found t)))

pub rows_refused : (c : Refusal) (p : Place) (s : Strips) (e f : ExprTree) (b n x : Binder) (g : Types) (t r : TypeTree)
    → type_of e g ≡ found t → at_node p (row_by (elements s.vectors) s.bounds t) ≡ found r
    → ((later : Found TypeTree) → noted b.note b t (noted n.note n place_type (noted x.note x r later)) ≡ later)
    → RefusalSays c (go_on (type_of f (body_types b n x t r g)) (λ u. demand_at (same_type u t) Y26 p (found t))) → RefusalSays c (type_behind_legs p s e b n x f g)
rows_refused c p s e f b n x g t r h k notes l = subst (λ (w : Found TypeTree). RefusalSays c w) (sym (rows_found p s e f b n x g t r h k notes)) l

-- a loop and turns as nodes of the code

pub loop_answer : (r : Result TypeTree Refusal) (e : ExprTree) (form : Form) (a : At) (ls : List LegTree) (d1 d2 h f : ExprTree) (b1 n1 x1 b n x : Binder) (g : Types)
    → view_form form a ≡ e → view_form form a ≡ loop a (pack_legs ls) h b n x f → d1 ≡ h → d2 ≡ f → b1 ≡ b → n1 ≡ n → x1 ≡ x
    → Says r (go_on (strips_of (pack_legs ls) g) (λ s. type_behind_legs a.place s d1 b1 n1 x1 d2 g)) → Says r (type_of e g)
loop_answer r e form a ls d1 d2 h f b1 n1 x1 b n x g here is s1 s2 s3 s4 s5 k =
    subst (λ (z : ExprTree). Says r (type_of z g)) (sym is ∙ here)
    (subst (λ (z : Binder). Says r (go_on (strips_of (pack_legs ls) g) (λ s. type_behind_legs a.place s h b n z f g))) s5
    (subst (λ (z : Binder). Says r (go_on (strips_of (pack_legs ls) g) (λ s. type_behind_legs a.place s h b z x1 f g))) s4
    (subst (λ (z : Binder). Says r (go_on (strips_of (pack_legs ls) g) (λ s. type_behind_legs a.place s h z n1 x1 f g))) s3
    (subst (λ (y : ExprTree). Says r (go_on (strips_of (pack_legs ls) g) (λ s. type_behind_legs a.place s h b1 n1 x1 y g))) s2
    (subst (λ (y : ExprTree). Says r (go_on (strips_of (pack_legs ls) g) (λ s. type_behind_legs a.place s y b1 n1 x1 d2 g))) s1 k)))))

-- the walk over turns, by its parts
abbrev turns_by : Place → ExprTree → ExprTree → Binder → Types → Found TypeTree
turns_by p h f b g =
    go_on (type_of h g) (λ s. demand_at (is_builder_free s) Y27 p (noted b.note b s
    (go_on (type_of f ((b.sym.0, s) ∷ g)) (λ u. demand_at (same_type u (pair_of s truth_type)) Y27 p (found s)))))

pub iterate_answer : (r : Result TypeTree Refusal) (e : ExprTree) (form : Form) (a : At) (d1 d2 h f : ExprTree) (b : Binder) (g : Types)
    → view_form form a ≡ e → view_form form a ≡ iterate a h b f → d1 ≡ h → d2 ≡ f → Says r (turns_by a.place d1 d2 b g) → Says r (type_of e g)
iterate_answer r e form a d1 d2 h f b g here is s1 s2 k =
    subst (λ (z : ExprTree). Says r (type_of z g)) (sym is ∙ here)
    (subst (λ (y : ExprTree). Says r (turns_by a.place h y b g)) s2
    (subst (λ (y : ExprTree). Says r (turns_by a.place y d2 b g)) s1 k))

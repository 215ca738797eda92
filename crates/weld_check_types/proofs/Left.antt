-- What is left of lists of expressions, legs and parameters from a place on.
use Rattle.std.proofs.Common.{◌≡◌, ℕ, ◌+◌, ◌<◌, ◌≤◌, List, [], ◌∷◌, ◌++◌, length, drop, get_or, sym, ap, ◌∙◌, refl, subst, Result, Ok, Err}
use Rattle.std.proofs.lemmas.List.{at_drop_more, drop_all}
use Rattle.weld_meaning.specs.Typing.{Types}
use Rattle.weld_tree.specs.TypeTree.{TypeTree, TypeTrees, pack, no_types, more_types}
use Rattle.weld_tree.specs.ExprTree.{ExprTree, LegTree, LegTrees, more_legs, whole, strided, pack_exprs, pack_legs}
use Rattle.weld_tree.specs.declared.refusal.Refusal.{Refusal}
use Rattle.weld_tree.specs.declared.refusal.Refusal.TheVariants.{At, Size, Memory}
use Rattle.weld_types.specs.Gathered.{before}
use Rattle.weld_types.specs.Says.{RefusalSays}
use Rattle.weld_types.specs.Walk.{Found, found, refused, go_on, Strips, strips_of, type_of, types_of}
use Rattle.weld_check_types.specs.Gathered.{Pushes, GathersLeg, gathered_types, gathered_strips, strips_before, view_strips}
use Rattle.weld_check_types.specs.declared.type_walk.legs.Strips.{Strips as CodeStrips}

-- the types of legs
abbrev strips : TypeTrees → TypeTrees → Strips
strips vs bs = record { vectors = vs; bounds = bs }

-- ---- types

-- these types and no others
pub before_none : (ts : List TypeTree) → before ts no_types ≡ pack ts
before_none [] = refl
before_none (t ∷ ts) = ap (more_types t) (before_none ts)

-- one more is gathered
pub before_more : (ts : List TypeTree) (u : TypeTree) (us : TypeTrees) → before (ts ++ u ∷ []) us ≡ before ts (more_types u us)
before_more [] u us = refl
before_more (t ∷ ts) u us = ap (more_types t) (before_more ts u us)

-- what a refusal says of a part it says of what goes on behind it
pub says_on : {A B : Type 0} (r : Refusal) (w : Found A) (f : A → Found B) → RefusalSays r w → RefusalSays r (go_on w f)
says_on (At c p) w f h = ap (λ v. go_on v f) h
says_on (Size c) w f h = h
says_on Memory w f h = h

-- ---- expressions

found_more : (ts : List TypeTree) (t : TypeTree) (w : Found TypeTrees) → go_on (go_on w (λ us. found (more_types t us))) (λ us. found (before ts us)) ≡ go_on w (λ us. found (before (ts ++ t ∷ []) us))
found_more ts t (found us) = ap found (sym (before_more ts t us))
found_more ts t (refused c p) = refl

pub type_left : {A : Type 0} (es : List ExprTree) (ts us : List TypeTree) (g : Types) (i : ℕ) (e d : ExprTree) (x : A) → i < length es → e ≡ get_or es i d → Pushes (Ok x) (type_of e g) ts us
    → gathered_types ts (pack_exprs (drop i es)) g ≡ gathered_types us (pack_exprs (drop (i + 1) es)) g
type_left es ts us g i e d x h p q =
    at_drop_more (λ rest. gathered_types ts (pack_exprs rest) g) es i d h
    ∙ ap (λ u. go_on (go_on (type_of u g) (λ t. go_on (types_of (pack_exprs (drop (i + 1) es)) g) (λ vs. found (more_types t vs)))) (λ vs. found (before ts vs))) (sym p)
    ∙ ap (λ w. go_on (go_on w (λ t. go_on (types_of (pack_exprs (drop (i + 1) es)) g) (λ vs. found (more_types t vs)))) (λ vs. found (before ts vs))) q.1
    ∙ found_more ts q.0 (types_of (pack_exprs (drop (i + 1) es)) g)
    ∙ ap (λ vs. gathered_types vs (pack_exprs (drop (i + 1) es)) g) (sym q.2)

pub no_type_left : (es : List ExprTree) (ts : List TypeTree) (g : Types) (i : ℕ) → length es ≤ i → gathered_types ts (pack_exprs (drop i es)) g ≡ found (pack ts)
no_type_left es ts g i h = ap (λ rest. gathered_types ts (pack_exprs rest) g) (drop_all i es h) ∙ ap found (before_none ts)

pub type_refused : (es : List ExprTree) (ts : List TypeTree) (g : Types) (i : ℕ) (e d : ExprTree) (r : Refusal) → i < length es → e ≡ get_or es i d → RefusalSays r (type_of e g)
    → RefusalSays r (gathered_types ts (pack_exprs (drop i es)) g)
type_refused es ts g i e d r h p q =
    subst (λ (w : Found TypeTrees). RefusalSays r w)
    (sym (at_drop_more (λ rest. gathered_types ts (pack_exprs rest) g) es i d h
    ∙ ap (λ u. go_on (go_on (type_of u g) (λ t. go_on (types_of (pack_exprs (drop (i + 1) es)) g) (λ vs. found (more_types t vs)))) (λ vs. found (before ts vs))) (sym p)))
    (says_on r (go_on (type_of e g) (λ t. go_on (types_of (pack_exprs (drop (i + 1) es)) g) (λ vs. found (more_types t vs)))) (λ vs. found (before ts vs))
    (says_on r (type_of e g) (λ t. go_on (types_of (pack_exprs (drop (i + 1) es)) g) (λ vs. found (more_types t vs))) q))

-- ---- legs

pub leg_left : {A : Type 0} (ls : List LegTree) (was now : CodeStrips) (g : Types) (i : ℕ) (l d : LegTree) (x : A) → i < length ls → l ≡ get_or ls i d → GathersLeg (Ok x) l g was now
    → gathered_strips was (pack_legs (drop i ls)) g ≡ gathered_strips now (pack_legs (drop (i + 1) ls)) g
leg_left ls was now g i l d x h p q =
    at_drop_more (λ rest. gathered_strips was (pack_legs rest) g) ls i d h
    ∙ ap (λ m. gathered_strips was (more_legs m (pack_legs (drop (i + 1) ls))) g) (sym p)
    ∙ q (pack_legs (drop (i + 1) ls))

pub no_leg_left : (ls : List LegTree) (s : CodeStrips) (g : Types) (i : ℕ) → length ls ≤ i → gathered_strips s (pack_legs (drop i ls)) g ≡ found (view_strips s)
no_leg_left ls s g i h =
    ap (λ rest. gathered_strips s (pack_legs rest) g) (drop_all i ls h)
    ∙ ap (λ vs. found (strips (vs) (before s.bounds no_types))) (before_none s.vectors)
    ∙ ap (λ bs. found (strips (pack s.vectors) (bs))) (before_none s.bounds)

pub leg_refused : (ls : List LegTree) (was : CodeStrips) (g : Types) (i : ℕ) (l d : LegTree) (r : Refusal) → i < length ls → l ≡ get_or ls i d → ((rest : LegTrees) → RefusalSays r (strips_of (more_legs l rest) g))
    → RefusalSays r (gathered_strips was (pack_legs (drop i ls)) g)
leg_refused ls was g i l d r h p q =
    subst (λ (w : Found Strips). RefusalSays r w)
    (sym (at_drop_more (λ rest. gathered_strips was (pack_legs rest) g) ls i d h
    ∙ ap (λ m. gathered_strips was (more_legs m (pack_legs (drop (i + 1) ls))) g) (sym p)))
    (says_on r (strips_of (more_legs l (pack_legs (drop (i + 1) ls))) g) (λ (s : Strips). found (strips_before was s)) (q (pack_legs (drop (i + 1) ls))))

-- one vector more
vector_more : (was now : CodeStrips) (t : TypeTree) (s : Strips) → now.vectors ≡ was.vectors ++ t ∷ [] → now.bounds ≡ was.bounds
    → strips_before was (strips (more_types t s.vectors) (s.bounds)) ≡ strips_before now s
vector_more was now t s p q =
    ap (λ vs. strips (vs) (before was.bounds s.bounds)) (sym (before_more was.vectors t s.vectors) ∙ ap (λ vs. before vs s.vectors) (sym p))
    ∙ ap (λ bs. strips (before now.vectors s.vectors) (before bs s.bounds)) (sym q)

whole_found : (was now : CodeStrips) (t : TypeTree) (w : Found Strips) → now.vectors ≡ was.vectors ++ t ∷ [] → now.bounds ≡ was.bounds
    → go_on (go_on w (λ (s : Strips). found (strips (more_types t s.vectors) s.bounds))) (λ (s : Strips). found (strips_before was s)) ≡ go_on w (λ (s : Strips). found (strips_before now s))
whole_found was now t (found s) p q = ap found (vector_more was now t s p q)
whole_found was now t (refused c l) p q = refl

pub whole_leg : {A : Type 0} (e : ExprTree) (g : Types) (was now : CodeStrips) (x : A) → Pushes (Ok x) (type_of e g) was.vectors now.vectors → now.bounds ≡ was.bounds
    → GathersLeg (Ok x) (whole e) g was now
whole_leg e g was now x p q ls =
    ap (λ (w : Found TypeTree). go_on (go_on w (λ u. go_on (strips_of ls g) (λ (s : Strips). found (strips (more_types u s.vectors) s.bounds)))) (λ (s : Strips). found (strips_before was s))) p.1
    ∙ whole_found was now p.0 (strips_of ls g) p.2 q

-- what a refusal says of the second part it says of both, where the first has a type
pub says_behind : {A B : Type 0} (r : Refusal) (w : Found A) (x : A) (f : A → Found B) → w ≡ found x → RefusalSays r (f x) → RefusalSays r (go_on w f)
says_behind r w x f p h = subst (λ (v : Found _). RefusalSays r (go_on v f)) (sym p) h

-- three bounds more
bounds_more : (was now : CodeStrips) (b c : List TypeTree) (t x y z : TypeTree) (s : Strips)
    → now.vectors ≡ was.vectors ++ t ∷ [] → b ≡ was.bounds ++ x ∷ [] → c ≡ b ++ y ∷ [] → now.bounds ≡ c ++ z ∷ []
    → strips_before was (strips (more_types t s.vectors) (more_types x (more_types y (more_types z s.bounds)))) ≡ strips_before now s
bounds_more was now b c t x y z s p q r u =
    ap (λ vs. strips (vs) (before was.bounds (more_types x (more_types y (more_types z s.bounds))))) (sym (before_more was.vectors t s.vectors) ∙ ap (λ vs. before vs s.vectors) (sym p))
    ∙ ap (λ bs. strips (before now.vectors s.vectors) (bs))
    (sym (before_more was.bounds x (more_types y (more_types z s.bounds))) ∙ ap (λ bs. before bs (more_types y (more_types z s.bounds))) (sym q)
    ∙ sym (before_more b y (more_types z s.bounds)) ∙ ap (λ bs. before bs (more_types z s.bounds)) (sym r)
    ∙ sym (before_more c z s.bounds) ∙ ap (λ bs. before bs s.bounds) (sym u))

strided_found : (was now : CodeStrips) (b c : List TypeTree) (t x y z : TypeTree) (w : Found Strips)
    → now.vectors ≡ was.vectors ++ t ∷ [] → b ≡ was.bounds ++ x ∷ [] → c ≡ b ++ y ∷ [] → now.bounds ≡ c ++ z ∷ []
    → go_on (go_on w (λ (s : Strips). found (strips (more_types t s.vectors) (more_types x (more_types y (more_types z s.bounds)))))) (λ (s : Strips). found (strips_before was s)) ≡ go_on w (λ (s : Strips). found (strips_before now s))
strided_found was now b c t x y z (found s) p q r u = ap found (bounds_more was now b c t x y z s p q r u)
strided_found was now b c t x y z (refused d l) p q r u = refl

-- the walk over a leg with bounds, by what it finds of its four parts
abbrev strided_by : Found TypeTree → Found TypeTree → Found TypeTree → Found TypeTree → Found Strips → Found Strips
strided_by v w k m rest =
    go_on v (λ u. go_on w (λ x. go_on k (λ y. go_on m (λ z.
    go_on rest (λ (s : Strips). found (strips (more_types u s.vectors) (more_types x (more_types y (more_types z s.bounds)))))))))

pub strided_leg : {A : Type 0} (e f h i : ExprTree) (g : Types) (was now : CodeStrips) (b c : List TypeTree) (x : A)
    → Pushes (Ok x) (type_of e g) was.vectors now.vectors → Pushes (Ok x) (type_of f g) was.bounds b → Pushes (Ok x) (type_of h g) b c → Pushes (Ok x) (type_of i g) c now.bounds
    → GathersLeg (Ok x) (strided e f h i) g was now
strided_leg e f h i g was now b c x p q r u ls =
    ap (λ (v : Found TypeTree). go_on (strided_by v (type_of f g) (type_of h g) (type_of i g) (strips_of ls g)) (λ (s : Strips). found (strips_before was s))) p.1
    ∙ ap (λ (v : Found TypeTree). go_on (strided_by (found p.0) v (type_of h g) (type_of i g) (strips_of ls g)) (λ (s : Strips). found (strips_before was s))) q.1
    ∙ ap (λ (v : Found TypeTree). go_on (strided_by (found p.0) (found q.0) v (type_of i g) (strips_of ls g)) (λ (s : Strips). found (strips_before was s))) r.1
    ∙ ap (λ (v : Found TypeTree). go_on (strided_by (found p.0) (found q.0) (found r.0) v (strips_of ls g)) (λ (s : Strips). found (strips_before was s))) u.1
    ∙ strided_found was now b c p.0 q.0 r.0 u.0 (strips_of ls g) p.2 q.2 r.2 u.2

-- the refusals of its parts

pub whole_refused : (e : ExprTree) (g : Types) (r : Refusal) → RefusalSays r (type_of e g) → (ls : LegTrees) → RefusalSays r (strips_of (more_legs (whole e) ls) g)
whole_refused e g r h ls = says_on r (type_of e g) (λ u. go_on (strips_of ls g) (λ (s : Strips). found (strips (more_types u s.vectors) (s.bounds)))) h

strided_says : (v w k m : Found TypeTree) (rest : Found Strips) (r : Refusal) → RefusalSays r v → RefusalSays r (strided_by v w k m rest)
strided_says v w k m rest r h =
    says_on r v (λ u. go_on w (λ x. go_on k (λ y. go_on m (λ z. go_on rest (λ (s : Strips). found (strips (more_types u s.vectors) (more_types x (more_types y (more_types z s.bounds))))))))) h

pub first_refused : (e f h i : ExprTree) (g : Types) (r : Refusal) → RefusalSays r (type_of e g) → (ls : LegTrees) → RefusalSays r (strips_of (more_legs (strided e f h i) ls) g)
first_refused e f h i g r refuses ls = strided_says (type_of e g) (type_of f g) (type_of h g) (type_of i g) (strips_of ls g) r refuses

pub second_refused : {A : Type 0} (e f h i : ExprTree) (g : Types) (r : Refusal) (was now : List TypeTree) (x : A) → Pushes (Ok x) (type_of e g) was now → RefusalSays r (type_of f g)
    → (ls : LegTrees) → RefusalSays r (strips_of (more_legs (strided e f h i) ls) g)
second_refused e f h i g r was now x p refuses ls =
    subst (λ (v : Found TypeTree). RefusalSays r (strided_by v (type_of f g) (type_of h g) (type_of i g) (strips_of ls g))) (sym p.1)
    (says_on r (type_of f g) (λ x. go_on (type_of h g) (λ y. go_on (type_of i g) (λ z. go_on (strips_of ls g) (λ (s : Strips). found (strips (more_types p.0 s.vectors) (more_types x (more_types y (more_types z s.bounds)))))))) refuses)

pub third_refused : {A : Type 0} (e f h i : ExprTree) (g : Types) (r : Refusal) (was now more most : List TypeTree) (x : A) → Pushes (Ok x) (type_of e g) was now → Pushes (Ok x) (type_of f g) more most → RefusalSays r (type_of h g)
    → (ls : LegTrees) → RefusalSays r (strips_of (more_legs (strided e f h i) ls) g)
third_refused e f h i g r was now more most x p q refuses ls =
    subst (λ (v : Found TypeTree). RefusalSays r (strided_by v (type_of f g) (type_of h g) (type_of i g) (strips_of ls g))) (sym p.1)
    (subst (λ (v : Found TypeTree). RefusalSays r (strided_by (found p.0) v (type_of h g) (type_of i g) (strips_of ls g))) (sym q.1)
    (says_on r (type_of h g) (λ y. go_on (type_of i g) (λ z. go_on (strips_of ls g) (λ (s : Strips). found (strips (more_types p.0 s.vectors) (more_types q.0 (more_types y (more_types z s.bounds))))))) refuses))

pub fourth_refused : {A : Type 0} (e f h i : ExprTree) (g : Types) (r : Refusal) (was now more most last : List TypeTree) (x : A)
    → Pushes (Ok x) (type_of e g) was now → Pushes (Ok x) (type_of f g) more most → Pushes (Ok x) (type_of h g) most last → RefusalSays r (type_of i g)
    → (ls : LegTrees) → RefusalSays r (strips_of (more_legs (strided e f h i) ls) g)
fourth_refused e f h i g r was now more most last x p q u refuses ls =
    subst (λ (v : Found TypeTree). RefusalSays r (strided_by v (type_of f g) (type_of h g) (type_of i g) (strips_of ls g))) (sym p.1)
    (subst (λ (v : Found TypeTree). RefusalSays r (strided_by (found p.0) v (type_of h g) (type_of i g) (strips_of ls g))) (sym q.1)
    (subst (λ (v : Found TypeTree). RefusalSays r (strided_by (found p.0) (found q.0) v (type_of i g) (strips_of ls g))) (sym u.1)
    (says_on r (type_of i g) (λ z. go_on (strips_of ls g) (λ (s : Strips). found (strips (more_types p.0 s.vectors) (more_types q.0 (more_types u.0 (more_types z s.bounds)))))) refuses)))

-- a leg, whatever is answered of its last part

pub whole_gathers : {A : Type 0} (r : Result A Refusal) (e : ExprTree) (g : Types) (was now : CodeStrips) → Pushes r (type_of e g) was.vectors now.vectors → now.bounds ≡ was.bounds → GathersLeg r (whole e) g was now
whole_gathers (Ok x) e g was now p q = whole_leg e g was now x p q
whole_gathers (Err r) e g was now p q = whole_refused e g r p

pub strided_gathers : {A : Type 0} (r : Result A Refusal) (e f h i : ExprTree) (g : Types) (was now : CodeStrips) (b c : List TypeTree) (x : A)
    → Pushes (Ok x) (type_of e g) was.vectors now.vectors → Pushes (Ok x) (type_of f g) was.bounds b → Pushes (Ok x) (type_of h g) b c → Pushes r (type_of i g) c now.bounds
    → GathersLeg r (strided e f h i) g was now
strided_gathers (Ok y) e f h i g was now b c x p q r u = strided_leg e f h i g was now b c x p q r u
strided_gathers (Err l) e f h i g was now b c x p q r u = fourth_refused e f h i g l was.vectors now.vectors was.bounds b c x p q r u

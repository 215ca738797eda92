-- The written type that is too large, by the tokens and by their tree: where a type fits, so do those in the brackets of its builders.
use Rattle.std.proofs.Common.{◌≡◌, refl, ℕ, ◌+◌, ◌≤◌, max, ◌⊎◌, inl, inr, Bool, true, false, not, ◌&&◌, cond, leb, Option, Some, None, List, [], ◌∷◌, ap, sym, subst, ◌∙◌, arith}
use Rattle.std.proofs.lemmas.Bool.{false≢true, leb-true, le-leb, and_parts, and_from, not-true}
use Rattle.weld_tree.specs.declared.place.Place.{Place}
use Rattle.weld_tree.specs.TypeTree.{TypeTree, type_nodes, type_depth, types_nodes, types_depth}
use Rattle.weld_grammar.specs.declared.terminals.token.Token.{Token}
use Rattle.weld_grammar.specs.declared.rule.Rule.{Rule}
use Rattle.weld_grammar.specs.declared.rule.Rule.TheVariants as r
use Rattle.weld_grammar.specs.declared.item.Item.{Item}
use Rattle.weld_grammar.specs.declared.item.Item.TheVariants.{One, Part as OfRule, Optional, Repeated}
use Rattle.weld_grammar.specs.Grammar.{Part, item, all_of, one_of, body}
use Rattle.weld_grammar.specs.Derivation.{Tree, leaf, node, empty, pair, here, there, yield, IsOf}
use Rattle.weld_spell.specs.Seen.{seen}
use Rattle.weld_spell.specs.TypeOf.{type_of, next_types_of}
use Rattle.weld_tokens.specs.Lists.{first_of, first_type_too_large}
use Rattle.weld_spell.specs.Measures.{place_in, fits, if_large, written, types_too_large}
use Rattle.weld_spell.specs.Measures.{first_of as first_of_these, type_too_large as by_its_tree}
use Rattle.weld_spell.proofs.Terminals.{rule_begun}
use Rattle.weld_spell.proofs.Scans.{by_tree}
use Rattle.weld_spell.proofs.Types.{own, types, types-found}

none_both : (a b : Option Place) → a ≡ None → b ≡ None → first_of a b ≡ None
none_both a b e f = ap (λ z. first_of z b) e ∙ f

none_these : (a b : Option Place) → a ≡ None → b ≡ None → first_of_these a b ≡ None
none_these a b e f = ap (λ z. first_of_these z b) e ∙ f

-- ---- rules of no types

-- rules of words and operators, in which nothing is found
abbrev is_bare : Rule → Bool
is_bare r.Kind = true
is_bare r.IntKind = true
is_bare r.MergeOp = true
is_bare r.ListWord = true
is_bare r.GroupsWord = true
is_bare _ = false

-- rules of types
abbrev is_type : Rule → Bool
is_type r.AnyType = true
is_type r.VecType = true
is_type r.StructType = true
is_type r.NextType = true
is_type r.DictType = true
is_type r.ListType = true
is_type r.TotalType = true
is_type r.KeyedType = true
is_type r.CellsType = true
is_type r.GroupsType = true
is_type _ = false

abbrev in_types : Rule → Bool
in_types q = cond (is_type q) true (is_bare q)

abbrev each_rule : (Rule → Bool) → List Item → Bool
each_rule f [] = true
each_rule f (One a ∷ rest) = each_rule f rest
each_rule f (OfRule q ∷ rest) = f q && each_rule f rest
each_rule f (Optional q ∷ rest) = f q && each_rule f rest
each_rule f (Repeated q ∷ rest) = f q && each_rule f rest

-- the rules of a part are such
abbrev rules : (Rule → Bool) → Part → Bool
rules f (item i) = each_rule f (i ∷ [])
rules f (all_of s) = each_rule f s
rules f (one_of s) = each_rule f s

one_rule : (f : Rule → Bool) (i : Item) (rest : List Item) → each_rule f (i ∷ rest) ≡ true → (each_rule f (i ∷ []) ≡ true) × (each_rule f rest ≡ true)
one_rule f (One a) rest e = (refl, e)
one_rule f (OfRule q) rest e = let both = and_parts (f q) (each_rule f rest) e in (and_from (f q) true both.0 refl, both.1)
one_rule f (Optional q) rest e = let both = and_parts (f q) (each_rule f rest) e in (and_from (f q) true both.0 refl, both.1)
one_rule f (Repeated q) rest e = let both = and_parts (f q) (each_rule f rest) e in (and_from (f q) true both.0 refl, both.1)

bare_table : (q : Rule) → is_bare q ≡ true → rules is_bare (body q) ≡ true
bare_table r.Kind e = refl
bare_table r.IntKind e = refl
bare_table r.MergeOp e = refl
bare_table r.ListWord e = refl
bare_table r.GroupsWord e = refl
bare_table _ e = absurd (false≢true e)

bare_own : (q : Rule) (t : Tree Token) → is_bare q ≡ true → own q t ≡ None
bare_own r.Kind t e = refl
bare_own r.IntKind t e = refl
bare_own r.MergeOp t e = refl
bare_own r.ListWord t e = refl
bare_own r.GroupsWord t e = refl
bare_own _ t e = absurd (false≢true e)

bare_found : (p : Part) (t : Tree Token) → rules is_bare p ≡ true → by_tree types p t ≡ None
bare_found (item (OfRule q)) (node t) e =
    let is = (and_parts (is_bare q) true e).0 in none_both (own q t) (by_tree types (body q) t) (bare_own q t is) (bare_found (body q) t (bare_table q is))
bare_found (item (Optional q)) (here t) e = bare_found (item (OfRule q)) t e
bare_found (item (Repeated q)) (pair t u) e = none_both (by_tree types (item (OfRule q)) t) (by_tree types (item (Repeated q)) u) (bare_found (item (OfRule q)) t e) (bare_found (item (Repeated q)) u e)
bare_found (all_of (i ∷ rest)) (pair t u) e =
    let both = one_rule is_bare i rest e in none_both (by_tree types (item i) t) (by_tree types (all_of rest) u) (bare_found (item i) t both.0) (bare_found (all_of rest) u both.1)
bare_found (one_of (i ∷ rest)) (here t) e = bare_found (item i) t (one_rule is_bare i rest e).0
bare_found (one_of (i ∷ rest)) (there t) e = bare_found (one_of rest) t (one_rule is_bare i rest e).1
bare_found _ _ e = refl

type_table : (q : Rule) → in_types q ≡ true → rules in_types (body q) ≡ true
type_table r.AnyType e = refl
type_table r.VecType e = refl
type_table r.StructType e = refl
type_table r.NextType e = refl
type_table r.DictType e = refl
type_table r.ListType e = refl
type_table r.TotalType e = refl
type_table r.KeyedType e = refl
type_table r.CellsType e = refl
type_table r.GroupsType e = refl
type_table r.Kind e = refl
type_table r.IntKind e = refl
type_table r.MergeOp e = refl
type_table r.ListWord e = refl
type_table r.GroupsWord e = refl
type_table _ e = absurd (false≢true e)

type_written : (q : Rule) (t : Tree Token) → in_types q ≡ true → written q t ≡ None
type_written r.Note t e = absurd (false≢true e)
type_written r.Param t e = absurd (false≢true e)
type_written r.ListBuild t e = absurd (false≢true e)
type_written r.TotalBuild t e = absurd (false≢true e)
type_written r.KeyedBuild t e = absurd (false≢true e)
type_written r.CellsBuild t e = absurd (false≢true e)
type_written r.GroupsBuild t e = absurd (false≢true e)
type_written _ t e = refl

-- no written type stands in a type
no_written : (p : Part) (t : Tree Token) → rules in_types p ≡ true → types_too_large p t ≡ None
no_written (item (OfRule q)) (node t) e =
    let is = (and_parts (in_types q) true e).0 in none_these (written q t) (types_too_large (body q) t) (type_written q t is) (no_written (body q) t (type_table q is))
no_written (item (Optional q)) (here t) e = no_written (item (OfRule q)) t e
no_written (item (Repeated q)) (pair t u) e = none_these (types_too_large (item (OfRule q)) t) (types_too_large (item (Repeated q)) u) (no_written (item (OfRule q)) t e) (no_written (item (Repeated q)) u e)
no_written (all_of (i ∷ rest)) (pair t u) e =
    let both = one_rule in_types i rest e in none_these (types_too_large (item i) t) (types_too_large (all_of rest) u) (no_written (item i) t both.0) (no_written (all_of rest) u both.1)
no_written (one_of (i ∷ rest)) (here t) e = no_written (item i) t (one_rule in_types i rest e).0
no_written (one_of (i ∷ rest)) (there t) e = no_written (one_of rest) t (one_rule in_types i rest e).1
no_written _ _ e = refl

-- ---- types that fit

-- a type of at most so many nodes and levels
record Small (nodes depth : ℕ) : Type 0 where
  pub few : nodes ≤ 256
  pub flat : depth ≤ 16

abbrev Fits : TypeTree → Type 0
Fits t = Small (type_nodes t) (type_depth t)

small : (t : TypeTree) → fits t ≡ true → Fits t
small t e =
    let both = and_parts (leb (type_nodes t) 256) (leb (type_depth t) 16) e in
    record { few = leb-true (type_nodes t) 256 both.0; flat = leb-true (type_depth t) 16 both.1 }

not_large : (t : Tree Token) → Fits (type_of t) → if_large t ≡ None
not_large t h =
    ap (λ b. cond b None (place_in (yield t))) (and_from (leb (type_nodes (type_of t)) 256) (leb (type_depth (type_of t)) 16) (le-leb (type_nodes (type_of t)) 256 h.few) (le-leb (type_depth (type_of t)) 16 h.flat))

inside : (n d : ℕ) → Small (1 + n) (1 + d) → Small n d
inside n d h = let a = h.few in let b = h.flat in record { few = omega arith; flat = omega arith }

left_of : (n m d e : ℕ) → Small (n + m) (max d e) → Small n d
left_of n m d e h = let a = h.few in let b = h.flat in record { few = omega arith; flat = omega arith }

right_of : (n m d e : ℕ) → Small (n + m) (max d e) → Small m e
right_of n m d e h = let a = h.few in let b = h.flat in record { few = omega arith; flat = omega arith }

abbrev found : Tree Token → Option Place
found t = by_tree types (item (OfRule r.AnyType)) t

record Two (t u : Tree Token) : Type 0 where
  pub one : Fits (type_of t)
  pub other : Fits (type_of u)

two : (t u : Tree Token) → Small (1 + (type_nodes (type_of t) + type_nodes (type_of u))) (1 + max (type_depth (type_of t)) (type_depth (type_of u))) → Two t u
two t u h =
    let k = inside (type_nodes (type_of t) + type_nodes (type_of u)) (max (type_depth (type_of t)) (type_depth (type_of u))) h in
    record { one = left_of (type_nodes (type_of t)) (type_nodes (type_of u)) (type_depth (type_of t)) (type_depth (type_of u)) k; other = right_of (type_nodes (type_of t)) (type_nodes (type_of u)) (type_depth (type_of t)) (type_depth (type_of u)) k }

abbrev Nexts : Tree Token → Type 0
Nexts t = Small (types_nodes (next_types_of t)) (types_depth (next_types_of t))

-- a type and an operator in brackets
quiet_op : (t p : Tree Token) → IsOf (item (OfRule r.AnyType)) (seen t) → Fits (type_of t) → (Fits (type_of t) → found t ≡ None) → first_of (if_large t) (first_of (found t) (first_of (by_tree types (item (OfRule r.MergeOp)) p) None)) ≡ None
quiet_op t p h s f =
    none_both (if_large t) (first_of (found t) (first_of (by_tree types (item (OfRule r.MergeOp)) p) None)) (not_large t s)
    (none_both (found t) (first_of (by_tree types (item (OfRule r.MergeOp)) p) None) (f s) (none_both (by_tree types (item (OfRule r.MergeOp)) p) None (bare_found (item (OfRule r.MergeOp)) p refl) refl))

mutual
  -- in a type that fits nothing is found
  quiet : (t : Tree Token) → IsOf (item (OfRule r.AnyType)) (seen t) → Fits (type_of t) → found t ≡ None
  quiet (node (here k)) h s = bare_found (item (OfRule r.Kind)) k refl
  quiet (node (there (here (node (pair (leaf x) (pair (leaf y) (pair t (pair (leaf z) empty)))))))) h s =
      let is = h.0 in none_both (found t) None (quiet t is.1.1.0 (inside (type_nodes (type_of t)) (type_depth (type_of t)) s)) refl
  quiet (node (there (there (here (node (pair (leaf x) (pair t (pair more (pair (leaf z) empty))))))))) h s =
      let is = h.0.0 in
      let k = inside (type_nodes (type_of t) + types_nodes (next_types_of more)) (max (type_depth (type_of t)) (types_depth (next_types_of more))) s in
      none_both (found t) (first_of (by_tree types (item (Repeated r.NextType)) more) None)
      (quiet t is.1.0 (left_of (type_nodes (type_of t)) (types_nodes (next_types_of more)) (type_depth (type_of t)) (types_depth (next_types_of more)) k))
      (none_both (by_tree types (item (Repeated r.NextType)) more) None (quiet_nexts more is.1.1.0 (right_of (type_nodes (type_of t)) (types_nodes (next_types_of more)) (type_depth (type_of t)) (types_depth (next_types_of more)) k)) refl)
  quiet (node (there (there (there (here (node (pair (leaf x) (pair (leaf y) (pair t (pair (leaf c) (pair u (pair (leaf z) empty)))))))))))) h s =
      let is = h.0.0.0 in
      let k = two t u s in
      none_both (found t) (first_of (found u) None) (quiet t is.1.1.0 k.one) (none_both (found u) None (quiet u is.1.1.1.1.0 k.other) refl)
  quiet (node (there (there (there (there (here (node (pair v (pair (leaf y) (pair t (pair (leaf z) empty))))))))))) h s =
      let is = h.0.0.0.0 in
      let k = inside (type_nodes (type_of t)) (type_depth (type_of t)) s in
      none_both (if_large t) (first_of (by_tree types (item (OfRule r.ListWord)) v) (first_of (found t) None)) (not_large t k)
      (none_both (by_tree types (item (OfRule r.ListWord)) v) (first_of (found t) None) (bare_found (item (OfRule r.ListWord)) v refl) (none_both (found t) None (quiet t is.1.1.0 k) refl))
  quiet (node (there (there (there (there (there (here (node (pair (leaf x) (pair (leaf y) (pair t (pair (leaf c) (pair p (pair (leaf z) empty)))))))))))))) h s =
      let is = h.0.0.0.0.0 in quiet_op t p is.1.1.0 (inside (type_nodes (type_of t)) (type_depth (type_of t)) s) (λ k. quiet t is.1.1.0 k)
  quiet (node (there (there (there (there (there (there (here (node (pair (leaf x) (pair (leaf y) (pair t (pair (leaf c) (pair u (pair (leaf d) (pair p (pair (leaf z) empty))))))))))))))))) h s =
      let is = h.0.0.0.0.0.0 in
      let k = two t u s in
      none_both (first_of (if_large t) (if_large u)) (first_of (found t) (first_of (found u) (first_of (by_tree types (item (OfRule r.MergeOp)) p) None)))
      (none_both (if_large t) (if_large u) (not_large t k.one) (not_large u k.other))
      (none_both (found t) (first_of (found u) (first_of (by_tree types (item (OfRule r.MergeOp)) p) None)) (quiet t is.1.1.0 k.one)
      (none_both (found u) (first_of (by_tree types (item (OfRule r.MergeOp)) p) None) (quiet u is.1.1.1.1.0 k.other)
      (none_both (by_tree types (item (OfRule r.MergeOp)) p) None (bare_found (item (OfRule r.MergeOp)) p refl) refl)))
  quiet (node (there (there (there (there (there (there (there (here (node (pair (leaf x) (pair (leaf y) (pair t (pair (leaf c) (pair p (pair (leaf z) empty)))))))))))))))) h s =
      let is = h.0.0.0.0.0.0.0 in quiet_op t p is.1.1.0 (inside (type_nodes (type_of t)) (type_depth (type_of t)) s) (λ k. quiet t is.1.1.0 k)
  quiet (node (there (there (there (there (there (there (there (there (here (node (pair v (pair (leaf y) (pair t (pair (leaf c) (pair u (pair (leaf z) empty))))))))))))))))) h s =
      let is = h.0.0.0.0.0.0.0.0 in
      let k = two t u s in
      none_both (first_of (if_large t) (if_large u)) (first_of (by_tree types (item (OfRule r.GroupsWord)) v) (first_of (found t) (first_of (found u) None)))
      (none_both (if_large t) (if_large u) (not_large t k.one) (not_large u k.other))
      (none_both (by_tree types (item (OfRule r.GroupsWord)) v) (first_of (found t) (first_of (found u) None)) (bare_found (item (OfRule r.GroupsWord)) v refl)
      (none_both (found t) (first_of (found u) None) (quiet t is.1.1.0 k.one) (none_both (found u) None (quiet u is.1.1.1.1.0 k.other) refl)))
  quiet _ h s = absurd (assumption)

  quiet_nexts : (t : Tree Token) → IsOf (item (Repeated r.NextType)) (seen t) → Nexts t → by_tree types (item (Repeated r.NextType)) t ≡ None
  quiet_nexts empty h s = refl
  quiet_nexts (pair (node (pair (leaf c) (pair t empty))) more) h s =
      none_both (first_of (found t) None) (by_tree types (item (Repeated r.NextType)) more)
      (none_both (found t) None (quiet t h.0.1.0 (left_of (type_nodes (type_of t)) (types_nodes (next_types_of more)) (type_depth (type_of t)) (types_depth (next_types_of more)) s)) refl)
      (quiet_nexts more h.1 (right_of (type_nodes (type_of t)) (types_nodes (next_types_of more)) (type_depth (type_of t)) (types_depth (next_types_of more)) s))
  quiet_nexts _ h s = absurd (assumption)

-- ---- trees of other rules

-- an item of no rule of types, or a type that fits
abbrev Fine : Item → Tree Token → Type 0
Fine i t = (each_rule (λ q. not (is_type q)) (i ∷ []) ≡ true) ⊎ ((i ≡ OfRule r.AnyType) × (fits (type_of t) ≡ true))

abbrev AllFine : Part → Tree Token → Type 0
AllFine (item i) t = Fine i t
AllFine (all_of (i ∷ rest)) (pair t u) = Fine i t × AllFine (all_of rest) u
AllFine (one_of (i ∷ rest)) (here t) = Fine i t
AllFine (one_of (i ∷ rest)) (there t) = AllFine (one_of rest) t
AllFine _ t = Unit {0}

abbrev other : Rule → Bool
other q = not (is_type q)

all_fine : (p : Part) (t : Tree Token) → rules other p ≡ true → AllFine p t
all_fine (item i) t e = inl e
all_fine (all_of (i ∷ rest)) (pair t u) e = let both = one_rule other i rest e in (inl both.0, all_fine (all_of rest) u both.1)
all_fine (one_of (i ∷ rest)) (here t) e = inl (one_rule other i rest e).0
all_fine (one_of (i ∷ rest)) (there t) e = all_fine (one_of rest) t (one_rule other i rest e).1
all_fine _ t e = tt

-- rules in which a type is written
abbrev writes : Rule → Bool
writes r.Note = true
writes r.Param = true
writes r.ListBuild = true
writes r.TotalBuild = true
writes r.KeyedBuild = true
writes r.CellsBuild = true
writes r.GroupsBuild = true
writes _ = false

other_table : (q : Rule) → is_type q ≡ false → writes q ≡ false → rules other (body q) ≡ true
other_table r.AnyType e f = absurd (false≢true (sym e))
other_table r.VecType e f = absurd (false≢true (sym e))
other_table r.StructType e f = absurd (false≢true (sym e))
other_table r.NextType e f = absurd (false≢true (sym e))
other_table r.DictType e f = absurd (false≢true (sym e))
other_table r.ListType e f = absurd (false≢true (sym e))
other_table r.TotalType e f = absurd (false≢true (sym e))
other_table r.KeyedType e f = absurd (false≢true (sym e))
other_table r.CellsType e f = absurd (false≢true (sym e))
other_table r.GroupsType e f = absurd (false≢true (sym e))
other_table r.Note e f = absurd (false≢true (sym f))
other_table r.Param e f = absurd (false≢true (sym f))
other_table r.ListBuild e f = absurd (false≢true (sym f))
other_table r.TotalBuild e f = absurd (false≢true (sym f))
other_table r.KeyedBuild e f = absurd (false≢true (sym f))
other_table r.CellsBuild e f = absurd (false≢true (sym f))
other_table r.GroupsBuild e f = absurd (false≢true (sym f))
other_table _ e f = refl

same_first : (a b : Option Place) → first_of a b ≡ first_of_these a b
same_first None b = refl
same_first (Some p) b = refl

-- what a rule of no types adds is what is written in it
own-written : (q : Rule) (t : Tree Token) → is_type q ≡ false → own q t ≡ written q t
own-written r.AnyType t e = absurd (false≢true (sym e))
own-written r.VecType t e = absurd (false≢true (sym e))
own-written r.StructType t e = absurd (false≢true (sym e))
own-written r.NextType t e = absurd (false≢true (sym e))
own-written r.DictType t e = absurd (false≢true (sym e))
own-written r.ListType t e = absurd (false≢true (sym e))
own-written r.TotalType t e = absurd (false≢true (sym e))
own-written r.KeyedType t e = absurd (false≢true (sym e))
own-written r.CellsType t e = absurd (false≢true (sym e))
own-written r.GroupsType t e = absurd (false≢true (sym e))
own-written r.Note (pair c (pair t rest)) e = refl
own-written r.Param (pair w (pair c (pair t rest))) e = refl
own-written r.ListBuild (pair w (pair b (pair t rest))) e = refl
own-written r.TotalBuild (pair w (pair b (pair t rest))) e = refl
own-written r.KeyedBuild (pair w (pair b (pair t (pair c (pair u rest))))) e = same_first (if_large t) (if_large u)
own-written r.CellsBuild (pair w (pair b (pair t rest))) e = refl
own-written r.GroupsBuild (pair w (pair b (pair t (pair c (pair u rest))))) e = same_first (if_large t) (if_large u)
own-written _ _ e = refl

-- a type fits where nothing is found of it
fits_of : (t : Tree Token) → IsOf (item (OfRule r.AnyType)) (seen t) → if_large t ≡ None → fits (type_of t) ≡ true
fits_of t h e = cases (fits (type_of t)) refl
  where
    some : (p : Place) → Some p ≡ None → ⊥
    some p e = cc

    cases : (b : Bool) → fits (type_of t) ≡ b → fits (type_of t) ≡ true
    cases true k = k
    cases false k =
        let b = rule_begun r.AnyType t h in
        absurd (some b.first.place (sym (ap place_in b.is) ∙ sym (ap (λ z. cond z None (place_in (yield t))) k) ∙ e))

none_two : (a b : Option Place) → first_of a b ≡ None → (a ≡ None) × (b ≡ None)
none_two None b e = (refl, e)
none_two (Some p) b e = absurd (cc)

written_type : (t : Tree Token) → IsOf (item (OfRule r.AnyType)) (seen t) → if_large t ≡ None → Fine (OfRule r.AnyType) t
written_type t h e = inr (refl, fits_of t h e)

-- where nothing is found of the types written in a rule, they fit
fine_written : (q : Rule) (t : Tree Token) → writes q ≡ true → IsOf (body q) (seen t) → own q t ≡ None → AllFine (body q) t
fine_written r.Note (pair c (pair t empty)) e h n = (inl refl, (written_type t h.1.0 n, tt))
fine_written r.Param (pair x (pair c (pair t empty))) e h n = (inl refl, (inl refl, (written_type t h.1.1.0 n, tt)))
fine_written r.ListBuild (pair x (pair y (pair t (pair z empty)))) e h n = (inl refl, (inl refl, (written_type t h.1.1.0 n, (inl refl, tt))))
fine_written r.TotalBuild (pair x (pair y (pair t (pair c (pair p (pair z (pair start empty))))))) e h n = (inl refl, (inl refl, (written_type t h.1.1.0 n, (inl refl, (inl refl, (inl refl, (inl refl, tt)))))))
fine_written r.KeyedBuild (pair x (pair y (pair t (pair c (pair u (pair d (pair p (pair z empty)))))))) e h n =
    let both = none_two (if_large t) (if_large u) n in (inl refl, (inl refl, (written_type t h.1.1.0 both.0, (inl refl, (written_type u h.1.1.1.1.0 both.1, (inl refl, (inl refl, (inl refl, tt))))))))
fine_written r.CellsBuild (pair x (pair y (pair t (pair c (pair p (pair z (pair start empty))))))) e h n = (inl refl, (inl refl, (written_type t h.1.1.0 n, (inl refl, (inl refl, (inl refl, (inl refl, tt)))))))
fine_written r.GroupsBuild (pair x (pair y (pair t (pair c (pair u (pair z empty)))))) e h n =
    let both = none_two (if_large t) (if_large u) n in (inl refl, (inl refl, (written_type t h.1.1.0 both.0, (inl refl, (written_type u h.1.1.1.1.0 both.1, (inl refl, tt))))))
fine_written r.Note _ e h n = absurd (assumption)
fine_written r.Param _ e h n = absurd (assumption)
fine_written r.ListBuild _ e h n = absurd (assumption)
fine_written r.TotalBuild _ e h n = absurd (assumption)
fine_written r.KeyedBuild _ e h n = absurd (assumption)
fine_written r.CellsBuild _ e h n = absurd (assumption)
fine_written r.GroupsBuild _ e h n = absurd (assumption)
fine_written _ t e h n = absurd (false≢true e)

both_first : (a b c d : Option Place) → a ≡ c → b ≡ d → first_of a b ≡ first_of_these c d
both_first a b c d e f = ap (λ z. first_of z b) e ∙ ap (first_of c) f ∙ same_first c d

-- a rule
at_rule : (q : Rule) (t : Tree Token) → IsOf (body q) (seen t) → is_type q ≡ false → (AllFine (body q) t → by_tree types (body q) t ≡ types_too_large (body q) t) → first_of (own q t) (by_tree types (body q) t) ≡ first_of_these (written q t) (types_too_large (body q) t)
at_rule q t h e f = cases (own q t) refl (writes q) refl
  where
    cases : (o : Option Place) → own q t ≡ o → (b : Bool) → writes q ≡ b → first_of (own q t) (by_tree types (body q) t) ≡ first_of_these (written q t) (types_too_large (body q) t)
    cases (Some p) k b l = ap (λ z. first_of z (by_tree types (body q) t)) k ∙ ap (λ z. first_of_these z (types_too_large (body q) t)) (sym k ∙ own-written q t e)
    cases None k true l = both_first (own q t) (by_tree types (body q) t) (written q t) (types_too_large (body q) t) (own-written q t e) (f (fine_written q t l h k))
    cases None k false l = both_first (own q t) (by_tree types (body q) t) (written q t) (types_too_large (body q) t) (own-written q t e) (f (all_fine (body q) t (other_table q e l)))

-- a type that fits
at_type : (q : Rule) (t : Tree Token) → OfRule q ≡ OfRule r.AnyType → IsOf (item (OfRule q)) (seen t) → fits (type_of t) ≡ true → by_tree types (item (OfRule q)) t ≡ types_too_large (item (OfRule q)) t
at_type q t e h f =
    let P : Item → Type 0 = λ i. IsOf (item i) (seen t) → by_tree types (item i) t ≡ types_too_large (item i) t in
    let at : P (OfRule r.AnyType) = λ k. quiet t k (small (type_of t) f) ∙ sym (no_written (item (OfRule r.AnyType)) t refl) in
    subst P (sym e) at h

agree : (p : Part) (t : Tree Token) → IsOf p (seen t) → AllFine p t → by_tree types p t ≡ types_too_large p t
agree (item (One a)) (leaf x) h e = refl
agree (item (OfRule q)) (node t) h (inl e) = at_rule q t h (not-true (is_type q) (and_parts (other q) true e).0) (λ k. agree (body q) t h k)
agree (item (OfRule q)) (node t) h (inr e) = at_type q (node t) e.0 h e.1
agree (item (Optional q)) empty h e = refl
agree (item (Optional q)) (here t) h (inl e) = agree (item (OfRule q)) t h (inl e)
agree (item (Optional q)) (here t) h (inr e) = absurd (let k : Optional q ≡ OfRule r.AnyType = e.0 in cc)
agree (item (Repeated q)) empty h e = refl
agree (item (Repeated q)) (pair t u) h (inl e) =
    both_first (by_tree types (item (OfRule q)) t) (by_tree types (item (Repeated q)) u) (types_too_large (item (OfRule q)) t) (types_too_large (item (Repeated q)) u) (agree (item (OfRule q)) t h.0 (inl e)) (agree (item (Repeated q)) u h.1 (inl e))
agree (item (Repeated q)) (pair t u) h (inr e) = absurd (let k : Repeated q ≡ OfRule r.AnyType = e.0 in cc)
agree (all_of []) empty h e = refl
agree (all_of (i ∷ rest)) (pair t u) h e =
    both_first (by_tree types (item i) t) (by_tree types (all_of rest) u) (types_too_large (item i) t) (types_too_large (all_of rest) u) (agree (item i) t h.0 e.0) (agree (all_of rest) u h.1 e.1)
agree (one_of (i ∷ rest)) (here t) h e = agree (item i) t h e
agree (one_of (i ∷ rest)) (there t) h e = agree (one_of rest) t h.0 e
agree _ _ h e = absurd h

pub types-by-the-tree : (t : Tree Token) → IsOf (item (OfRule r.Program)) (seen t) → first_type_too_large (yield t) ≡ by_its_tree t
types-by-the-tree t h = types-found t h ∙ agree (item (OfRule r.Program)) t h (inl refl)

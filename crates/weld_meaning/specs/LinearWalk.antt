-- The first refusal of the rules of linear use, in the order of evaluation.
use Rattle.std.specs.Prelude.{ℕ, zero, suc, ◌==◌, if◌then◌else◌, Bool, true, false, not, ◌&&◌, ◌||◌, List, [], ◌∷◌, ◌++◌, map, Option, Some, None}
use Rattle.weld_tree.specs.declared.code.Code.{Code}
use Rattle.weld_tree.specs.declared.code.Code.TheVariants.{L1, L2, L3, L4, L5, L6}
use Rattle.weld_tree.specs.declared.place.Place.{Place}
use Rattle.weld_tree.specs.ExprTree.{ExprTree, leaf, one, two, three, many, let_in, loop, iterate, ExprTrees, no_exprs, more_exprs, LegTree, whole, strided, LegTrees, no_legs, more_legs, One, neg, not as not_of, cast, len, field, finish, started, Two, binary, and, or, look_up, key_exists, merge, if_else}
use Rattle.weld_tree.specs.Program.{ProgramTree}
use Rattle.weld_meaning.specs.Environment.{Named}
use Rattle.weld_meaning.specs.Origin.{Path, Origin, value, made, own, outer, named, struct, Origins, no_origins, more_origins, field_origin, is_value, origin_of_name, origin, own_paths, in_body, in_turn, by_name}
use Rattle.weld_meaning.specs.Available.{at_path, same_path, chain_of_leaf, chain_of_one, chain_of, takes, leg_takes, legs_take, Taken}

-- ---- tests

abbrev pub some_of : {A : Type 0} → (A → Bool) → List A → Bool
some_of f [] = false
some_of f (x ∷ xs) = f x || some_of f xs

-- no builder of outside stands in it
abbrev mutual
  pub is_seen : Origin → Bool
  is_seen value = true
  is_seen made = true
  is_seen (own p) = true
  is_seen outer = false
  is_seen (named s p) = true
  is_seen (struct os) = are_seen os

  pub are_seen : Origins → Bool
  are_seen no_origins = true
  are_seen (more_origins o os) = is_seen o && are_seen os

abbrev pub is_own : Origin → Bool
is_own value = false
is_own made = false
is_own (own p) = true
is_own outer = false
is_own (named s p) = false
is_own (struct os) = false

abbrev mutual
  pub is_not_made : Origin → Bool
  is_not_made value = true
  is_not_made made = false
  is_not_made (own p) = true
  is_not_made outer = true
  is_not_made (named s p) = true
  is_not_made (struct os) = are_not_made os

  pub are_not_made : Origins → Bool
  are_not_made no_origins = true
  are_not_made (more_origins o os) = is_not_made o && are_not_made os

abbrev mutual
  pub same_origin : Origin → Origin → Bool
  same_origin value value = true
  same_origin made made = true
  same_origin (own p) (own q) = same_path p q
  same_origin outer outer = true
  same_origin (named s p) (named t q) = (s == t) && same_path p q
  same_origin (struct os) (struct ps) = same_origins os ps
  same_origin _ _ = false

  pub same_origins : Origins → Origins → Bool
  same_origins no_origins no_origins = true
  same_origins (more_origins o os) (more_origins p ps) = same_origin o p && same_origins os ps
  same_origins _ _ = false

-- ---- what is available

-- the builders that are available, by names and paths
abbrev pub Left : Type 0
Left = List (ℕ × Path)

abbrev pub has : Left → ℕ → Path → Bool
has [] s q = false
has (e ∷ es) s q = ((e.0 == s) && same_path e.1 q) || has es s q

-- what is left where these are taken
abbrev pub after_taking : Taken → Left → Left
after_taking taken [] = []
after_taking taken (e ∷ es) = if taken e.0 e.1 then after_taking taken es else e ∷ after_taking taken es

abbrev mutual
  -- the paths of builders at or below one, where this origin stands
  pub paths_below : Path → Origin → List Path
  paths_below p value = []
  paths_below p made = p ∷ []
  paths_below p (own q) = p ∷ []
  paths_below p outer = p ∷ []
  paths_below p (named s q) = p ∷ []
  paths_below p (struct os) = paths_of_fields zero p os

  pub paths_of_fields : ℕ → Path → Origins → List Path
  paths_of_fields n p no_origins = []
  paths_of_fields n p (more_origins o os) = paths_below (n ∷ p) o ++ paths_of_fields (suc n) p os

-- the builders of a binder
abbrev pub builders_of : ℕ → Origin → Left
builders_of s o = map (λ (q : Path). (s, q)) (paths_below [] o)

-- ---- refusals

abbrev pub Refused : Type 0
Refused = Option (Code × Place)

-- the first of two
abbrev pub before : Refused → Refused → Refused
before (Some r) later = Some r
before None later = later

abbrev pub where_so : Bool → Code → Place → Refused
where_so true c p = Some (c, p)
where_so false c p = None

-- a name followed by field accesses: its builders are of within the lambda, and those at and below the path are left
abbrev pub chain_refused : ℕ × Path → Place → Named Origin → Left → Refused
chain_refused c p g left =
    before (where_so (not (is_seen (origin_of_name c.0 g))) L3 p)
    (where_so (some_of (λ q. not (has left c.0 q)) (paths_below c.1 (at_path c.1 (origin_of_name c.0 g)))) L1 p)

-- or what is refused in a part
abbrev pub chain_or : Option (ℕ × Path) → Place → Named Origin → Left → Refused → Refused
chain_or (Some c) p g left part = chain_refused c p g left
chain_or None p g left part = part

-- the place of the name with which field accesses begin
abbrev pub name_place : ExprTree → Place
name_place (leaf a l) = a.place
name_place (one a o e) = name_place e
name_place (two a o e f) = a.place
name_place (three a o c e f) = a.place
name_place (many a o es) = a.place
name_place (let_in a b e f) = a.place
name_place (loop a ls e b n x f) = a.place
name_place (iterate a e b f) = a.place

-- at a node of one part: a field access of builder type on something else than a name and field accesses, and the result of a
-- lambda's own builder
abbrev pub one_refused : One → Place → Origin → Refused
one_refused neg p o = None
one_refused not_of p o = None
one_refused (cast k) p o = None
one_refused len p o = None
one_refused (field n) p o = where_so (not (is_value (field_origin n o))) L1 p
one_refused finish p o = where_so (is_own o) L5 p
one_refused (started b) p o = None

-- the right side of `&&` and `||` takes none
abbrev pub two_refused : Two → Place → Taken → Left → Refused
two_refused (binary op) p right left = None
two_refused and p right left = where_so (some_of (λ (e : ℕ × Path). right e.0 e.1) left) L2 p
two_refused or p right left = where_so (some_of (λ (e : ℕ × Path). right e.0 e.1) left) L2 p
two_refused look_up p right left = None
two_refused key_exists p right left = None
two_refused merge p right left = None

abbrev pub differ : Bool → Bool → Bool
differ true b = not b
differ false b = b

-- the arms of an `if` leave the same, and answer builders of one origin
abbrev pub arms_refused : ExprTree → ExprTree → Place → Named Origin → Left → Refused
arms_refused e f p g left =
    before (where_so (some_of (λ (q : ℕ × Path). differ (takes e g q.0 q.1) (takes f g q.0 q.1)) left) L2 p)
    (where_so (not (same_origin (origin e (by_name g)) (origin f (by_name g)) && is_not_made (origin e (by_name g)))) L4 p)

-- builders of a binder that are left when its body ends
abbrev pub left_over : ℕ → Origin → Place → Taken → Refused
left_over s o p taken = where_so (some_of (λ q. not (taken s q)) (paths_below [] o)) L1 p

abbrev mutual
  -- the first refusal, by the origins of names and the builders that are available
  pub refusal : ExprTree → Named Origin → Left → Refused
  refusal (leaf a l) g left = chain_or (chain_of_leaf l) a.place g left None
  refusal (one a o e) g left =
      chain_or (chain_of_one o (chain_of e)) (name_place e) g left (before (refusal e g left) (one_refused o a.place (origin e g)))
  refusal (two a o e f) g left =
      before (refusal e g left) (before (refusal f g (after_taking (takes e g) left)) (two_refused o a.place (takes f g) (after_taking (takes e g) left)))
  refusal (three a if_else c e f) g left =
      before (refusal c g left) (before (refusal e g (after_taking (takes c g) left)) (before (refusal f g (after_taking (takes c g) left))
      (arms_refused e f a.place g (after_taking (takes c g) left))))
  refusal (three a o c e f) g left =
      before (refusal c g left) (before (refusal e g (after_taking (takes c g) left)) (refusal f g (after_taking (takes e g) (after_taking (takes c g) left))))
  refusal (many a o es) g left = some_refusal es g left
  refusal (let_in a b e f) g left =
      before (refusal e g left)
      (before (refusal f ((b.sym.0, origin e g) ∷ g) (builders_of b.sym.0 (origin e g) ++ after_taking (takes e g) left))
      (left_over b.sym.0 (origin e g) b.place (takes f ((b.sym.0, origin e g) ∷ g))))
  refusal (loop a ls e b n x f) g left =
      before (legs_refusal ls g left) (before (refusal e g (after_taking (legs_take ls g) left))
      (before (refusal f (in_body b n x (origin e g) g) (builders_of b.sym.0 (own_paths (origin e g))))
      (before (left_over b.sym.0 (own_paths (origin e g)) b.place (takes f (in_body b n x (origin e g) g)))
      (where_so (not (same_origin (origin f (in_body b n x (origin e g) g)) (own_paths (origin e g)))) L6 a.place))))
  refusal (iterate a e b f) g left = before (refusal e g left) (refusal f (in_turn b g) [])

  pub some_refusal : ExprTrees → Named Origin → Left → Refused
  some_refusal no_exprs g left = None
  some_refusal (more_exprs e es) g left = before (refusal e g left) (some_refusal es g (after_taking (takes e g) left))

  pub leg_refusal : LegTree → Named Origin → Left → Refused
  leg_refusal (whole e) g left = refusal e g left
  leg_refusal (strided e f h i) g left =
      before (refusal e g left) (before (refusal f g (after_taking (takes e g) left))
      (before (refusal h g (after_taking (takes f g) (after_taking (takes e g) left)))
      (refusal i g (after_taking (takes h g) (after_taking (takes f g) (after_taking (takes e g) left))))))

  pub legs_refusal : LegTrees → Named Origin → Left → Refused
  legs_refusal no_legs g left = None
  legs_refusal (more_legs l ls) g left = before (leg_refusal l g left) (legs_refusal ls g (after_taking (leg_takes l g) left))

-- the first refusal in a program, whose parameters are values
abbrev pub linear_refusal : ProgramTree → Refused
linear_refusal p = refusal p.body [] []

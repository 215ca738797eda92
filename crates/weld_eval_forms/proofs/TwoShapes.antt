-- What the two things are that a form takes, by the types that they have.
use Rattle.std.proofs.Common.{◌≡◌, ◌⊎◌, inl, inr, [], ◌∷◌, subst}
use Rattle.weld_data.specs.declared.kind.Kind.{Kind}
use Rattle.weld_data.specs.declared.kind.Kind.TheVariants as kinds
use Rattle.weld_data.specs.declared.op.BinOp.{BinOp}
use Rattle.weld_data.specs.Order.{IsKey as IsKeyValue}
use Rattle.weld_data.specs.Value.{Value, number, list, struct, dict, Values, no_values, and_value}
use Rattle.weld_tree.specs.TypeTree.{TypeTree, BuildTree, TypeTrees, no_types, more_types, scalar, vec, struct as tuple, dict as mapping, build, list as list_of, total, keyed, cells, groups}
use Rattle.weld_tree.specs.Types.{IsKey, IsWellFormed, IsWellFormedBuild, pair_of, takes}
use Rattle.weld_tree.specs.ExprTree.{binary, look_up, key_exists, merge}
use Rattle.weld_tree.specs.HasValue.{HasValue, HaveValues}
use Rattle.weld_builders.specs.Part.{Part, Totals, list_part, total_part, totals_part, kinds_of, cells_part, keyed_part, groups_part}
use Rattle.weld_pieces.specs.Kept.{IsNumberOf, AreNumbersOf, IsStructOfNumbers, IsPair}
use Rattle.weld_built.specs.Logged.{IsItemOf}
use Rattle.weld_meaning.specs.Thing.{Thing, plain, building, several, Things}
use Rattle.weld_meaning.specs.ThingType.{TotalsFit, AreTotals, HasThing, HasPart}
use Rattle.weld_meaning.specs.Typing.{place_type}
use Rattle.weld_meaning.proofs.Good.{free_value_type}
use Rattle.weld_meaning.proofs.WellFormed.{key_free, takes_free}
use Rattle.weld_eval.specs.Fits.{AreOperands, IsLookUp, IsKeyLookUp}
use Rattle.weld_eval.specs.Takes.{TwoTakes, IsPlain}
use Rattle.weld_eval_forms.proofs.Shapes.{plain_of_type, value_has, number_of_kind}
use Rattle.weld_eval_forms.proofs.KeyTypes.{is_key, key_for}

-- ---- operators

pub left_plain : (op : BinOp) (x y : Thing) → TwoTakes (binary op) x y → IsPlain x
left_plain op x y h = plain_of_type (scalar h.rule.0) x tt (subst (HasThing x) h.rule.2 h.has_first)

pub right_plain : (op : BinOp) (x y : Thing) → TwoTakes (binary op) x y → IsPlain y
right_plain op x y h = plain_of_type (scalar h.rule.0) y tt (subst (HasThing y) h.rule.3 h.has_second)

pub operands : (op : BinOp) (x y : Thing) (v w : Value) → TwoTakes (binary op) x y → x ≡ plain v → y ≡ plain w → AreOperands op v w
operands op x y v w h e f = (
  h.rule.0,
  h.rule.1,
  value_has (scalar h.rule.0) x v (subst (HasThing x) h.rule.2 h.has_first) e,
  value_has (scalar h.rule.0) y w (subst (HasThing y) h.rule.3 h.has_second) f,
)

-- ---- vectors and dictionaries

list_looked_up : (t : TypeTree) (v w : Value) → HasValue (vec t) v → HasValue place_type w → IsLookUp v w
list_looked_up t (number k x) w h g = absurd h
list_looked_up t (list vs) w h g = number_of_kind kinds.I64 w g
list_looked_up t (struct vs) w h g = absurd h
list_looked_up t (dict es) w h g = absurd h

key_looked_up : (k t : TypeTree) (v w : Value) → IsKey k → HasValue (mapping k t) v → HasValue k w → IsKeyLookUp v w
key_looked_up k t (number m x) w s h g = absurd h
key_looked_up k t (list vs) w s h g = absurd h
key_looked_up k t (struct vs) w s h g = absurd h
key_looked_up k t (dict es) w s h g = key_for k t es w s h.0 g

dict_looked_up : (v w : Value) → IsKeyLookUp v w → IsLookUp v w
dict_looked_up (number m x) w h = absurd h
dict_looked_up (list vs) w h = absurd h
dict_looked_up (struct vs) w h = absurd h
dict_looked_up (dict es) w h = h

pub place_plain : (x y : Thing) → TwoTakes look_up x y → IsPlain y
place_plain x y h = by h.rule
  where
    by : ((h.first ≡ vec h.answer) × (h.second ≡ place_type)) ⊎ (h.first ≡ mapping h.second h.answer) → IsPlain y
    by (inl e) = plain_of_type place_type y tt (subst (HasThing y) e.1 h.has_second)
    by (inr e) = let f : IsWellFormed (mapping h.second h.answer) = subst IsWellFormed e h.formed in plain_of_type h.second y (free_value_type h.second (key_free h.second f.0)) h.has_second

pub looked_plain : (x y : Thing) → TwoTakes look_up x y → IsPlain x
looked_plain x y h = by h.rule
  where
    by : ((h.first ≡ vec h.answer) × (h.second ≡ place_type)) ⊎ (h.first ≡ mapping h.second h.answer) → IsPlain x
    by (inl e) = plain_of_type (vec h.answer) x tt (subst (HasThing x) e.0 h.has_first)
    by (inr e) = plain_of_type (mapping h.second h.answer) x tt (subst (HasThing x) e h.has_first)

pub looks_up : (x y : Thing) (v w : Value) → TwoTakes look_up x y → x ≡ plain v → y ≡ plain w → IsLookUp v w
looks_up x y v w h e f = by h.rule
  where
    by : ((h.first ≡ vec h.answer) × (h.second ≡ place_type)) ⊎ (h.first ≡ mapping h.second h.answer) → IsLookUp v w
    by (inl r) = list_looked_up h.answer v w (value_has (vec h.answer) x v (subst (HasThing x) r.0 h.has_first) e) (value_has place_type y w (subst (HasThing y) r.1 h.has_second) f)
    by (inr r) =
        let g : IsWellFormed (mapping h.second h.answer) = subst IsWellFormed r h.formed in
        dict_looked_up v w (key_looked_up h.second h.answer v w g.0 (value_has (mapping h.second h.answer) x v (subst (HasThing x) r h.has_first) e) (value_has h.second y w h.has_second f))

pub keys_plain : (x y : Thing) → TwoTakes key_exists x y → IsPlain x
keys_plain x y h = plain_of_type (mapping h.second h.rule.0) x tt (subst (HasThing x) h.rule.1 h.has_first)

pub key_plain : (x y : Thing) → TwoTakes key_exists x y → IsPlain y
key_plain x y h =
    let f : IsWellFormed (mapping h.second h.rule.0) = subst IsWellFormed h.rule.1 h.formed in
    plain_of_type h.second y (free_value_type h.second (key_free h.second f.0)) h.has_second

pub key_looked : (x y : Thing) (v w : Value) → TwoTakes key_exists x y → x ≡ plain v → y ≡ plain w → IsKeyLookUp v w
key_looked x y v w h e f =
    let g : IsWellFormed (mapping h.second h.rule.0) = subst IsWellFormed h.rule.1 h.formed in
    key_looked_up h.second h.rule.0 v w g.0 (value_has (mapping h.second h.rule.0) x v (subst (HasThing x) h.rule.1 h.has_first) e) (value_has h.second y w h.has_second f)

-- ---- merging

number_item : (k : Kind) (v : Value) → HasValue (scalar k) v → IsNumberOf k v
number_item k (number m x) h = h
number_item k (list vs) h = absurd h
number_item k (struct vs) h = absurd h
number_item k (dict es) h = absurd h

pair_item : (P Q : Value → Type 0) (s t : TypeTree) → ((x : Value) → HasValue s x → P x) → ((x : Value) → HasValue t x → Q x) → (v : Value) → HasValue (pair_of s t) v → IsPair P Q v
pair_item P Q s t p q (number k x) h = absurd h
pair_item P Q s t p q (list vs) h = absurd h
pair_item P Q s t p q (struct no_values) h = absurd h
pair_item P Q s t p q (struct (and_value a no_values)) h = absurd h.1
pair_item P Q s t p q (struct (and_value a (and_value b no_values))) h = (p a h.0, q b h.1.0)
pair_item P Q s t p q (struct (and_value a (and_value b (and_value c vs)))) h = absurd h.1.1
pair_item P Q s t p q (dict es) h = absurd h

scalar_item : (k : Kind) (t : TypeTree) → t ≡ scalar k → (v : Value) → HasValue t v → IsNumberOf k v
scalar_item k t e v h = number_item k v (subst (λ u. HasValue u v) e h)

fields_item : (xs : Totals) (ts : TypeTrees) (vs : Values) → TotalsFit xs ts → HaveValues ts vs → AreNumbersOf (kinds_of xs) vs
fields_item [] no_types no_values h g = tt
fields_item [] no_types (and_value v vs) h g = absurd g
fields_item [] (more_types t ts) vs h g = absurd h
fields_item (x ∷ xs) no_types vs h g = absurd h
fields_item (x ∷ xs) (more_types t ts) no_values h g = absurd g
fields_item (x ∷ xs) (more_types t ts) (and_value v vs) h g = (scalar_item x.0 t h.0 v g.0, fields_item xs ts vs h.2 g.1)

struct_item : (xs : Totals) (t : TypeTree) → AreTotals xs t → (v : Value) → HasValue t v → IsStructOfNumbers (kinds_of xs) v
struct_item xs (tuple ts) h (number k x) g = absurd g
struct_item xs (tuple ts) h (list vs) g = absurd g
struct_item xs (tuple ts) h (struct vs) g = fields_item xs ts vs h g
struct_item xs (tuple ts) h (dict es) g = absurd g
struct_item xs (scalar k) h v g = absurd h
struct_item xs (vec t) h v g = absurd h
struct_item xs (mapping s t) h v g = absurd h
struct_item xs (build b) h v g = absurd h

item_of : (p : Part) (b : BuildTree) (v : Value) → IsWellFormedBuild b → HasPart p b → HasValue (takes b) v → IsItemOf p v
item_of (list_part vs) b v w h g = tt
item_of (total_part op k x) (total t o) v w h g = scalar_item k t h.1 v g
item_of (total_part op k x) (list_of t) v w h g = absurd h
item_of (total_part op k x) (keyed s t o) v w h g = absurd h
item_of (total_part op k x) (cells t o) v w h g = absurd h
item_of (total_part op k x) (groups s t) v w h g = absurd h
item_of (totals_part op xs) (total t o) v w h g = struct_item xs t h.1 v g
item_of (totals_part op xs) (list_of t) v w h g = absurd h
item_of (totals_part op xs) (keyed s t o) v w h g = absurd h
item_of (totals_part op xs) (cells t o) v w h g = absurd h
item_of (totals_part op xs) (groups s t) v w h g = absurd h
item_of (cells_part op k xs) (cells t o) v w h g = pair_item (IsNumberOf kinds.I64) (IsNumberOf k) place_type t (number_item kinds.I64) (scalar_item k t h.1) v g
item_of (cells_part op k xs) (list_of t) v w h g = absurd h
item_of (cells_part op k xs) (total t o) v w h g = absurd h
item_of (cells_part op k xs) (keyed s t o) v w h g = absurd h
item_of (cells_part op k xs) (groups s t) v w h g = absurd h
item_of (keyed_part op k m) (keyed s t o) v w h g = pair_item IsKeyValue (IsNumberOf k) s t (λ x q. is_key s x w.0 q) (scalar_item k t h.1) v g
item_of (keyed_part op k m) (list_of t) v w h g = absurd h
item_of (keyed_part op k m) (total t o) v w h g = absurd h
item_of (keyed_part op k m) (cells t o) v w h g = absurd h
item_of (keyed_part op k m) (groups s t) v w h g = absurd h
item_of (groups_part m) (groups s t) v w h g = pair_item IsKeyValue (λ x. Unit {0}) s t (λ x q. is_key s x w.0 q) (λ x q. tt) v g
item_of (groups_part m) (list_of t) v w h g = absurd h
item_of (groups_part m) (total t o) v w h g = absurd h
item_of (groups_part m) (cells t o) v w h g = absurd h
item_of (groups_part m) (keyed s t o) v w h g = absurd h

builder_has : (x y : Thing) (h : TwoTakes merge x y) → HasThing x (build h.rule.0)
builder_has x y h = subst (HasThing x) h.rule.1 h.has_first

well_formed : (x y : Thing) (h : TwoTakes merge x y) → IsWellFormedBuild h.rule.0
well_formed x y h = subst IsWellFormed h.rule.1 h.formed

pub item_plain : (x y : Thing) → TwoTakes merge x y → IsPlain y
item_plain x y h = plain_of_type (takes h.rule.0) y (free_value_type (takes h.rule.0) (takes_free h.rule.0 (well_formed x y h))) (subst (HasThing y) h.rule.2 h.has_second)

pub item_fits : (p : Part) (y : Thing) (v : Value) → TwoTakes merge (building p) y → y ≡ plain v → IsItemOf p v
item_fits p y v h e = item_of p h.rule.0 v (well_formed (building p) y h) (builder_has (building p) y h).1 (value_has (takes h.rule.0) y v (subst (HasThing y) h.rule.2 h.has_second) e)

pub no_value_merges : (v : Value) (y : Thing) → TwoTakes merge (plain v) y → ⊥
no_value_merges v y h = builder_has (plain v) y h

pub no_struct_merges : (ts : Things) (y : Thing) → TwoTakes merge (several ts) y → ⊥
no_struct_merges ts y h = builder_has (several ts) y h

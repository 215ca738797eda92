-- Slots that are filled with the fields of structs, one after another.
use Rattle.std.proofs.Common.{◌≡◌, ℕ, zero, suc, ◌+◌, ◌<◌, ◌≤◌, List, [], ◌∷◌, drop, get_or, length, slice_get, Some, Result, Ok, Err, IfOk, refl, ap, sym, subst, ◌∙◌, arith}
use Rattle.std.proofs.lemmas.List.{at_drop_more}
use Rattle.weld_data.specs.Value.{Value, Values, struct, no_values, and_value, values}
use Rattle.weld_builders.specs.Outcome.{Outcome, done, fault, stuck, and_then, map_out}
use Rattle.weld_tree.specs.ExprTree.{ExprTree, ExprTrees, more_exprs, no_exprs, pack_exprs, make_struct}
use Rattle.weld_eval.specs.ShortView.{view_short}
use Rattle.weld_eval.specs.declared.short.Short.{Short}
use Rattle.weld_meaning.specs.Evaluation.{Env, eval, eval_all, many_thing}
use Rattle.weld_meaning.specs.Thing.{Thing, Things, plain, as_values, more_things, no_things, struct_from, struct_of}
use Rattle.weld_turns.specs.CodeView.{Slots, field_values, filled, slot_limit, with_slot}
use Rattle.weld_turns.specs.Fillings.{AreFilled, AreKept, Copies, CopiesFields, Fills, FillsFields, IsFilled, PutsFields, things_in}
use Rattle.weld_turns.specs.Scopes.{with_scope, AreBelow, Sites}
use Rattle.weld_turns.specs.declared.code.Code as code
use Rattle.weld_turns.specs.declared.code.Filling.{Filling}
use Rattle.weld_turns.specs.declared.code.Filling as filling
use Rattle.weld_turns.specs.declared.code.Shape.TheVariants.{One, Fields}
use Rattle.weld_turns.specs.declared.code.Unmade.{Unmade}
use Rattle.weld_turns.proofs.Scoping.{beside, kept_then, kept_under, put_keeps, scope_kept, there}
use Rattle.weld_turns.proofs.Shapes.{fields_same}

-- ---- the struct of things that are values

values_in : (vs : Values) → as_values (things_in vs) ≡ done vs
values_in no_values = refl
values_in (and_value v vs) = ap (map_out (and_value v)) (values_in vs)

struct_in : (vs : Values) → struct_of (things_in vs) ≡ plain (struct vs)
struct_in vs = ap (struct_from (things_in vs)) (values_in vs)

-- where the fields are filled the struct is
pub fields_close : (o : Outcome Things) (r : Outcome Slots) (n first : ℕ) (f : Slots) → AreFilled o r n first f → IsFilled (and_then o (many_thing make_struct)) r (Fields n) first f
fields_close o (done g) n first f is = (ap (λ (p : Outcome Things). and_then p (many_thing make_struct)) is.0 ∙ ap done (struct_in (field_values n first g)), is.1)
fields_close o fault n first f is = ap (λ (p : Outcome Things). and_then p (many_thing make_struct)) is
fields_close o stuck n first f is = ap (λ (p : Outcome Things). and_then p (many_thing make_struct)) is

pub values_close : (vs : Values) (r : Outcome Slots) (n first : ℕ) (f : Slots) → AreFilled (done (things_in vs)) r n first f → IsFilled (done (plain (struct vs))) r (Fields n) first f
values_close vs r n first f is = subst (λ (t : Thing). IsFilled (done t) r (Fields n) first f) (struct_in vs) (fields_close (done (things_in vs)) r n first f is)

pub copies_close : (t : Filling) (n from first : ℕ) → CopiesFields t n from first → Copies t (Fields n) from first
copies_close t n from first h f = values_close (field_values n from f) (filled t f) n first f (h f)

pub written_close : (t : Filling) (n first : ℕ) (ns : Sites) (env : Env) (es : ExprTrees) → FillsFields t n first ns env (eval_all es) → Fills t (Fields n) first ns env (λ inner. and_then (eval_all es inner) (many_thing make_struct))
written_close t n first ns env es h f = fields_close (eval_all es (with_scope ns f env)) (filled t f) n first f (h f)

-- ---- one field more

-- what is filled after slots that are kept
fields_on : (o : Outcome Things) (r : Outcome Slots) (n first : ℕ) (f g : Slots) → AreKept first f g → AreFilled o r n first g → AreFilled o r n first f
fields_on o (done h) n first f g kept is = (is.0, kept_then first f g h kept is.1)
fields_on o fault n first f g kept is = is
fields_on o stuck n first f g kept is = is

-- others are filled behind one that is there
behind : (v : Value) (o : Outcome Things) (r : Outcome Slots) (n first : ℕ) (g : Slots) → v ≡ g first → AreFilled o r n (suc first) g → AreFilled (map_out (more_things (plain v)) o) r (suc n) first g
behind v o (done h) n first g e is = (
  ap (map_out (more_things (plain v))) is.0 ∙ ap (λ (w : Value). done (more_things (plain w) (things_in (field_values n (suc first) h)))) (e ∙ sym (is.1.below first (omega arith))),
  kept_under first (suc first) g h (omega arith) is.1,
)
behind v o fault n first g e is = ap (map_out (more_things (plain v))) is
behind v o stuck n first g e is = ap (map_out (more_things (plain v))) is

next_fields : (o : Outcome Thing) (p : Outcome Things) (n first : ℕ) (f : Slots) (r : Outcome Slots) (y : Slots → Outcome Slots) → IsFilled o r One first f
    → ((g : Slots) → AreKept first f g → AreFilled p (y g) n (suc first) g) → AreFilled (and_then o (λ t. map_out (more_things t) p)) (and_then r y) (suc n) first f
next_fields o p n first f (done g) y is h =
    subst (λ (q : Outcome Thing). AreFilled (and_then q (λ t. map_out (more_things t) p)) (y g) (suc n) first f) (sym is.0)
    (fields_on (map_out (more_things (plain (g first))) p) (y g) (suc n) first f g is.1 (behind (g first) p (y g) n first g refl (h g is.1)))
next_fields o p n first f fault y is h = ap (λ (q : Outcome Thing). and_then q (λ t. map_out (more_things t) p)) is
next_fields o p n first f stuck y is h = ap (λ (q : Outcome Thing). and_then q (λ t. map_out (more_things t) p)) is

-- the last field
one_field : (o : Outcome Thing) (first : ℕ) (f : Slots) (r : Outcome Slots) → IsFilled o r One first f → AreFilled (and_then o (λ t. map_out (more_things t) (done no_things))) r 1 first f
one_field o first f (done g) is = (ap (λ (q : Outcome Thing). and_then q (λ t. map_out (more_things t) (done no_things))) is.0, is.1)
one_field o first f fault is = ap (λ (q : Outcome Thing). and_then q (λ t. map_out (more_things t) (done no_things))) is
one_field o first f stuck is = ap (λ (q : Outcome Thing). and_then q (λ t. map_out (more_things t) (done no_things))) is

-- a number that is put there
put_is : (f : Slots) (first : ℕ) (v : Value) → first < slot_limit → IsFilled (done (plain v)) (done (with_slot f first v)) One first f
put_is f first v less = (ap (λ (x : Value). done (plain x)) (sym (there f first v)), put_keeps f first v less)

-- ---- fields that are written

none_left : (es : List ExprTree) (i : ℕ) → length es ≤ i → pack_exprs (drop i es) ≡ no_exprs
none_left [] zero h = refl
none_left [] (suc i) h = refl
none_left (e ∷ es) zero h = absurd (omega (arith, h))
none_left (e ∷ es) (suc i) h = none_left es i (omega (arith, h))

some_left : (es : List ExprTree) (i : ℕ) (e : ExprTree) → i < length es → e ≡ get_or es i e → pack_exprs (drop i es) ≡ more_exprs e (pack_exprs (drop (i + 1) es))
some_left es i e less is = at_drop_more (λ l. pack_exprs l) es i e less ∙ ap (λ (d : ExprTree). more_exprs d (pack_exprs (drop (i + 1) es))) (sym is)

last_written : (t : Filling) (ns : Sites) (env : Env) (es : List ExprTree) (e : ExprTree) (i left first : ℕ) → i + left ≡ length es → left ≡ 1 → e ≡ get_or es i e → Fills t One first ns env (eval e)
    → FillsFields t left first ns env (eval_all (pack_exprs (drop i es)))
last_written t ns env es e i left first all one is h f =
    let inner : Env = with_scope ns f env in
    let more : pack_exprs (drop i es) ≡ more_exprs e no_exprs = some_left es i e (omega (arith, all, one)) is ∙ ap (more_exprs e) (none_left es (i + 1) (omega (arith, all, one))) in
    subst (λ (n : ℕ). AreFilled (eval_all (pack_exprs (drop i es)) inner) (filled t f) n first f) (sym one)
    (subst (λ (xs : ExprTrees). AreFilled (eval_all xs inner) (filled t f) 1 first f) (sym more) (one_field (eval e inner) first f (filled t f) (h f)))

pub last_ok : (r : Result Filling Unmade) (ns : Sites) (env : Env) (es : List ExprTree) (e : ExprTree) (i left first : ℕ) → i + left ≡ length es → left ≡ 1 → e ≡ get_or es i e → IfOk r (λ t. Fills t One first ns env (eval e))
    → IfOk r (λ t. FillsFields t left first ns env (eval_all (pack_exprs (drop i es))))
last_ok (Ok t) ns env es e i left first all one is h = last_written t ns env es e i left first all one is h
last_ok (Err u) ns env es e i left first all one is h = h

pub more_written : (x y : Filling) (ns : Sites) (env : Env) (es : List ExprTree) (e : ExprTree) (i left rest first : ℕ) → i + left ≡ length es → left ≡ rest + 1 → e ≡ get_or es i e
    → AreBelow ns first → Fills x One first ns env (eval e) → FillsFields y rest (first + 1) ns env (eval_all (pack_exprs (drop (i + 1) es)))
    → (f : Slots) → AreFilled (eval_all (pack_exprs (drop i es)) (with_scope ns f env)) (and_then (filled x f) (filled y)) left first f
more_written x y ns env es e i left rest first all many is below h k f =
    let inner : Env = with_scope ns f env in
    let last : ExprTrees = pack_exprs (drop (i + 1) es) in
    let next : first + 1 ≡ suc first = omega arith in
    let one_more : suc rest ≡ left = omega (arith, many) in
    subst (λ (n : ℕ). AreFilled (eval_all (pack_exprs (drop i es)) inner) (and_then (filled x f) (filled y)) n first f) one_more
    (subst (λ (xs : ExprTrees). AreFilled (eval_all xs inner) (and_then (filled x f) (filled y)) (suc rest) first f) (sym (some_left es i e (omega (arith, all, many)) is))
    (next_fields (eval e inner) (eval_all last inner) rest first f (filled x f) (filled y) (h f)
    (λ g kept. subst (λ (m : ℕ). AreFilled (eval_all last inner) (filled y g) rest m g) next
    (subst (λ (names : Env). AreFilled (eval_all last names) (filled y g) rest (first + 1) g) (scope_kept ns f g env first below kept) (k g)))))

-- ---- fields that are copied

pub last_copied : (t : Filling) (n from first : ℕ) → t ≡ filling.Put first (code.Slot from) → n ≡ 1 → first < slot_limit → CopiesFields t n from first
last_copied t n from first is one less f =
    subst (λ (m : ℕ). AreFilled (done (things_in (field_values m from f))) (filled t f) m first f) (sym one)
    (subst (λ (z : Filling). AreFilled (done (things_in (field_values 1 from f))) (filled z f) 1 first f) (sym is)
    (one_field (done (plain (f from))) first f (done (with_slot f first (f from))) (put_is f first (f from) less)))

pub more_copied : (x y : Filling) (n rest from first : ℕ) → x ≡ filling.Put first (code.Slot from) → n ≡ rest + 1 → (from < first → from + n ≤ first) → first < slot_limit
    → CopiesFields y rest (from + 1) (first + 1) → (f : Slots) → AreFilled (done (things_in (field_values n from f))) (and_then (filled x f) (filled y)) n first f
more_copied x y n rest from first is many apart less h f =
    let g : Slots = with_slot f first (f from) in
    let next : first + 1 ≡ suc first = omega arith in
    let after : from + 1 ≡ suc from = omega arith in
    let one_more : suc rest ≡ n = omega (arith, many) in
    let whole : and_then (filled x f) (filled y) ≡ filled y g = ap (λ (z : Filling). and_then (filled z f) (filled y)) is in
    let same : field_values rest (from + 1) g ≡ field_values rest (suc from) f =
    fields_same rest (suc from) (from + 1) f g (λ j l. beside f first (from + 1 + j) (f from) (λ e. aside j l e) ∙ ap f (shift j)) in
    let others : AreFilled (done (things_in (field_values rest (suc from) f))) (filled y g) rest (suc first) g =
    subst (λ (m : ℕ). AreFilled (done (things_in (field_values rest (suc from) f))) (filled y g) rest m g) next
    (subst (λ (vs : Values). AreFilled (done (things_in vs)) (filled y g) rest (first + 1) g) same (h g)) in
    subst (λ (m : ℕ). AreFilled (done (things_in (field_values m from f))) (and_then (filled x f) (filled y)) m first f) one_more
    (subst (λ (r : Outcome Slots). AreFilled (done (things_in (field_values (suc rest) from f))) r (suc rest) first f) (sym whole)
    (fields_on (done (things_in (field_values (suc rest) from f))) (filled y g) (suc rest) first f g (put_keeps f first (f from) less)
    (behind (f from) (done (things_in (field_values rest (suc from) f))) (filled y g) rest first g (sym (there f first (f from))) others)))
  where
    shift : (j : ℕ) → from + 1 + j ≡ suc from + j
    shift j = omega arith

    aside : (j : ℕ) → j < rest → from + 1 + j ≡ first → ⊥
    aside j l e = let far : from + n ≤ first = apart (omega (arith, e)) in omega (arith, far, l, e, many)

-- ---- fields of outside

value_left : (vs : List Value) (i : ℕ) (v : Value) → slice_get vs i ≡ Some v → values (drop i vs) ≡ and_value v (values (drop (i + 1) vs))
value_left [] i v is = let no : ⊥ = cc in absurd no
value_left (w ∷ vs) zero v is = let same : w ≡ v = cc in ap (λ (u : Value). and_value u (values vs)) same
value_left (w ∷ vs) (suc i) v is = let more : suc (i + 1) ≡ suc i + 1 = omega arith in value_left vs i v is ∙ ap (λ (k : ℕ). and_value v (values (drop k (w ∷ vs)))) more

no_value_left : (vs : List Value) (i : ℕ) → length vs ≤ i → values (drop i vs) ≡ no_values
no_value_left [] zero h = refl
no_value_left [] (suc i) h = refl
no_value_left (v ∷ vs) zero h = absurd (omega (arith, h))
no_value_left (v ∷ vs) (suc i) h = no_value_left vs i (omega (arith, h))

pub last_put : (t : Filling) (vs : List Value) (v : Value) (n : Short) (i left first : ℕ) → t ≡ filling.Put first (code.Literal n) → left ≡ 1 → i + left ≡ length vs → slice_get vs i ≡ Some v → v ≡ view_short n → first < slot_limit
    → PutsFields t left (values (drop i vs)) first
last_put t vs v n i left first is one all got same less f =
    let last : values (drop i vs) ≡ and_value (view_short n) no_values =
    value_left vs i v got ∙ ap (λ (u : Value). and_value u (values (drop (i + 1) vs))) same ∙ ap (and_value (view_short n)) (no_value_left vs (i + 1) (omega (arith, all, one))) in
    subst (λ (m : ℕ). AreFilled (done (things_in (values (drop i vs)))) (filled t f) m first f) (sym one)
    (subst (λ (us : Values). AreFilled (done (things_in us)) (filled t f) 1 first f) (sym last)
    (subst (λ (z : Filling). AreFilled (done (things_in (and_value (view_short n) no_values))) (filled z f) 1 first f) (sym is)
    (one_field (done (plain (view_short n))) first f (done (with_slot f first (view_short n))) (put_is f first (view_short n) less))))

pub more_put : (x y : Filling) (vs : List Value) (v : Value) (n : Short) (i left rest first : ℕ) → x ≡ filling.Put first (code.Literal n) → left ≡ rest + 1 → slice_get vs i ≡ Some v → v ≡ view_short n
    → first < slot_limit → PutsFields y rest (values (drop (i + 1) vs)) (first + 1) → (f : Slots) → AreFilled (done (things_in (values (drop i vs)))) (and_then (filled x f) (filled y)) left first f
more_put x y vs v n i left rest first is many got same less h f =
    let others : Values = values (drop (i + 1) vs) in
    let next : first + 1 ≡ suc first = omega arith in
    let one_more : suc rest ≡ left = omega (arith, many) in
    let all : values (drop i vs) ≡ and_value (view_short n) others = value_left vs i v got ∙ ap (λ (u : Value). and_value u others) same in
    subst (λ (m : ℕ). AreFilled (done (things_in (values (drop i vs)))) (and_then (filled x f) (filled y)) m first f) one_more
    (subst (λ (us : Values). AreFilled (done (things_in us)) (and_then (filled x f) (filled y)) (suc rest) first f) (sym all)
    (subst (λ (z : Filling). AreFilled (done (things_in (and_value (view_short n) others))) (and_then (filled z f) (filled y)) (suc rest) first f) (sym is)
    (next_fields (done (plain (view_short n))) (done (things_in others)) rest first f (done (with_slot f first (view_short n))) (filled y) (put_is f first (view_short n) less)
    (λ g kept. subst (λ (m : ℕ). AreFilled (done (things_in others)) (filled y g) rest m g) next (h g)))))

pub pair_put : (t x y : Filling) (m n : Short) (count first : ℕ) → ((f : Slots) → filled t f ≡ and_then (filled x f) (filled y)) → x ≡ filling.Put first (code.Literal m) → y ≡ filling.Put (first + 1) (code.Literal n) → count ≡ 2 → first + 1 < slot_limit
    → PutsFields t count (values (view_short m ∷ view_short n ∷ [])) first
pair_put t x y m n count first both p q two less f =
    subst (λ (r : Outcome Slots). AreFilled (done (things_in (values (view_short m ∷ view_short n ∷ [])))) r count first f) (sym (both f))
    (more_put x y (view_short m ∷ view_short n ∷ []) (view_short m) m 0 count 1 first p two refl refl (omega (arith, less))
    (last_put y (view_short m ∷ view_short n ∷ []) (view_short n) n 1 1 (first + 1) q refl refl refl refl less) f)

-- A loop may go over its legs without one that stands twice, its body with the row rebuilt for each use of the row.
use Rattle.std.proofs.Common.{◌≡◌, ◌≢◌, ℕ, zero, suc, ◌*◌, ◌≤◌, ◌<◌, ◌^◌, false, ◌||◌, List, [], ◌∷◌, ◌++◌, map, length, Some, refl, ap, sym, subst, ◌∙◌, eq-eqb, ne_eqb, arith, length-append, ◌⊎◌, inl, inr}
use Rattle.weld_data.specs.Value.{Value, number, list as list_value, struct as struct_value, dict as dict_value, values, list_of_values}
use Rattle.weld_tree.specs.declared.binder.Binder.{Binder}
use Rattle.weld_tree.specs.declared.known.Known.TheVariants.{Is}
use Rattle.weld_tree.specs.declared.place.Place.{Place}
use Rattle.weld_tree.specs.TypeTree.{TypeTree, TypeTrees, vec, struct, no_types, more_types}
use Rattle.weld_tree.specs.Types.{IsBuilderFree, AreBuilderFree, HasTypes}
use Rattle.weld_tree.specs.ExprTree.{At, ExprTree, leaf, one, two, three, many, let_in, loop, iterate, LegTree, whole, strided, LegTrees, no_legs, more_legs, name}
use Rattle.weld_tree.specs.Program.{loops, bound, bound_in_legs, IsOneOf}
use Rattle.weld_tree.specs.HasValue.{HasValue, AllAre}
use Rattle.weld_builders.specs.Outcome.{Outcome, done, fault, stuck, and_then, map_out}
use Rattle.weld_meaning.specs.Environment.{Named, look_for}
use Rattle.weld_meaning.specs.Thing.{Thing, plain}
use Rattle.weld_meaning.specs.ThingType.{HasThing, EnvFits}
use Rattle.weld_meaning.specs.Typing.{Types, IsField, place_type, HasType, LegHas, LegsHave, RowHas, body_types}
use Rattle.weld_meaning.specs.Evaluation.{Env, Row, found, value_out, elements_of, whole_number, with_row, rows_of, number_from, run, eval, eval_leg, eval_legs}
use Rattle.weld_meaning.specs.Origin.{Path, Origin, value, known_origin, origin_of_name, origin, own_paths, outside, in_body}
use Rattle.weld_meaning.specs.Available.{TakesAll, takes, leg_takes, legs_take}
use Rattle.weld_meaning.specs.Names.{IsFree, put, Binds, IsClear}
use Rattle.weld_meaning.proofs.Good.{Good, value_of_thing, by_list}
use Rattle.weld_meaning.proofs.ValuesGood.{LegsFit, rows_good}
use Rattle.weld_meaning.proofs.WellFormed.{type_formed, formed_body, row_formed, legs_formed}
use Rattle.weld_meaning.proofs.OneType.{one_type}
use Rattle.weld_meaning.proofs.PartsGood.{KeyLaws}
use Rattle.weld_meaning.proofs.NeverStuck.{Of, never_stuck, fits_body}
use Rattle.weld_meaning.proofs.Putting.{put_means}
use Rattle.weld_check_types.specs.Notes.{AreNoted, LegIsNoted, LegsAreNoted}
use Rattle.weld_rewriting.specs.Placed.{IsPlaced}
use Rattle.weld_rewriting.specs.Within.{times, legs, StaysWithin}
use Rattle.weld_rewriting.specs.Tidy.{IsTidy}
use Rattle.weld_rewriting.specs.Rewriting.{Rewrites}
use Rattle.weld_rewriting.proofs.Counts.{times-append, times_here, one_of_times, distinct_times}
use Rattle.weld_rewriting.proofs.Forms.{chain_value, chain_takes_none}
use Rattle.weld_rewriting.proofs.Nodes.{apart_same}
use Rattle.weld_rewriting.proofs.Outcomes.{then_same, run_same}
use Rattle.weld_rewriting.proofs.Parts.{noted_at, body_of_loop}
use Rattle.weld_rewriting.proofs.Rows.{legs_good, rows_have}
use Rattle.weld_substitution.specs.Redex.{noted}
use Rattle.weld_substitution.proofs.Bindings.{Binding}
use Rattle.weld_substitution.proofs.Clear.{binds_each}
use Rattle.weld_substitution.proofs.PutTypes.{type_put, noted_put}
use Rattle.weld_substitution.proofs.PutCounts.{put_counted}
use Rattle.weld_substitution.proofs.PutMade.{put_named, put_made, put_spellable}
use Rattle.weld_substitution.proofs.Values.{IsIdle, Still, from_still}
use Rattle.weld_substitution.proofs.ValueRules.{still_taken, still_keeps, still_splits}
use Rattle.weld_substitution.specs.Uses.{uses}
use Rattle.weld_horizontal.specs.Twice.{Places, item_of, leg_item, items, count, type_at, with_type, rebuilt, without_leg, bare as bare_row, IsTwice, once}
use Rattle.weld_horizontal.proofs.Columns.{with_value, nth_value, nth_list, with_list, row_fields, restored, rows_restored}
use Rattle.weld_horizontal.proofs.Legs.{doubled_of, with_leg, nth_leg, with_types, with_keep, with_noted, with_taken, with_split, with_eval, nth_eval, with_times, with_length, with_loops, with_legs, with_named, with_made, with_spellable, nth_some}
use Rattle.weld_horizontal.proofs.RowItems.{row_of, nth_field, nth_typed, rebuilt_typed, rebuilt_noted, fields_of, rebuilt_gives}
use Rattle.weld_horizontal.proofs.RowHolds.{Small, rebuilt_small, rebuilt_named, rebuilt_idle}

-- ---- types

-- the items that are noted are those of the types
pub items_are : (ls : LegTrees) (g : Types) (us : TypeTrees) → LegsHave ls g us → LegsAreNoted ls g → items ls ≡ us
items_are no_legs g no_types h n = refl
items_are no_legs g (more_types u us) h n = absurd h
items_are (more_legs l ls) g no_types h n = absurd h
items_are (more_legs l ls) g (more_types u us) h n = let x = item_is l g u h.0 n.0 in let y = items_are ls g us h.1 n.1 in λ i. more_types (x i) (y i)
  where
    note_there : (v : ExprTree) (g : Types) → AreNoted v g → (t : TypeTree) × (noted v ≡ Is t) × HasType v g t
    note_there (leaf a l) g n = n
    note_there (one a o e) g n = n.1
    note_there (two a o e f) g n = n.2
    note_there (three a o e f k) g n = n.3
    note_there (many a o es) g n = n.1
    note_there (let_in a b e f) g n = n.2
    note_there (loop a ls e b x y f) g n = n.3
    note_there (iterate a e b f) g n = n.2

    of_vector : (e : ExprTree) (g : Types) (u : TypeTree) → HasType e g (vec u) → AreNoted e g → item_of (noted e) ≡ u
    of_vector e g u h n = let t = note_there e g n in ap item_of t.1 ∙ ap (λ w. item_of (Is w)) (one_type e g t.0 (vec u) t.2 h)

    item_is : (l : LegTree) (g : Types) (u : TypeTree) → LegHas l g u → LegIsNoted l g → leg_item l ≡ u
    item_is (whole e) g u h n = of_vector e g u h n
    item_is (strided e f i j) g u h n = of_vector e g u h.0 n.0

row_two : (n : ℕ) (u v : TypeTree) (vs : TypeTrees) (r : TypeTree) → RowHas (with_type n u (more_types v vs)) r → r ≡ struct (with_type n u (more_types v vs))
row_two zero u v vs r h = h
row_two (suc zero) u v vs r h = h
row_two (suc (suc n)) u v no_types r h = h
row_two (suc (suc n)) u v (more_types w vs) r h = h

pub row_is : (us : TypeTrees) → HasTypes us → RowHas us (row_of us)
row_is no_types h = h
row_is (more_types t no_types) h = refl
row_is (more_types t (more_types s ts)) h = refl

some_types : (ls : LegTrees) (g : Types) (us : TypeTrees) (n : ℕ) (l : LegTree) → nth_leg n ls ≡ Some l → LegsHave ls g us → HasTypes us
some_types no_legs g us n l k h = let nothing : ⊥ = cc in absurd nothing
some_types (more_legs m ls) g no_types n l k h = absurd h
some_types (more_legs m ls) g (more_types u us) n l k h = tt

rows_of_more : (n : ℕ) (u : TypeTree) (us : TypeTrees) (r : TypeTree) → HasTypes us → RowHas (with_type n u us) r → r ≡ struct (with_type n u us)
rows_of_more n u no_types r some h = absurd some
rows_of_more n u (more_types v vs) r some h = row_two n u v vs r h

-- ---- rows

-- the fields of a row by types are those by lists
same_fields : (us : TypeTrees) (lists : List (List Value)) (place : Place) (x : ℕ) (w : Value) → LegsFit us lists → fields_of place x us w ≡ row_fields lists w
same_fields no_types [] place x w h = refl
same_fields no_types (l ∷ ls) place x w h = absurd h
same_fields (more_types t ts) [] place x w h = absurd h
same_fields (more_types t no_types) (l ∷ []) place x w h = refl
same_fields (more_types t no_types) (l ∷ m ∷ ls) place x w h = absurd h.1
same_fields (more_types t (more_types s ts)) (l ∷ []) place x w h = absurd h.1
same_fields (more_types t (more_types s ts)) (l ∷ m ∷ ls) place x (number k i) h = refl
same_fields (more_types t (more_types s ts)) (l ∷ m ∷ ls) place x (list_value vs) h = refl
same_fields (more_types t (more_types s ts)) (l ∷ m ∷ ls) place x (struct_value vs) h = refl
same_fields (more_types t (more_types s ts)) (l ∷ m ∷ ls) place x (dict_value es) h = refl

run_map : (g : Value → Value) (k : ℕ) (rows : List Value) (s : Thing) (f : Row → Thing → Outcome Thing) → run (number_from k (map g rows)) s f ≡ run (number_from k rows) s (λ row t. f (row.0, g row.1) t)
run_map g k [] s f = refl
run_map g k (v ∷ rows) s f = ap (and_then (f (k, g v) s)) (λ i t. run_map g (suc k) rows t f i)

then_map : {A B C : Type 0} (o : Outcome A) (g : A → B) (f : B → Outcome C) → and_then (map_out g o) f ≡ and_then o (λ x. f (g x))
then_map (done x) g f = refl
then_map fault g f = refl
then_map stuck g f = refl

-- ---- names

binding_over : {A : Type 0} (s : ℕ) (y z : A) (g : Named A) → Binding s y ((s, z) ∷ g) ((s, y) ∷ g)
binding_over s y z g = record { others = λ t ne. rw (ne_eqb t s ne) refl; there = rw (eq-eqb s s refl) refl }

found_first : {A : Type 0} (s : ℕ) (y : A) (g : Named A) → look_for s ((s, y) ∷ g) ≡ Some y
found_first s y g = rw (eq-eqb s s refl) refl

-- what a name of vector type runs over
leg_gives : (s : ℕ) (a : At) (u : TypeTree) (g : Types) (env : Env) → look_for s g ≡ Some (vec u) → EnvFits g env → (xs : List Value) × (eval_leg (whole (leaf a (name s))) env ≡ done xs)
leg_gives s a u g env l fit =
    let p = fit.finds s (vec u) l in
    let v = value_of_thing (vec u) p.0 tt p.2 in
    let e : and_then (value_out (found (look_for s env))) elements_of ≡ elements_of v.0 = ap (λ m. and_then (value_out (found m)) elements_of) p.1 ∙ ap (λ t. and_then (value_out (done t)) elements_of) v.1 in
    by_list (λ w. elements_of v.0 ≡ elements_of w → (xs : List Value) × (eval_leg (whole (leaf a (name s))) env ≡ done xs)) (HasValue u) v.0 v.2 (λ vs all k. (list_of_values vs, e ∙ k)) refl

module _ (a : At) (j i : ℕ) (s : ℕ) (here again : At) (rest : LegTrees) (e : ExprTree) (b n x : Binder) (f : ExprTree) (nth : nth_leg i rest ≡ Some (whole (leaf here (name s)))) (few : count (items rest) < 10 ^ 9) where
  abbrev second : LegTree
  second = whole (leaf again (name s))

  abbrev pattern : ExprTree
  pattern = loop a (with_leg j second rest) e b n x f

  abbrev places : Places
  places = record { first = i; second = j }

  abbrev row : ExprTree
  row = rebuilt a.place x.sym.0 (items rest) places

  abbrev bare : Binder
  bare = bare_row x

  abbrev answer : ExprTree
  answer = loop a rest e b n bare (put x.sym.0 row f)

  small : Small a.place x.sym.0 row
  small = rebuilt_small a.place x.sym.0 (items rest) places (nth_field i (whole (leaf here (name s))) rest nth) few

  -- no binder of the body is the row's
  clear : IsTidy pattern → Binds (IsClear x.sym.0 row) f
  clear tidy = binds_each f (IsClear x.sym.0 row) (λ t m. (other t m, λ k. other t m (sym (small.names t k))))
    where
      other : (t : ℕ) → IsOneOf (bound f) t → x.sym.0 ≢ t
      other t m eq =
          let once = distinct_times (bound pattern) tidy.distinct x.sym.0 in
          let here : 1 ≤ times (bound f) x.sym.0 = subst (λ u. 1 ≤ times (bound f) u) (sym eq) (one_of_times (bound f) t m) in
          let behind = b.sym.0 ∷ n.sym.0 ∷ x.sym.0 ∷ bound f in
          absurd (omega (
            arith,
            once,
            here,
            times-append (bound_in_legs (with_leg j second rest)) (bound e ++ behind) x.sym.0,
            times-append (bound e) behind x.sym.0,
            times_here x.sym.0 (bound f),
            more (b.sym.0) (n.sym.0 ∷ x.sym.0 ∷ bound f) x.sym.0,
            more (n.sym.0) (x.sym.0 ∷ bound f) x.sym.0,
          ))
        where
          more : (t : ℕ) (xs : List ℕ) (y : ℕ) → times xs y ≤ times (t ∷ xs) y
          more t xs y = omega arith

  -- ---- what is known in its place

  record Known (types : Types) (g : Named Origin) (t : TypeTree) (p : IsPlaced pattern types g t) : Type 0 where
    pub us : TypeTrees
    pub u : TypeTree
    pub rest_have : LegsHave rest types us
    pub rest_noted : LegsAreNoted rest types
    pub items_same : items rest ≡ us
    pub look : look_for s types ≡ Some (vec u)
    pub free : IsBuilderFree u
    pub some : HasTypes us
    pub rest_free : AreBuilderFree us
    pub row_same : p.typed.1 ≡ struct (with_type j (type_at i us) us)

  known : (types : Types) (g : Named Origin) (t : TypeTree) (p : IsPlaced pattern types g t) → Known types g t p
  known types g t p =
      let h = p.typed in
      let w = with_types j second rest types h.0 h.2 in
      let noted_rest = with_noted j second rest types p.noted.0 in
      let first : look_for s types ≡ Some (vec (type_at i w.1)) = nth_typed i (whole (leaf here (name s))) rest types w.1 nth w.4 in
      let there = w.3 in
      let same : w.0 ≡ type_at i w.1 = let both : vec w.0 ≡ vec (type_at i w.1) = cc in cc in
      let some = some_types rest types w.1 i (whole (leaf here (name s))) nth w.4 in
      record {
        us = w.1;
        u = w.0;
        rest_have = w.4;
        rest_noted = noted_rest;
        items_same = items_are rest types w.1 w.4 noted_rest;
        look = there;
        free = (p.formed.formed s (vec w.0) there).1;
        some = some;
        rest_free = (legs_formed rest types w.1 w.4 p.formed).1;
        row_same = rows_of_more j w.0 w.1 h.1 some (subst (λ ws. RowHas ws h.1) w.2 h.3) ∙ ap (λ y. struct (with_type j y w.1)) same;
      }

  field : (types : Types) (g : Named Origin) (t : TypeTree) (p : IsPlaced pattern types g t) (k : Known types g t p) → IsField i k.us (type_at i k.us)
  field types g t p k = subst (λ ws. IsField i ws (type_at i ws)) k.items_same (nth_field i (whole (leaf here (name s))) rest nth)

  row_typed : (types : Types) (g : Named Origin) (t : TypeTree) (p : IsPlaced pattern types g t) (k : Known types g t p) (h : Types) → look_for x.sym.0 h ≡ Some (row_of k.us) → HasType row h p.typed.1
  row_typed types g t p k h l =
      subst (λ r. HasType row h r) (sym k.row_same)
      (subst (λ ws. HasType (rebuilt a.place x.sym.0 ws places) h (struct (with_type j (type_at i k.us) k.us))) (sym k.items_same)
      (rebuilt_typed a.place x.sym.0 k.us places h l k.rest_free (field types g t p k)))

  row_noted : (types : Types) (g : Named Origin) (t : TypeTree) (p : IsPlaced pattern types g t) (k : Known types g t p) (h : Types) → look_for x.sym.0 h ≡ Some (row_of k.us) → AreNoted row h
  row_noted types g t p k h l =
      subst (λ ws. AreNoted (rebuilt a.place x.sym.0 ws places) h) (sym k.items_same) (rebuilt_noted a.place x.sym.0 k.us places h l k.rest_free (field types g t p k))

  -- ---- nothing is taken

  named : IsFree row x.sym.0
  named = rebuilt_named a.place x.sym.0 (items rest) places

  row_idle : IsIdle row
  row_idle = record {
    from = λ g r. (rebuilt_idle a.place x.sym.0 (items rest) places g (r.idle x.sym.0 named)).from;
    none = λ g r. (rebuilt_idle a.place x.sym.0 (items rest) places g (r.idle x.sym.0 named)).none;
    keeps = λ g r. (rebuilt_idle a.place x.sym.0 (items rest) places g (r.idle x.sym.0 named)).keeps;
    splits = λ g r. (rebuilt_idle a.place x.sym.0 (items rest) places g (r.idle x.sym.0 named)).splits;
  }

  still : (g : Named Origin) → look_for x.sym.0 g ≡ Some value → Still x.sym.0 row g g
  still g l = record {
    binding = record { others = λ t ne. refl; there = l };
    idle = record { idle = λ t f. subst (λ u. origin_of_name u g ≡ value) (sym (small.names t f)) (ap known_origin l) };
  }

  second_takes : (types : Types) (g : Named Origin) (t : TypeTree) (p : IsPlaced pattern types g t) (k : Known types g t p) (y : ℕ) (q : Path) → leg_takes second g y q ≡ false
  second_takes types g t p k y q =
      chain_takes_none (s, []) g y q false (chain_value (leaf again (name s)) (s, []) types g (vec k.u) refl k.look p.formed p.forms k.free)

  legs_taken : (types : Types) (g : Named Origin) (t : TypeTree) (p : IsPlaced pattern types g t) (k : Known types g t p) → legs_take (with_leg j second rest) g ≡ legs_take rest g
  legs_taken types g t p k = λ m y q. with_taken j second rest g (second_takes types g t p k) y q m

  -- ---- in its place

  answer_typed : (types : Types) (g : Named Origin) (t : TypeTree) (p : IsPlaced pattern types g t) (c : Binds (IsClear x.sym.0 row) f) (k : Known types g t p) → HasType (put x.sym.0 row f) (body_types b n bare t (row_of k.us) types) t
  answer_typed types g t p c k =
      let behind : Types = (n.sym.0, place_type) ∷ (b.sym.0, t) ∷ types in
      type_put f x.sym.0 row p.typed.1 ((x.sym.0, row_of k.us) ∷ behind) ((x.sym.0, p.typed.1) ∷ behind) t c (binding_over x.sym.0 p.typed.1 (row_of k.us) behind)
      (row_typed types g t p k ((x.sym.0, row_of k.us) ∷ behind) (found_first x.sym.0 (row_of k.us) behind)) p.typed.9

  placed : IsTidy pattern → (types : Types) (g : Named Origin) (t : TypeTree) → IsPlaced pattern types g t → IsPlaced answer types g t
  placed tidy types g t p =
      let c = clear tidy in
      let k = known types g t p in
      let h = p.typed in
      let y = body_of_loop a (with_leg j second rest) e b n x f types g t p in
      let inner : Named Origin = in_body b n x (origin e g) g in
      let r = still inner (found_first x.sym.0 value ((n.sym.0, value) ∷ (b.sym.0, own_paths (origin e g)) ∷ outside g)) in
      let behind : Types = (n.sym.0, place_type) ∷ (b.sym.0, t) ∷ types in
      let l = found_first x.sym.0 (row_of k.us) behind in
      let typed : HasType answer types t = (k.us, row_of k.us, k.rest_have, row_is k.us k.some, h.4, h.5, h.6, h.7, tt, answer_typed types g t p c k) in
      record {
        formed = p.formed;
        forms = p.forms;
        typed = typed;
        keeps = (
          with_keep j second rest g p.keeps.0,
          p.keeps.1,
          still_keeps x.sym.0 row row_idle f inner inner c r p.keeps.2,
          from_still x.sym.0 row row_idle f inner inner c r ∙ p.keeps.3,
        );
        splits = (
          with_split j second rest g (second_takes types g t p k) p.splits.0,
          p.splits.1,
          apart_same _ _ _ _ (sym (legs_taken types g t p k)) refl p.splits.2,
          still_splits x.sym.0 row row_idle f inner inner c r p.splits.3,
          subst (TakesAll b.sym.0 (own_paths (origin e g))) (sym (still_taken x.sym.0 row row_idle f inner inner c r)) p.splits.4,
        );
        noted = (
          k.rest_noted,
          p.noted.1,
          (
            k.us,
            row_of k.us,
            t,
            k.rest_have,
            row_is k.us k.some,
            h.4,
            noted_put f x.sym.0 row h.1 ((x.sym.0, row_of k.us) ∷ behind) ((x.sym.0, h.1) ∷ behind) c (binding_over x.sym.0 h.1 (row_of k.us) behind)
                (row_typed types g t p k ((x.sym.0, row_of k.us) ∷ behind) l) (row_noted types g t p k ((x.sym.0, row_of k.us) ∷ behind) l) y.noted,
          ),
          noted_at a answer pattern types t p.noted.3 h typed,
        );
      }

  taken : (types : Types) (g : Named Origin) (t : TypeTree) → IsPlaced pattern types g t → takes answer g ≡ takes pattern g
  taken types g t p = let same = sym (legs_taken types g t p (known types g t p)) in λ m y q. same m y q || takes e g y q

  -- ---- what is counted

  nothing_more : (m k : ℕ) → k ≡ 0 → m * k ≡ 0
  nothing_more m k h = ap (λ z. m * z) h ∙ omega arith

  within : StaysWithin answer pattern
  within =
      let c = put_counted f x.sym.0 row in
      let ks = b.sym.0 ∷ n.sym.0 ∷ x.sym.0 ∷ bound (put x.sym.0 row f) in
      let ms = b.sym.0 ∷ n.sym.0 ∷ x.sym.0 ∷ bound f in
      let ls = with_leg j second rest in
      record {
        binds = λ t.
            let more = nothing_more (uses f x.sym.0) (times (bound row) t) (ap (λ l. times l t) small.binds) in
            omega (
              arith,
              cons_less b.sym.0 (n.sym.0 ∷ x.sym.0 ∷ bound (put x.sym.0 row f)) (n.sym.0 ∷ x.sym.0 ∷ bound f) t
                  (cons_less n.sym.0 (x.sym.0 ∷ bound (put x.sym.0 row f)) (x.sym.0 ∷ bound f) t (cons_less x.sym.0 (bound (put x.sym.0 row f)) (bound f) t (omega (arith, c.binds t, more)))),
              times-append (bound_in_legs rest) (bound e ++ ks) t,
              times-append (bound e) ks t,
              times-append (bound_in_legs ls) (bound e ++ ms) t,
              times-append (bound e) ms t,
              with_times j second rest t,
            );
        names = λ t k. free t k;
        no_more_loops = let more = nothing_more (uses f x.sym.0) (loops row) small.no_loops in omega (arith, c.loop_count, more, with_loops j second rest);
        no_more_legs = let more = nothing_more (uses f x.sym.0) (legs row) small.no_legs in omega (arith, c.leg_count, more, with_legs j second rest);
        no_more_binders =
            let more = nothing_more (uses f x.sym.0) (length (bound row)) (ap length small.binds) in
            omega (
              arith,
              c.binder_count,
              more,
              length-append (bound_in_legs rest) (bound e ++ ks),
              length-append (bound e) ks,
              length-append (bound_in_legs ls) (bound e ++ ms),
              length-append (bound e) ms,
              with_length j second rest,
            );
        well_made = λ h. (nth_some i (whole (leaf here (name s))) rest nth, with_made j second rest h.1, h.2, put_made f x.sym.0 row small.made h.3);
        spellable = λ h. (with_spellable j second rest h.0, h.1, h.2, h.3, tt, put_spellable f x.sym.0 row small.spellable h.5);
      }
    where
      cons_less : (y : ℕ) (ks ms : List ℕ) (t : ℕ) → times ks t ≤ times ms t → times (y ∷ ks) t ≤ times (y ∷ ms) t
      cons_less y ks ms t h = omega (arith, h)

      in_row : (t : ℕ) → IsFree row t ⊎ (IsFree f t × (t ≢ x.sym.0)) → t ≢ x.sym.0 → IsFree f t
      in_row t (inl k) ne = absurd (ne (small.names t k))
      in_row t (inr k) ne = k.0

      free : (t : ℕ) → IsFree answer t → IsFree pattern t
      free t (inl k) = inl (with_named j second rest t k)
      free t (inr (inl k)) = inr (inl k)
      free t (inr (inr k)) = inr (inr (in_row t (put_named f x.sym.0 row t k.0) k.1, k.1, k.2, k.3))

  -- ---- what it comes to

  -- the body, at a row over the other legs, comes to what it does at the row restored
  body_means : IsTidy pattern → (types : Types) (g : Named Origin) (t : TypeTree) (p : IsPlaced pattern types g t) (k : Known types g t p) (env : Env) (lists : List (List Value)) → LegsFit k.us lists → (place : ℕ) (w : Value) (y : Thing) → HasValue (row_of k.us) w → eval (put x.sym.0 row f) (with_row b n bare y (plain (whole_number place)) (plain w) env) ≡ eval f (with_row b n x y (plain (whole_number place)) (plain (restored i j lists w)) env)
  body_means tidy types g t p k env lists fit place w y h =
      let behind : Env = (n.sym.0, plain (whole_number place)) ∷ (b.sym.0, y) ∷ env in
      let now : Env = (x.sym.0, plain w) ∷ behind in
      let before : Env = (x.sym.0, plain (restored i j lists w)) ∷ behind in
      let built : eval (rebuilt a.place x.sym.0 k.us places) now ≡ done (plain (struct_value (with_value j (nth_value i (fields_of a.place x.sym.0 k.us w)) (fields_of a.place x.sym.0 k.us w)))) =
      rebuilt_gives a.place x.sym.0 k.us places now w (found_first x.sym.0 (plain w) behind) k.some h (field types g t p k) in
      let gives : eval row now ≡ done (plain (restored i j lists w)) =
      ap (λ us. eval (rebuilt a.place x.sym.0 us places) now) k.items_same ∙ built
      ∙ ap (λ vs. done (plain (struct_value (with_value j (nth_value i vs) vs)))) (same_fields k.us lists a.place x.sym.0 w fit) in
      put_means f x.sym.0 row (plain (restored i j lists w)) now before (clear tidy)
      (record {
        others = λ u ne. rw (ne_eqb u x.sym.0 (λ q. ne (sym q))) refl;
        there = found_first x.sym.0 (plain (restored i j lists w)) behind;
        comes_to = gives;
      })

  means : KeyLaws → IsTidy pattern → (types : Types) (g : Named Origin) (t : TypeTree) (env : Env) → IsPlaced pattern types g t → EnvFits types env → eval answer env ≡ eval pattern env
  means laws tidy types g t env p fit = by (eval_legs rest env) refl (legs_good laws rest types k.us env k.rest_have p.formed fit)
    where
      k : Known types g t p
      k = known types g t p

      leg : (xs : List Value) × (eval_leg second env ≡ done xs)
      leg = leg_gives s again k.u types env k.look fit

      now : Row → Thing → Outcome Thing
      now r y = eval (put x.sym.0 row f) (with_row b n bare y (plain (whole_number r.0)) (plain r.1) env)

      before : Row → Thing → Outcome Thing
      before r y = eval f (with_row b n x y (plain (whole_number r.0)) (plain r.1) env)

      over : (Row → Thing → Outcome Thing) → List (List Value) → Outcome Thing
      over go lists = and_then (rows_of lists) (λ rows. and_then (eval e env) (λ y. run (number_from 0 rows) y go))

      steps : (lists : List (List Value)) → LegsFit k.us lists → (r : Row) (y : Thing) → HasValue (row_of k.us) r.1 → HasThing y t → now r y ≡ before (r.0, restored i j lists r.1) y
      steps lists l r y h q = body_means tidy types g t p k env lists l r.0 r.1 y h

      now_good : (r : Row) (y : Thing) → HasValue (row_of k.us) r.1 → HasThing y t → Good (Of t) (now r y)
      now_good r y h q =
          never_stuck laws (put x.sym.0 row f) (body_types b n bare t (row_of k.us) types) t (with_row b n bare y (plain (whole_number r.0)) (plain r.1) env)
          (answer_typed types g t p (clear tidy) k)
          (formed_body b n bare t (row_of k.us) types (type_formed e types t p.typed.4 p.formed) (row_formed rest types k.us (row_of k.us) k.rest_have (row_is k.us k.some) p.formed) p.formed)
          (fits_body types env b n bare t (row_of k.us) y r.1 r.0 q h fit)

      runs : (lists : List (List Value)) → LegsFit k.us lists → (rows : List Value) → AllAre (HasValue (row_of k.us)) (values rows) → (y : Thing) → HasThing y t → run (number_from 0 rows) y now ≡ run (number_from 0 (map (restored i j lists) rows)) y before
      runs lists l rows h y q =
          run_same (row_of k.us) (Of t) now (λ r z. before (r.0, restored i j lists r.1) z) now_good (steps lists l) (number_from 0 rows) y (rows_have (row_of k.us) 0 rows h) q
          ∙ sym (run_map (restored i j lists) 0 rows y before)

      all_rows : (lists : List (List Value)) → LegsFit k.us lists → over now lists ≡ and_then (map_out (map (restored i j lists)) (rows_of lists)) (λ rows. and_then (eval e env) (λ y. run (number_from 0 rows) y before))
      all_rows lists l =
          then_same (λ vs. AllAre (HasValue (row_of k.us)) (values vs)) (rows_of lists) (λ rows. and_then (eval e env) (λ y. run (number_from 0 rows) y now))
          (λ rows. and_then (eval e env) (λ y. run (number_from 0 (map (restored i j lists) rows)) y before))
          (rows_good k.us (row_of k.us) lists (row_is k.us k.some) l)
          (λ rows h.
          then_same (Of t) (eval e env) (λ y. run (number_from 0 rows) y now) (λ y. run (number_from 0 (map (restored i j lists) rows)) y before)
          (never_stuck laws e types t env p.typed.4 p.formed fit) (λ y q. runs lists l rows h y q))
          ∙ sym (then_map (rows_of lists) (map (restored i j lists)) (λ rows. and_then (eval e env) (λ y. run (number_from 0 rows) y before)))

      restore : (lists : List (List Value)) → nth_list i lists ≡ Some leg.0 → rows_of (with_list j leg.0 lists) ≡ map_out (map (restored i j lists)) (rows_of lists)
      restore [] q = let nothing : ⊥ = cc in absurd nothing
      restore (m ∷ ls) q = rows_restored i j leg.0 m ls q

      at_lists : (lists : List (List Value)) → eval_legs rest env ≡ done lists → LegsFit k.us lists → over now lists ≡ over before (with_list j leg.0 lists)
      at_lists lists q l =
          all_rows lists l
          ∙ ap (λ o. and_then o (λ rows. and_then (eval e env) (λ y. run (number_from 0 rows) y before)))
          (sym (restore lists (nth_eval i (whole (leaf here (name s))) rest env leg.0 lists nth leg.1 q)))

      legs_then : eval pattern env ≡ and_then (eval_legs rest env) (λ lists. over before (with_list j leg.0 lists))
      legs_then = ap (λ o. and_then o (over before)) (with_eval j second rest env leg.0 leg.1) ∙ then_map (eval_legs rest env) (with_list j leg.0) (over before)

      by : (o : Outcome (List (List Value))) → eval_legs rest env ≡ o → Good (LegsFit k.us) (eval_legs rest env) → eval answer env ≡ eval pattern env
      by (done lists) q l =
          ap (λ o. and_then o (over now)) q ∙ at_lists lists q (there l) ∙ sym (ap (λ o. and_then o (λ lists. over before (with_list j leg.0 lists))) q) ∙ sym legs_then
        where
          there : Good (LegsFit k.us) (eval_legs rest env) → LegsFit k.us lists
          there w = (subst (Good (LegsFit k.us)) q w).fits
      by fault q l = ap (λ o. and_then o (over now)) q ∙ sym (ap (λ o. and_then o (λ lists. over before (with_list j leg.0 lists))) q) ∙ sym legs_then
      by stuck q l = ap (λ o. and_then o (over now)) q ∙ sym (ap (λ o. and_then o (λ lists. over before (with_list j leg.0 lists))) q) ∙ sym legs_then

  twice_rewrites : KeyLaws → IsTidy pattern → Rewrites answer pattern
  twice_rewrites laws tidy = record {
    replaces = record {
      same_origin = λ g. refl;
      same_chain = λ c h. let nothing : ⊥ = cc in absurd nothing;
      placed = placed tidy;
      taken = taken;
      means = means laws tidy;
    };
    within = within;
  }

-- the law
pub once_rewrites : KeyLaws → (a : At) (ls : LegTrees) (e : ExprTree) (b n x : Binder) (f : ExprTree) (p : Places) → IsTwice ls p → IsTidy (loop a ls e b n x f) → Rewrites (once a ls e b n x f p) (loop a ls e b n x f)
once_rewrites laws a ls e b n x f p h tidy =
    let d = doubled_of ls p h.0 in
    let same = d.second_is in
    subst (λ ks. Rewrites (once a ls e b n x f p) (loop a ks e b n x f)) (sym same)
    (twice_rewrites a p.second p.first d.symbol d.here d.again (without_leg p.second ls) e b n x f d.first_is h.1 laws (subst (λ ks. IsTidy (loop a ks e b n x f)) same tidy))

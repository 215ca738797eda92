-- The one loop in the place of both lets, the second body behind lets of its row number and row.
use Rattle.std.proofs.Common.{◌≡◌, ◌≢◌, ◌⊎◌, inl, inr, ℕ, ◌==◌, Bool, true, false, ◌&&◌, ◌||◌, if◌then◌else◌, [], ◌∷◌, Some, refl, ap, sym, subst, ◌∙◌, eq-eqb, ne_eqb, eqb-true}
use Rattle.weld_data.specs.declared.kind.Kind.TheVariants as kinds
use Rattle.weld_tree.specs.declared.binder.Binder.{Binder}
use Rattle.weld_tree.specs.declared.known.Known.TheVariants.{Is}
use Rattle.weld_tree.specs.declared.place.Place.{Place}
use Rattle.weld_tree.specs.TypeTree.{TypeTree, TypeTrees, scalar, vec, struct, no_types, more_types}
use Rattle.weld_tree.specs.ExprTree.{At, ExprTree, leaf, one, many, let_in, loop, no_exprs, more_exprs, whole, no_legs, more_legs, name, field, make_struct}
use Rattle.weld_meaning.specs.Environment.{Named, look_for}
use Rattle.weld_meaning.specs.Names.{IsFree, AgreeOn}
use Rattle.weld_meaning.specs.Typing.{Types, NoteFits, place_type, IsField, HasType, body_types}
use Rattle.weld_meaning.specs.Origin.{Path, Origin, value, struct, more_origins, no_origins, field_origin, is_value, struct_origin, known_origin, origin_of_name, origin, own_paths, from_within, outside}
use Rattle.weld_meaning.specs.Linear.{IsSeen, Keeps}
use Rattle.weld_meaning.specs.Available.{Taken, Apart, TakesAll, without, is_builder_path, chain_takes, is_below, takes, Splits}
use Rattle.weld_meaning.proofs.FreeNames.{type_free, origin_free, keeps_free, taken_free, splits_free}
use Rattle.weld_check_types.specs.Notes.{HasNote, AreNoted}
use Rattle.weld_rewriting.specs.Placed.{IsPlaced}
use Rattle.weld_rewriting.specs.Tidy.{IsTidy}
use Rattle.weld_meaning.proofs.OneType.{one_type}
use Rattle.weld_rewriting.proofs.Forms.{chain_value}
use Rattle.weld_rewriting.proofs.Parts.{value_of_let, body_of_let}
use Rattle.weld_substitution.proofs.PutTypes.{noted_free}
use Rattle.weld_joining.specs.Beside.{finish_at, Half, half_loop, half_value, two_lets, MayJoin, node_of, bare, both_builders, builder_field, joined, with_results}
use Rattle.weld_joining.proofs.Relabelled.{below, relabelled}
use Rattle.weld_joining.proofs.Seen.{keeps_seen}
use Rattle.weld_joining.proofs.Finishing.{FinishKeeps, finish_origin, finish_from, finish_typed, finish_noted, finish_keeps, finish_splits, finish_takes}
use Rattle.weld_joining.proofs.Looking.{skip, there, forward, over, instead}
use Rattle.weld_joining.proofs.Bodies.{OneBody, AsField, as_field, outside_stays}
use Rattle.weld_joining.proofs.Taking.{shown}
use Rattle.weld_joining.proofs.Fields.{pair_origin, pair_own, pair_seen, no_own_value, renamed, TakesField, field_body, BothBodies, both_bodies, chain_there, two_paths, struct_two, first_of_two, second_of_two, not_false, or_false, or_right, name_takes, fields_apart, chain_fact, without_fact}
use Rattle.weld_joining.proofs.BesideHalves.{HalfPlaced, half_placed, rows_looked, first_leg_noted}
use Rattle.weld_joining.proofs.Numbers.{b1_x1, b1_i1, i1_x1, b1_apart, i1_apart, x1_apart, n1_apart, n2_there, b2_there, i2_there, x2_there, b2_i2, b2_x2, i2_x2, i2_n2, s_n1, x2_unnamed, x1_unnamed, i1_unnamed, i2_unnamed}

-- ---- fields of a struct of builders

module _ (place : Place) (all : TypeTrees) where
  pub field_typed : (a m : At) (n c : ℕ) (t : TypeTree) (g : Types) → look_for c g ≡ Some (struct all) → IsField n all t → HasType (one a (field n) (leaf m (name c))) g t
  field_typed a m n c t g l f = (struct all, l, (all, refl, f))

  pub field_noted : (n c : ℕ) (t : TypeTree) (g : Types) → look_for c g ≡ Some (struct all) → IsField n all t → AreNoted (builder_field place (struct all) n t c) g
  field_noted n c t g l f = ((struct all, refl, l), (t, refl, field_typed (node_of place t) (node_of place (struct all)) n c t g l f))

-- the second body behind lets of its row number and row
abbrev pub behind_lets : Place → TypeTree → Half → Half → ExprTree
behind_lets place row h k =
    let_in (node_of place k.starts) (bare k.number) (leaf (node_of place (scalar kinds.I64)) (name h.number.sym.0))
    (let_in (node_of place k.starts) (bare k.row) (leaf (node_of place row) (name h.row.sym.0)) k.body)

module _ (a m : At) (s : ℕ) (row : TypeTree) (h k : Half) (rest : ExprTree) (may : MayJoin row h k) (tidy : IsTidy (two_lets a m s h k rest)) where
  abbrev fields : TypeTrees
  fields = more_types h.starts (more_types k.starts no_types)

  abbrev all : TypeTree
  all = both_builders h k

  abbrev pub second : ExprTree
  second = behind_lets a.place row h k

  abbrev pub before : ExprTree
  before = two_lets a m s h k rest

  abbrev pub after : ExprTree
  after = with_results a m s h k second rest

  abbrev b1 : ℕ
  b1 = h.builder.sym.0

  abbrev i1 : ℕ
  i1 = h.number.sym.0

  abbrev x1 : ℕ
  x1 = h.row.sym.0

  abbrev n1 : ℕ
  n1 = h.bound.sym.0

  abbrev b2 : ℕ
  b2 = k.builder.sym.0

  abbrev i2 : ℕ
  i2 = k.number.sym.0

  abbrev x2 : ℕ
  x2 = k.row.sym.0

  abbrev n2 : ℕ
  n2 = k.bound.sym.0

  -- ---- environments, whatever the names stand for

  abbrev inner : {A : Type 0} → A → A → A → Named A → Named A
  inner r n b g = (x1, r) ∷ (i1, n) ∷ (x2, b) ∷ g

  x1_x2 : x1 ≢ x2
  x1_x2 = x1_apart a m s h k rest tidy x2 (x2_there a m s h k rest tidy)

  i1_x2 : i1 ≢ x2
  i1_x2 = i1_apart a m s h k rest tidy x2 (x2_there a m s h k rest tidy)

  b1_x2 : b1 ≢ x2
  b1_x2 = b1_apart a m s h k rest tidy x2 (x2_there a m s h k rest tidy)

  pub look_pair : {A : Type 0} (r n b : A) (g : Named A) → look_for x2 (inner r n b g) ≡ Some b
  look_pair r n b g = skip x2 x1 r ((i1, n) ∷ (x2, b) ∷ g) (λ e. x1_x2 (sym e)) ∙ skip x2 i1 n ((x2, b) ∷ g) (λ e. i1_x2 (sym e)) ∙ there x2 b g

  pub look_number : {A : Type 0} (r n b c : A) (g : Named A) → look_for i1 ((b2, c) ∷ inner r n b g) ≡ Some n
  look_number r n b c g =
      skip i1 b2 c (inner r n b g) (i1_apart a m s h k rest tidy b2 (b2_there a m s h k rest tidy))
      ∙ skip i1 x1 r ((i1, n) ∷ (x2, b) ∷ g) (i1_x1 a m s h k rest tidy) ∙ there i1 n ((x2, b) ∷ g)

  pub look_row : {A : Type 0} (r n b c d : A) (g : Named A) → look_for x1 ((i2, d) ∷ (b2, c) ∷ inner r n b g) ≡ Some r
  look_row r n b c d g =
      skip x1 i2 d ((b2, c) ∷ inner r n b g) (x1_apart a m s h k rest tidy i2 (i2_there a m s h k rest tidy))
      ∙ skip x1 b2 c (inner r n b g) (x1_apart a m s h k rest tidy b2 (b2_there a m s h k rest tidy)) ∙ there x1 r ((i1, n) ∷ (x2, b) ∷ g)

  -- the first body's names stand for the same
  pub first_same : {A : Type 0} (r n b c : A) (g : Named A) → AgreeOn (IsFree h.body) ((x1, r) ∷ (i1, n) ∷ (b1, c) ∷ g) ((b1, c) ∷ inner r n b g)
  first_same r n b c g = record {
    agree = λ t f. forward t x1 i1 b1 x2 r n c b g (b1_x1 a m s h k rest tidy) (b1_i1 a m s h k rest tidy) (λ e. x2_unnamed a m s h k rest tidy (subst (IsFree h.body) e f));
  }

  -- the second's too
  pub second_same : {A : Type 0} (r n b c v : A) (g : Named A) → AgreeOn (IsFree k.body) ((x2, r) ∷ (i2, n) ∷ (b2, c) ∷ (n1, v) ∷ g) ((x2, r) ∷ (i2, n) ∷ (b2, c) ∷ inner r n b g)
  second_same r n b c v g = record {
    agree = λ t f. over t x2 i2 b2 r n c ((n1, v) ∷ g) (inner r n b g)
        (λ tx ti tb. instead t n1 x1 i1 x2 v r n b g (λ e. may.unnamed (subst (IsFree k.body) e f)) (λ e. x1_unnamed a m s h k rest tidy (subst (IsFree k.body) e f)) (λ e. i1_unnamed a m s h k rest tidy (subst (IsFree k.body) e f)) tx);
  }

  -- nor does its start see the first result
  pub start_same : {A : Type 0} (v : A) (g : Named A) → AgreeOn (IsFree k.start) ((n1, v) ∷ g) g
  start_same v g = record { agree = λ t f. skip t n1 v g (λ e. may.start_unnamed (subst (IsFree k.start) e f)) }

  -- what follows doesn't see the one loop
  pub rest_same : {A : Type 0} (v w b : A) (g : Named A) → AgreeOn (IsFree rest) ((n2, w) ∷ (n1, v) ∷ g) ((n2, w) ∷ (n1, v) ∷ (i2, b) ∷ g)
  rest_same v w b g = record {
    agree = λ t f. behind_two t (sym (skip t i2 b g (λ e. i2_unnamed a m s h k rest tidy (subst (IsFree rest) e f))));
  }
    where
      behind_two : (t : ℕ) → look_for t g ≡ look_for t ((i2, b) ∷ g) → look_for t ((n2, w) ∷ (n1, v) ∷ g) ≡ look_for t ((n2, w) ∷ (n1, v) ∷ (i2, b) ∷ g)
      behind_two t e = λ i. if t == n2 then Some w else (if t == n1 then Some v else e i)

  -- ---- origins

  -- where the builders of each come from, the second's as before the first `let`
  abbrev pub from_first : Named Origin → Origin
  from_first g = origin h.start g

  abbrev pub from_second : Named Origin → Origin
  from_second g = origin k.start g

  abbrev pub first_value : Named Origin → Origin
  first_value g = finish_origin h.result_at (from_first g)

  abbrev pub second_value : Named Origin → Origin
  second_value g = finish_origin k.result_at (from_second g)

  pub second_from : (v : Origin) (g : Named Origin) → origin k.start ((n1, v) ∷ g) ≡ from_second g
  second_from v g = origin_free k.start ((n1, v) ∷ g) g (start_same v g)

  abbrev pub own_pair : Named Origin → Origin
  own_pair g = pair_origin (from_first g) (from_second g)

  abbrev pub origins_inside : Named Origin → Named Origin
  origins_inside g = inner value value (own_pair g) (outside g)

  first_field : (g : Named Origin) → OneBody h.builder h.number h.row h.body (from_first g) g → AsField (below 0 (own_paths (from_first g))) b1 h.body ((b1, below 0 (own_paths (from_first g))) ∷ origins_inside g)
  first_field g w =
      let own_is : Origin = below 0 (own_paths (from_first g)) in
      as_field 0 h.builder h.number h.row h.body (from_first g) g ((b1, own_is) ∷ origins_inside g) w
      (subst (λ o. AgreeOn (IsFree h.body) ((x1, value) ∷ (i1, value) ∷ (b1, own_is) ∷ o) ((b1, own_is) ∷ origins_inside g)) (sym (outside_stays 0 g)) (first_same value value (own_pair g) own_is (outside g)))

  second_field : (v : Origin) (g : Named Origin) → OneBody k.builder k.number k.row k.body (from_second g) ((n1, v) ∷ g) → AsField (below 1 (own_paths (from_second g))) b2 second ((b2, below 1 (own_paths (from_second g))) ∷ origins_inside g)
  second_field v g w =
      let own_is : Origin = below 1 (own_paths (from_second g)) in
      let here : Named Origin = (b2, own_is) ∷ origins_inside g in
      let body = as_field 1 k.builder k.number k.row k.body (from_second g) ((n1, v) ∷ g) ((x2, value) ∷ (i2, value) ∷ here) w
      (subst (λ o. AgreeOn (IsFree k.body) ((x2, value) ∷ (i2, value) ∷ (b2, own_is) ∷ o) ((x2, value) ∷ (i2, value) ∷ here)) (sym (outside_stays 1 ((n1, v) ∷ g))) (second_same value value (own_pair g) own_is (from_within v) (outside g))) in
      let at : At = node_of a.place k.starts in
      renamed own_is b2 at (node_of a.place (scalar kinds.I64)) (bare k.number) i1 _ here
      (renamed own_is b2 at (node_of a.place row) (bare k.row) x1 k.body ((i2, value) ∷ here) body (ap known_origin (look_row value value (own_pair g) own_is value (outside g))) (λ e. b2_x2 a m s h k rest tidy (sym e)))
      (ap known_origin (look_number value value (own_pair g) own_is (outside g))) (λ e. b2_i2 a m s h k rest tidy (sym e))

  abbrev pub first_let : ExprTree
  first_let = let_in (node_of a.place h.starts) h.builder (builder_field a.place all 0 h.starts x2) h.body

  abbrev pub second_let : ExprTree
  second_let = let_in (node_of a.place k.starts) k.builder (builder_field a.place all 1 k.starts x2) second

  pub bodies : (v : Origin) (g : Named Origin) → is_value (from_first g) ≡ false → OneBody h.builder h.number h.row h.body (from_first g) g → OneBody k.builder k.number k.row k.body (from_second g) ((n1, v) ∷ g)
      → BothBodies x2 (below 0 (own_paths (from_first g))) (below 1 (own_paths (from_second g))) (node_of a.place all) first_let second_let (origins_inside g)
  bodies v g kept w y =
      let look : origin_of_name x2 (origins_inside g) ≡ own_pair g = ap known_origin (look_pair value value (own_pair g) (outside g)) in
      let seen : IsSeen (own_pair g) = pair_seen (from_first g) (from_second g) in
      both_bodies x2 (below 0 (own_paths (from_first g))) (below 1 (own_paths (from_second g))) (node_of a.place all) first_let second_let (origins_inside g) (no_own_value 0 (from_first g) kept) look
      (field_body 0 x2 (below 0 (own_paths (from_first g))) (own_pair g) (node_of a.place h.starts) (node_of a.place h.starts) (node_of a.place all) h.builder h.body (origins_inside g) look refl seen (first_field g w))
      (field_body 1 x2 (below 1 (own_paths (from_second g))) (own_pair g) (node_of a.place k.starts) (node_of a.place k.starts) (node_of a.place all) k.builder second (origins_inside g) look refl seen (second_field v g y))

  -- where the second value comes from
  pub second_value_from : (v : Origin) (g : Named Origin) → origin (half_value s k) ((n1, v) ∷ g) ≡ second_value g
  second_value_from v g = finish_from k.result_at (half_loop s k) ((n1, v) ∷ g) ∙ ap (finish_origin k.result_at) (second_from v g)

  -- whatever the names are, the whole comes from where it came from
  abbrev pair_value : Named Origin → Origin
  pair_value g = struct_origin (more_origins (from_first g) (more_origins (from_second g) no_origins))

  first_part_value : (g : Named Origin) → origin (finish_at h.result_at (builder_field a.place all 0 h.starts i2)) ((i2, pair_value g) ∷ g) ≡ first_value g
  first_part_value g =
      finish_from h.result_at (builder_field a.place all 0 h.starts i2) ((i2, pair_value g) ∷ g)
      ∙ ap (finish_origin h.result_at) (ap (λ o. field_origin 0 (known_origin o)) (there i2 (pair_value g) g) ∙ first_of_two (from_first g) (from_second g))

  second_part_value : (v : Origin) (g : Named Origin) → origin (finish_at k.result_at (builder_field a.place all 1 k.starts i2)) ((n1, v) ∷ (i2, pair_value g) ∷ g) ≡ second_value g
  second_part_value v g =
      finish_from k.result_at (builder_field a.place all 1 k.starts i2) ((n1, v) ∷ (i2, pair_value g) ∷ g)
      ∙ ap (finish_origin k.result_at)
      (ap (λ o. field_origin 1 (known_origin o)) (skip i2 n1 v ((i2, pair_value g) ∷ g) (λ e. n1_apart a m s h k rest tidy i2 (i2_there a m s h k rest tidy) (sym e)) ∙ there i2 (pair_value g) g)
      ∙ second_of_two (from_first g) (from_second g))

  before_from : (g : Named Origin) → origin before g ≡ origin rest ((n2, second_value g) ∷ (n1, first_value g) ∷ g)
  before_from g =
      ap (λ o. origin (let_in m k.bound (half_value s k) rest) ((n1, o) ∷ g)) (finish_from h.result_at (half_loop s h) g)
      ∙ ap (λ o. origin rest ((n2, o) ∷ (n1, first_value g) ∷ g)) (second_value_from (first_value g) g)

  pub same_from : (g : Named Origin) → origin after g ≡ origin before g
  same_from g =
      let there : Named Origin = (i2, pair_value g) ∷ g in
      ap (λ o. origin (let_in m k.bound (finish_at k.result_at (builder_field a.place all 1 k.starts i2)) rest) ((n1, o) ∷ there)) (first_part_value g)
      ∙ ap (λ o. origin rest ((n2, o) ∷ (n1, first_value g) ∷ there)) (second_part_value (first_value g) g)
      ∙ sym (origin_free rest ((n2, second_value g) ∷ (n1, first_value g) ∷ g) ((n2, second_value g) ∷ (n1, first_value g) ∷ there) (rest_same (first_value g) (second_value g) (pair_value g) g))
      ∙ sym (before_from g)

  -- ---- types inside the one loop

  abbrev types_inside : Types → Types
  types_inside types = inner row place_type all types

  field_zero : (a m : At) (c : ℕ) (g : Types) → look_for c g ≡ Some all → HasType (one a (field 0) (leaf m (name c))) g h.starts
  field_zero b l c g look = field_typed a.place fields b l 0 c h.starts g look refl

  field_one : (a m : At) (c : ℕ) (g : Types) → look_for c g ≡ Some all → HasType (one a (field 1) (leaf m (name c))) g k.starts
  field_one b l c g look = field_typed a.place fields b l 1 c k.starts g look refl

  -- both halves in their places
  pub record Known (types : Types) (g : Named Origin) (t : TypeTree) : Type 0 where
    pub first_type : TypeTree
    pub second_type : TypeTree
    pub look : look_for s types ≡ Some (vec row)
    pub first : HalfPlaced s row h types g first_type
    pub first_origin : Origin
    pub first_from : first_origin ≡ first_value g
    pub second : HalfPlaced s row k ((n1, first_type) ∷ types) ((n1, first_origin) ∷ g) second_type
    pub first_fits : NoteFits h.bound.note first_type
    pub second_fits : NoteFits k.bound.note second_type
    pub rest_in : IsPlaced rest ((n2, second_type) ∷ (n1, first_type) ∷ types) ((n2, second_value g) ∷ (n1, first_value g) ∷ g) t
    pub first_all : TakesAll n1 (first_value g) (takes (let_in m k.bound (half_value s k) rest) ((n1, first_value g) ∷ g))
    pub first_apart : Apart (takes (half_value s h) g) (without n1 (takes (let_in m k.bound (half_value s k) rest) ((n1, first_value g) ∷ g)))
    pub second_all : TakesAll n2 (second_value g) (takes rest ((n2, second_value g) ∷ (n1, first_value g) ∷ g))
    pub second_apart : Apart (takes (half_value s k) ((n1, first_value g) ∷ g)) (without n2 (takes rest ((n2, second_value g) ∷ (n1, first_value g) ∷ g)))
    pub first_typed : HasType (half_value s h) types first_type
    pub second_typed : HasType (half_value s k) ((n1, first_type) ∷ types) second_type
    pub let_typed : HasType (let_in m k.bound (half_value s k) rest) ((n1, first_type) ∷ types) t
    pub let_note : HasNote m (let_in m k.bound (half_value s k) rest) ((n1, first_type) ∷ types)
    pub name_value : origin_of_name s g ≡ value

  pub known : (types : Types) (g : Named Origin) (t : TypeTree) → IsPlaced before types g t → Known types g t
  known types g t p =
      let later : ExprTree = let_in m k.bound (half_value s k) rest in
      let u = p.typed.0 in
      let v : Origin = origin (half_value s h) g in
      let from_v : v ≡ first_value g = finish_from h.result_at (half_loop s h) g in
      let one_placed = value_of_let a h.bound (half_value s h) later types g t p in
      let inside = body_of_let a h.bound (half_value s h) later types g t p in
      let two_placed = value_of_let m k.bound (half_value s k) rest ((n1, u) ∷ types) ((n1, v) ∷ g) t inside in
      let w = inside.typed.0 in
      let z : Origin = origin (half_value s k) ((n1, v) ∷ g) in
      let from_z : z ≡ second_value g = second_value_from v g in
      let look = rows_looked h.leg_at s row types may.row_noted (first_leg_noted s h types g u one_placed) in
      let look_later : look_for s ((n1, u) ∷ types) ≡ Some (vec row) = skip s n1 u types (s_n1 a m s h k rest tidy) ∙ look in
      let rest_placed = body_of_let m k.bound (half_value s k) rest ((n1, u) ∷ types) ((n1, v) ∷ g) t inside in
      record {
        first_type = u;
        second_type = w;
        look = look;
        first = half_placed s row h types g u may.first_starts look one_placed;
        first_origin = v;
        first_from = from_v;
        second = half_placed s row k ((n1, u) ∷ types) ((n1, v) ∷ g) w may.second_starts look_later two_placed;
        first_fits = p.typed.2;
        second_fits = inside.typed.2;
        rest_in = subst (λ o. IsPlaced rest ((n2, w) ∷ (n1, u) ∷ types) ((n2, second_value g) ∷ (n1, o) ∷ g) t) from_v (subst (λ o. IsPlaced rest ((n2, w) ∷ (n1, u) ∷ types) ((n2, o) ∷ (n1, v) ∷ g) t) from_z rest_placed);
        first_all = subst (λ o. TakesAll n1 o (takes later ((n1, o) ∷ g))) from_v p.splits.3;
        first_apart = subst (λ o. Apart (takes (half_value s h) g) (without n1 (takes later ((n1, o) ∷ g)))) from_v p.splits.2;
        second_all = subst (λ o. TakesAll n2 (second_value g) (takes rest ((n2, second_value g) ∷ (n1, o) ∷ g))) from_v (subst (λ o. TakesAll n2 o (takes rest ((n2, o) ∷ (n1, v) ∷ g))) from_z inside.splits.3);
        second_apart = subst (λ o. Apart (takes (half_value s k) ((n1, o) ∷ g)) (without n2 (takes rest ((n2, second_value g) ∷ (n1, o) ∷ g)))) from_v
            (subst (λ o. Apart (takes (half_value s k) ((n1, v) ∷ g)) (without n2 (takes rest ((n2, o) ∷ (n1, v) ∷ g)))) from_z inside.splits.2);
        first_typed = one_placed.typed;
        second_typed = two_placed.typed;
        let_typed = inside.typed;
        let_note = inside.noted.2;
        name_value = chain_value (leaf h.leg_at (name s)) (s, []) types g (vec row) refl look p.formed p.forms (p.formed.formed s (vec row) look).1;
      }

  module _ (types : Types) (g : Named Origin) (t : TypeTree) (w : Known types g t) where
    abbrev inside : Types
    inside = types_inside types

    look_all : look_for x2 inside ≡ Some all
    look_all = look_pair row place_type all types

    first_let_typed : HasType first_let inside h.starts
    first_let_typed = (
      h.starts,
      field_zero (node_of a.place h.starts) (node_of a.place all) x2 inside look_all,
      w.first.builder_note,
      type_free h.body ((x1, row) ∷ (i1, place_type) ∷ (b1, h.starts) ∷ types) ((b1, h.starts) ∷ inside) h.starts (first_same row place_type all h.starts types) w.first.body.typed,
    )

    first_let_noted : AreNoted first_let inside
    first_let_noted = (
      field_noted a.place fields 0 x2 h.starts inside look_all refl,
      (
        h.starts,
        field_zero (node_of a.place h.starts) (node_of a.place all) x2 inside look_all,
        noted_free h.body ((x1, row) ∷ (i1, place_type) ∷ (b1, h.starts) ∷ types) ((b1, h.starts) ∷ inside) (first_same row place_type all h.starts types) w.first.body.noted,
      ),
      (h.starts, refl, first_let_typed),
    )

    abbrev within_second : Types
    within_second = (b2, k.starts) ∷ inside

    abbrev row_let : ExprTree
    row_let = let_in (node_of a.place k.starts) (bare k.row) (leaf (node_of a.place row) (name x1)) k.body

    row_let_typed : HasType row_let ((i2, place_type) ∷ within_second) k.starts
    row_let_typed = (
      row,
      look_row row place_type all k.starts place_type types,
      tt,
      type_free k.body ((x2, row) ∷ (i2, place_type) ∷ (b2, k.starts) ∷ (n1, w.first_type) ∷ types) ((x2, row) ∷ (i2, place_type) ∷ within_second) k.starts
          (second_same row place_type all k.starts w.first_type types) w.second.body.typed,
    )

    second_typed : HasType second within_second k.starts
    second_typed = (place_type, look_number row place_type all k.starts types, tt, row_let_typed)

    second_noted : AreNoted second within_second
    second_noted = (
      (place_type, refl, look_number row place_type all k.starts types),
      (
        place_type,
        look_number row place_type all k.starts types,
        (
          (row, refl, look_row row place_type all k.starts place_type types),
          (
            row,
            look_row row place_type all k.starts place_type types,
            noted_free k.body ((x2, row) ∷ (i2, place_type) ∷ (b2, k.starts) ∷ (n1, w.first_type) ∷ types) ((x2, row) ∷ (i2, place_type) ∷ within_second)
                (second_same row place_type all k.starts w.first_type types) w.second.body.noted,
          ),
          (k.starts, refl, row_let_typed),
        ),
      ),
      (k.starts, refl, second_typed),
    )

    second_let_typed : HasType second_let inside k.starts
    second_let_typed = (k.starts, field_one (node_of a.place k.starts) (node_of a.place all) x2 inside look_all, w.second.builder_note, second_typed)

    second_let_noted : AreNoted second_let inside
    second_let_noted = (
      field_noted a.place fields 1 x2 k.starts inside look_all refl,
      (k.starts, field_one (node_of a.place k.starts) (node_of a.place all) x2 inside look_all, second_noted),
      (k.starts, refl, second_let_typed),
    )

    -- ---- the one loop

    abbrev pub starts : ExprTree
    starts = many (node_of a.place all) make_struct (more_exprs h.start (more_exprs k.start no_exprs))

    abbrev pub both_lets : ExprTree
    both_lets = many (node_of a.place all) make_struct (more_exprs first_let (more_exprs second_let no_exprs))

    abbrev pub one_loop : ExprTree
    one_loop = joined a.place s h k second

    pub second_start_typed : HasType k.start types k.starts
    second_start_typed = type_free k.start ((n1, w.first_type) ∷ types) types k.starts (start_same w.first_type types) w.second.start.typed

    pub second_start_noted : AreNoted k.start types
    second_start_noted = noted_free k.start ((n1, w.first_type) ∷ types) types (start_same w.first_type types) w.second.start.noted

    starts_typed : HasType starts types all
    starts_typed = (fields, (w.first.start.typed, (second_start_typed, tt)), (tt, inr (w.first.builds, (w.second.builds, tt)), refl))

    pub body_typed : HasType both_lets inside all
    body_typed = (fields, (first_let_typed, (second_let_typed, tt)), (tt, inr (w.first.builds, (w.second.builds, tt)), refl))

    loop_typed : HasType one_loop types all
    loop_typed = (more_types row no_types, row, (w.look, tt), refl, starts_typed, (w.first.builds, (w.second.builds, tt)), tt, w.first.number_note, w.first.row_note, body_typed)

    loop_noted : AreNoted one_loop types
    loop_noted = (
      (w.first.leg_noted, tt),
      ((w.first.start.noted, (second_start_noted, tt)), (all, refl, starts_typed)),
      (more_types row no_types, row, all, (w.look, tt), refl, starts_typed, ((first_let_noted, (second_let_noted, tt)), (all, refl, body_typed))),
      (all, refl, loop_typed),
    )

    -- ---- what follows

    note_moves : (b : At) (d e : ExprTree) (f i : Types) (u : TypeTree) → HasNote b e f → HasType e f u → HasType d i u → HasNote b d i
    note_moves b d e f i u n x y = (n.0, n.1, subst (HasType d i) (one_type e f u n.0 x n.2) y)

    abbrev pub first_part : ExprTree
    first_part = builder_field a.place all 0 h.starts i2

    abbrev pub second_part : ExprTree
    second_part = builder_field a.place all 1 k.starts i2

    abbrev pub first_result : ExprTree
    first_result = finish_at h.result_at first_part

    abbrev pub second_result : ExprTree
    second_result = finish_at k.result_at second_part

    abbrev later : Types
    later = (i2, all) ∷ types

    look_later : (u : TypeTree) → look_for i2 ((n1, u) ∷ later) ≡ Some all
    look_later u = skip i2 n1 u later (λ e. n1_apart a m s h k rest tidy i2 (i2_there a m s h k rest tidy) (sym e)) ∙ there i2 all types

    first_result_typed : HasType first_result later w.first_type
    first_result_typed =
        finish_typed h.result_at first_part later h.starts w.first_type (field_zero (node_of a.place h.starts) (node_of a.place all) i2 later (there i2 all types)) w.first.has

    second_result_typed : HasType second_result ((n1, w.first_type) ∷ later) w.second_type
    second_result_typed =
        finish_typed k.result_at second_part ((n1, w.first_type) ∷ later) k.starts w.second_type
        (field_one (node_of a.place k.starts) (node_of a.place all) i2 ((n1, w.first_type) ∷ later) (look_later w.first_type)) w.second.has

    first_result_noted : AreNoted first_result later
    first_result_noted =
        finish_noted h.result_at first_part (half_loop s h) types later w.first_type (field_noted a.place fields 0 i2 h.starts later (there i2 all types) refl) w.first.result_noted w.first_typed first_result_typed

    second_result_noted : AreNoted second_result ((n1, w.first_type) ∷ later)
    second_result_noted =
        finish_noted k.result_at second_part (half_loop s k) ((n1, w.first_type) ∷ types) ((n1, w.first_type) ∷ later) w.second_type
        (field_noted a.place fields 1 i2 k.starts ((n1, w.first_type) ∷ later) (look_later w.first_type) refl) w.second.result_noted w.second_typed second_result_typed

    abbrev pub last_let : ExprTree
    last_let = let_in m k.bound second_result rest

    last_typed : HasType last_let ((n1, w.first_type) ∷ later) t
    last_typed = (
      w.second_type,
      second_result_typed,
      w.second_fits,
      type_free rest ((n2, w.second_type) ∷ (n1, w.first_type) ∷ types) ((n2, w.second_type) ∷ (n1, w.first_type) ∷ later) t (rest_same w.first_type w.second_type all types) w.rest_in.typed,
    )

    abbrev pub results : ExprTree
    results = let_in a h.bound first_result last_let

    results_typed : HasType results later t
    results_typed = (w.first_type, first_result_typed, w.first_fits, last_typed)

    pub after_typed : HasType after types t
    after_typed = (all, loop_typed, tt, results_typed)

    pub after_noted : HasNote a before types → HasType before types t → AreNoted after types
    after_noted n y = (
      loop_noted,
      (
        all,
        loop_typed,
        (
          first_result_noted,
          (
            w.first_type,
            first_result_typed,
            (
              second_result_noted,
              (
                w.second_type,
                second_result_typed,
                noted_free rest ((n2, w.second_type) ∷ (n1, w.first_type) ∷ types) ((n2, w.second_type) ∷ (n1, w.first_type) ∷ later) (rest_same w.first_type w.second_type all types) w.rest_in.noted,
              ),
              note_moves m last_let (let_in m k.bound (half_value s k) rest) ((n1, w.first_type) ∷ types) ((n1, w.first_type) ∷ later) t w.let_note w.let_typed last_typed,
            ),
          ),
          note_moves a results before types later t n y results_typed,
        ),
      ),
      note_moves a after before types types t n y after_typed,
    )

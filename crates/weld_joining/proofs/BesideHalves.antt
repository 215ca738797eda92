-- What is known of a loop over a name, or of its result, in its place.
use Rattle.std.proofs.Common.{◌≡◌, ◌≢◌, ℕ, Bool, true, false, [], ◌∷◌, Some, refl, ap, sym, subst, ◌∙◌}
use Rattle.weld_tree.specs.declared.binder.Binder.{Binder}
use Rattle.weld_tree.specs.declared.known.Known.TheVariants.{Is}
use Rattle.weld_tree.specs.TypeTree.{TypeTree, TypeTrees, vec, no_types, more_types}
use Rattle.weld_tree.specs.Types.{IsBuilder, IsWellFormed}
use Rattle.weld_tree.specs.ExprTree.{At, ExprTree, leaf, one, two, three, many, let_in, loop, iterate, LegTrees, whole, no_legs, more_legs, name}
use Rattle.weld_meaning.specs.Environment.{Named, look_for}
use Rattle.weld_meaning.specs.Typing.{Types, NoteFits, place_type, HasType, LegsHave, RowHas, body_types}
use Rattle.weld_meaning.specs.Origin.{Origin, value, made, own, outer, named, struct, is_value, origin, origin_of_name, in_body}
use Rattle.weld_meaning.specs.Linear.{IsSeen}
use Rattle.weld_check_types.specs.Notes.{AreNoted}
use Rattle.weld_meaning.proofs.OneType.{one_type}
use Rattle.weld_meaning.proofs.WellFormed.{type_formed}
use Rattle.weld_meaning.specs.Forms.{HasForm}
use Rattle.weld_meaning.proofs.OriginTypes.{not_both, origin_forms}
use Rattle.weld_substitution.specs.Redex.{noted}
use Rattle.weld_rewriting.specs.Placed.{IsPlaced}
use Rattle.weld_rewriting.proofs.Parts.{start_of_loop, body_of_loop}
use Rattle.weld_joining.specs.Beside.{Half, half_loop, half_value}
use Rattle.weld_joining.proofs.Bodies.{OneBody}
use Rattle.weld_joining.proofs.Finishing.{FinishHas, FinishNoted, FinishKeeps, FinishPlaced, finish_placed}

vectors_one : (t u : TypeTree) → vec t ≡ vec u → t ≡ u
vectors_one t u e = cc

known_one : (t u : TypeTree) → Is t ≡ Is u → t ≡ u
known_one t u e = cc

some_one : (t u : TypeTree) → Some t ≡ Some u → t ≡ u
some_one t u e = cc

-- ---- notes

-- what is noted of an expression, and that it has this type
root_noted : (e : ExprTree) (g : Types) → AreNoted e g → (t : TypeTree) × (noted e ≡ Is t) × HasType e g t
root_noted (leaf a l) g w = w
root_noted (one a o e) g w = w.1
root_noted (two a o e f) g w = w.2
root_noted (three a o c e f) g w = w.3
root_noted (many a o es) g w = w.1
root_noted (let_in a b e f) g w = w.2
root_noted (loop a ls e b n x f) g w = w.3
root_noted (iterate a e b f) g w = w.2

-- the type that is noted is the one that it has
noted_type : (e : ExprTree) (g : Types) (t u : TypeTree) → noted e ≡ Is t → AreNoted e g → HasType e g u → u ≡ t
noted_type e g t u n w h =
    let r = root_noted e g w in one_type e g u r.0 h r.2 ∙ known_one r.0 t (sym r.1 ∙ n)

-- ---- builders

-- what a builder or a struct of builders comes from is no value
no_value : (o : Origin) (u : TypeTree) → IsWellFormed u → IsBuilder u → HasForm o u → is_value o ≡ false
no_value value u w b f = absurd (not_both u w b f)
no_value made u w b f = refl
no_value (own p) u w b f = refl
no_value outer u w b f = refl
no_value (named s p) u w b f = refl
no_value (struct os) u w b f = refl

-- ---- the half

pub record HalfPlaced (s : ℕ) (row : TypeTree) (h : Half) (types : Types) (g : Named Origin) (u : TypeTree) : Type 0 where
  pub has : FinishHas h.result_at h.starts u
  pub start : IsPlaced h.start types g h.starts
  pub builds : IsBuilder h.starts
  pub builder_note : NoteFits h.builder.note h.starts
  pub number_note : NoteFits h.number.note place_type
  pub row_note : NoteFits h.row.note row
  pub body : IsPlaced h.body (body_types h.builder h.number h.row h.starts row types) (in_body h.builder h.number h.row (origin h.start g) g) h.starts
  pub one_body : OneBody h.builder h.number h.row h.body (origin h.start g) g
  pub seen : IsSeen (origin_of_name s g)
  pub leg_noted : AreNoted (leaf h.leg_at (name s)) types
  pub result_noted : FinishNoted h.result_at (half_loop s h) types
  pub closes : FinishKeeps h.result_at (origin h.start g)
  pub kept : is_value (origin h.start g) ≡ false

-- the type of the rows
rows_are : (a : At) (s : ℕ) (types : Types) (us : TypeTrees) (r row : TypeTree) → look_for s types ≡ Some (vec row) → LegsHave (more_legs (whole (leaf a (name s))) no_legs) types us → RowHas us r → r ≡ row
rows_are a s types no_types r row l h w = absurd h
rows_are a s types (more_types u no_types) r row l h w = w ∙ vectors_one u row (some_one (vec u) (vec row) (sym h.0 ∙ l))
rows_are a s types (more_types u (more_types v us)) r row l h w = absurd h.1

-- the name has the type of a vector of the rows that are noted
pub rows_looked : (a : At) (s : ℕ) (row : TypeTree) (types : Types) → a.ty ≡ Is (vec row) → AreNoted (leaf a (name s)) types → look_for s types ≡ Some (vec row)
rows_looked a s row types n w = w.2 ∙ ap Some (known_one w.0 (vec row) (sym w.1 ∙ n))

pub first_leg_noted : (s : ℕ) (h : Half) (types : Types) (g : Named Origin) (u : TypeTree) → IsPlaced (half_value s h) types g u → AreNoted (leaf h.leg_at (name s)) types
first_leg_noted s h types g u p = (finish_placed h.result_at (half_loop s h) types g u p).placed.noted.0.0

pub half_placed : (s : ℕ) (row : TypeTree) (h : Half) (types : Types) (g : Named Origin) (u : TypeTree) → noted h.start ≡ Is h.starts → look_for s types ≡ Some (vec row) → IsPlaced (half_value s h) types g u → HalfPlaced s row h types g u
half_placed s row h types g u starts look p =
    let ls : LegTrees = more_legs (whole (leaf h.leg_at (name s))) no_legs in
    let f : FinishPlaced h.result_at (half_loop s h) types g u = finish_placed h.result_at (half_loop s h) types g u p in
    let w : TypeTree = f.type in
    let l : IsPlaced (half_loop s h) types g w = f.placed in
    let t = l.typed in
    let begun = start_of_loop h.loop_at ls h.start h.builder h.number h.row h.body types g w l in
    let w_is : w ≡ h.starts = noted_type h.start types h.starts w starts begun.noted begun.typed in
    let row_is : t.1 ≡ row = rows_are h.leg_at s types t.0 t.1 row look t.2 t.3 in
    let inside = body_of_loop h.loop_at ls h.start h.builder h.number h.row h.body types g w l in
    record {
      has = subst (λ v. FinishHas h.result_at v u) w_is f.has;
      start = subst (IsPlaced h.start types g) w_is begun;
      builds = subst IsBuilder w_is t.5;
      builder_note = subst (NoteFits h.builder.note) w_is t.6;
      number_note = t.7;
      row_note = subst (NoteFits h.row.note) row_is t.8;
      body = subst (λ v. IsPlaced h.body (body_types h.builder h.number h.row v row types) (in_body h.builder h.number h.row (origin h.start g) g) v) w_is
          (subst (λ r. IsPlaced h.body (body_types h.builder h.number h.row w r types) (in_body h.builder h.number h.row (origin h.start g) g) w) row_is inside);
      one_body = record { keeps = l.keeps.2; gives = l.keeps.3; splits = l.splits.3; all = l.splits.4 };
      seen = l.keeps.0.0;
      leg_noted = l.noted.0.0;
      result_noted = f.result_noted;
      closes = f.closes;
      kept = no_value (origin h.start g) w (type_formed h.start types w begun.typed l.formed) t.5 (origin_forms h.start g types w begun.typed l.formed l.forms);
    }

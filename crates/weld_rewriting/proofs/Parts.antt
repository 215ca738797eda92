-- The parts of an expression in its place are in theirs.
use Rattle.std.proofs.Common.{◌≡◌, refl, sym, subst, ◌∙◌, ◌∷◌}
use Rattle.weld_tree.specs.declared.binder.Binder.{Binder}
use Rattle.weld_tree.specs.TypeTree.{TypeTree, TypeTrees, vec, no_types, more_types}
use Rattle.weld_tree.specs.Types.{IsBuilderFree, AreBuilderFree, pair_of}
use Rattle.weld_tree.specs.ExprTree.{At, ExprTree, one, two, three, many, let_in, loop, iterate, ExprTrees, more_exprs, LegTree, whole, strided, LegTrees, no_legs, more_legs, One, Two, Three, Many}
use Rattle.weld_meaning.specs.Environment.{Named}
use Rattle.weld_meaning.specs.Typing.{Types, AreFormed, truth_type, place_type, HasType, HaveTypes, LegHas, LegsHave, RowHas, body_types}
use Rattle.weld_meaning.specs.Origin.{Origin, value, origin, in_body, in_turn}
use Rattle.weld_meaning.specs.Linear.{AllKeep, LegKeeps, LegsKeep}
use Rattle.weld_meaning.specs.Available.{AllSplit, LegSplits, LegsSplit}
use Rattle.weld_meaning.proofs.OneType.{one_type}
use Rattle.weld_meaning.proofs.WellFormed.{type_formed, formed_bind, formed_body, legs_formed, row_formed}
use Rattle.weld_meaning.proofs.OriginTypes.{origin_forms, forms_bind, forms_outside, forms_in_body}
use Rattle.weld_check_types.specs.Notes.{HasNote, AreNoted, AllAreNoted, LegIsNoted, LegsAreNoted}
use Rattle.weld_meaning.specs.Forms.{NamesHaveForms}
use Rattle.weld_rewriting.specs.Placed.{IsPlaced}

-- ---- types of legs and rows

leg_one : (l : LegTree) (g : Types) (t u : TypeTree) → LegHas l g t → LegHas l g u → t ≡ u
leg_one (whole e) g t u h k = let e : vec t ≡ vec u = one_type e g (vec t) (vec u) h k in cc
leg_one (strided e f i j) g t u h k = let e : vec t ≡ vec u = one_type e g (vec t) (vec u) h.0 k.0 in cc

legs_one : (ls : LegTrees) (g : Types) (us vs : TypeTrees) → LegsHave ls g us → LegsHave ls g vs → us ≡ vs
legs_one no_legs g no_types no_types h k = refl
legs_one no_legs g no_types (more_types v vs) h k = absurd k
legs_one no_legs g (more_types u us) vs h k = absurd h
legs_one (more_legs l ls) g no_types vs h k = absurd h
legs_one (more_legs l ls) g (more_types u us) no_types h k = absurd k
legs_one (more_legs l ls) g (more_types u us) (more_types v vs) h k = λ i. more_types (leg_one l g u v h.0 k.0 i) (legs_one ls g us vs h.1 k.1 i)

row_one : (us : TypeTrees) (r t : TypeTree) → RowHas us r → RowHas us t → r ≡ t
row_one no_types r t h k = absurd h
row_one (more_types u no_types) r t h k = h ∙ sym k
row_one (more_types u (more_types v us)) r t h k = h ∙ sym k

pub rows_one : (ls : LegTrees) (g : Types) (us vs : TypeTrees) (r t : TypeTree) → LegsHave ls g us → RowHas us r → LegsHave ls g vs → RowHas vs t → r ≡ t
rows_one ls g us vs r t h p k q = row_one us r t p (subst (λ ws. RowHas ws t) (sym (legs_one ls g us vs h k)) q)

free_row : (us : TypeTrees) (r : TypeTree) → RowHas us r → AreBuilderFree us → IsBuilderFree r
free_row no_types r h f = absurd h
free_row (more_types u no_types) r h f = subst IsBuilderFree (sym h) f.0
free_row (more_types u (more_types v us)) r h f = subst IsBuilderFree (sym h) f

-- rows are values
pub row_free : (ls : LegTrees) (g : Types) (us : TypeTrees) (r : TypeTree) → LegsHave ls g us → RowHas us r → AreFormed g → IsBuilderFree r
row_free ls g us r h p w = free_row us r p (legs_formed ls g us h w).1

-- ---- notes

-- what is noted of an expression may be noted of one that has its type
pub noted_at : (a : At) (d e : ExprTree) (g : Types) (t : TypeTree) → HasNote a e g → HasType e g t → HasType d g t → HasNote a d g
noted_at a d e g t n h k = (n.0, n.1, subst (HasType d g) (one_type e g t n.0 h n.2) k)

-- ---- parts

pub part_of_one : (a : At) (o : One) (e : ExprTree) (types : Types) (g : Named Origin) (t : TypeTree) → (p : IsPlaced (one a o e) types g t) → IsPlaced e types g p.typed.0
part_of_one a o e types g t p = record { formed = p.formed; forms = p.forms; typed = p.typed.1; keeps = p.keeps.0; splits = p.splits.0; noted = p.noted.0 }

pub first_of_two : (a : At) (o : Two) (e f : ExprTree) (types : Types) (g : Named Origin) (t : TypeTree) → (p : IsPlaced (two a o e f) types g t) → IsPlaced e types g p.typed.0
first_of_two a o e f types g t p = record { formed = p.formed; forms = p.forms; typed = p.typed.2; keeps = p.keeps.0; splits = p.splits.0; noted = p.noted.0 }

pub second_of_two : (a : At) (o : Two) (e f : ExprTree) (types : Types) (g : Named Origin) (t : TypeTree) → (p : IsPlaced (two a o e f) types g t) → IsPlaced f types g p.typed.1
second_of_two a o e f types g t p = record { formed = p.formed; forms = p.forms; typed = p.typed.3; keeps = p.keeps.1; splits = p.splits.1; noted = p.noted.1 }

pub first_of_three : (a : At) (o : Three) (e f k : ExprTree) (types : Types) (g : Named Origin) (t : TypeTree) → (p : IsPlaced (three a o e f k) types g t) → IsPlaced e types g p.typed.0
first_of_three a o e f k types g t p = record { formed = p.formed; forms = p.forms; typed = p.typed.3; keeps = p.keeps.0; splits = p.splits.0; noted = p.noted.0 }

pub second_of_three : (a : At) (o : Three) (e f k : ExprTree) (types : Types) (g : Named Origin) (t : TypeTree) → (p : IsPlaced (three a o e f k) types g t) → IsPlaced f types g p.typed.1
second_of_three a o e f k types g t p = record { formed = p.formed; forms = p.forms; typed = p.typed.4; keeps = p.keeps.1; splits = p.splits.1; noted = p.noted.1 }

pub third_of_three : (a : At) (o : Three) (e f k : ExprTree) (types : Types) (g : Named Origin) (t : TypeTree) → (p : IsPlaced (three a o e f k) types g t) → IsPlaced k types g p.typed.2
third_of_three a o e f k types g t p = record { formed = p.formed; forms = p.forms; typed = p.typed.5; keeps = p.keeps.2; splits = p.splits.2; noted = p.noted.2 }

pub value_of_let : (a : At) (b : Binder) (e f : ExprTree) (types : Types) (g : Named Origin) (t : TypeTree) → (p : IsPlaced (let_in a b e f) types g t) → IsPlaced e types g p.typed.0
value_of_let a b e f types g t p = record { formed = p.formed; forms = p.forms; typed = p.typed.1; keeps = p.keeps.0; splits = p.splits.0; noted = p.noted.0 }

pub body_of_let : (a : At) (b : Binder) (e f : ExprTree) (types : Types) (g : Named Origin) (t : TypeTree) → (p : IsPlaced (let_in a b e f) types g t) → IsPlaced f ((b.sym.0, p.typed.0) ∷ types) ((b.sym.0, origin e g) ∷ g) t
body_of_let a b e f types g t p = record {
  formed = formed_bind types b.sym.0 p.typed.0 (type_formed e types p.typed.0 p.typed.1 p.formed) p.formed;
  forms = (forms_bind g types b.sym.0 (origin e g) p.typed.0 (origin_forms e g types p.typed.0 p.typed.1 p.formed p.forms) p.forms);
  typed = p.typed.3;
  keeps = p.keeps.1;
  splits = p.splits.1;
  noted = subst (λ u. AreNoted f ((b.sym.0, u) ∷ types)) (one_type e types p.noted.1.0 p.typed.0 p.noted.1.1 p.typed.1) p.noted.1.2;
}

pub start_of_loop : (a : At) (ls : LegTrees) (e : ExprTree) (b n x : Binder) (f : ExprTree) (types : Types) (g : Named Origin) (t : TypeTree) → IsPlaced (loop a ls e b n x f) types g t → IsPlaced e types g t
start_of_loop a ls e b n x f types g t p = record { formed = p.formed; forms = p.forms; typed = p.typed.4; keeps = p.keeps.1; splits = p.splits.1; noted = p.noted.1 }

pub body_of_loop : (a : At) (ls : LegTrees) (e : ExprTree) (b n x : Binder) (f : ExprTree) (types : Types) (g : Named Origin) (t : TypeTree) → (p : IsPlaced (loop a ls e b n x f) types g t) → IsPlaced f (body_types b n x t p.typed.1 types) (in_body b n x (origin e g) g) t
body_of_loop a ls e b n x f types g t p =
    let h = p.typed in
    let same_row = rows_one ls types p.noted.2.0 h.0 p.noted.2.1 h.1 p.noted.2.3 p.noted.2.4 h.2 h.3 in
    let same = one_type e types p.noted.2.2 t p.noted.2.5 h.4 in
    record {
      formed = formed_body b n x t h.1 types (type_formed e types t h.4 p.formed) (row_formed ls types h.0 h.1 h.2 h.3 p.formed) p.formed;
      forms = (forms_in_body g types b n x (origin e g) t h.1 (origin_forms e g types t h.4 p.formed p.forms) (row_free ls types h.0 h.1 h.2 h.3 p.formed) p.forms);
      typed = h.9;
      keeps = p.keeps.2;
      splits = p.splits.3;
      noted = subst (λ r. AreNoted f (body_types b n x t r types)) same_row (subst (λ u. AreNoted f (body_types b n x u p.noted.2.1 types)) same p.noted.2.6);
    }

pub state_of_iterate : (a : At) (e : ExprTree) (b : Binder) (f : ExprTree) (types : Types) (g : Named Origin) (t : TypeTree) → IsPlaced (iterate a e b f) types g t → IsPlaced e types g t
state_of_iterate a e b f types g t p = record { formed = p.formed; forms = p.forms; typed = p.typed.0; keeps = p.keeps.0; splits = p.splits.0; noted = p.noted.0 }

pub body_of_iterate : (a : At) (e : ExprTree) (b : Binder) (f : ExprTree) (types : Types) (g : Named Origin) (t : TypeTree) → IsPlaced (iterate a e b f) types g t → IsPlaced f ((b.sym.0, t) ∷ types) (in_turn b g) (pair_of t truth_type)
body_of_iterate a e b f types g t p = record {
  formed = formed_bind types b.sym.0 t (type_formed e types t p.typed.0 p.formed) p.formed;
  forms = (forms_bind _ types b.sym.0 value t p.typed.1 (forms_outside g types p.forms));
  typed = p.typed.3;
  keeps = p.keeps.1;
  splits = p.splits.1;
  noted = subst (λ u. AreNoted f ((b.sym.0, u) ∷ types)) (one_type e types p.noted.1.0 t p.noted.1.1 p.typed.0) p.noted.1.2;
}

-- ---- lists and legs

pub record ArePlaced (es : ExprTrees) (types : Types) (g : Named Origin) (us : TypeTrees) : Type 0 where
  pub formed : AreFormed types
  pub forms : NamesHaveForms g types
  pub typed : HaveTypes es types us
  pub keep : AllKeep es g
  pub split : AllSplit es g
  pub noted : AllAreNoted es types

pub parts_of_many : (a : At) (o : Many) (es : ExprTrees) (types : Types) (g : Named Origin) (t : TypeTree) → (p : IsPlaced (many a o es) types g t) → ArePlaced es types g p.typed.0
parts_of_many a o es types g t p = record { formed = p.formed; forms = p.forms; typed = p.typed.1; keep = p.keeps; split = p.splits; noted = p.noted.0 }

pub first_placed : (e : ExprTree) (es : ExprTrees) (types : Types) (g : Named Origin) (u : TypeTree) (us : TypeTrees) → ArePlaced (more_exprs e es) types g (more_types u us) → IsPlaced e types g u
first_placed e es types g u us p = record { formed = p.formed; forms = p.forms; typed = p.typed.0; keeps = p.keep.0; splits = p.split.0; noted = p.noted.0 }

pub rest_placed : (e : ExprTree) (es : ExprTrees) (types : Types) (g : Named Origin) (u : TypeTree) (us : TypeTrees) → ArePlaced (more_exprs e es) types g (more_types u us) → ArePlaced es types g us
rest_placed e es types g u us p = record { formed = p.formed; forms = p.forms; typed = p.typed.1; keep = p.keep.1; split = p.split.1; noted = p.noted.1 }

pub record LegIsPlaced (l : LegTree) (types : Types) (g : Named Origin) (u : TypeTree) : Type 0 where
  pub formed : AreFormed types
  pub forms : NamesHaveForms g types
  pub typed : LegHas l types u
  pub keeps : LegKeeps l g
  pub splits : LegSplits l g
  pub noted : LegIsNoted l types

pub whole_placed : (e : ExprTree) (types : Types) (g : Named Origin) (u : TypeTree) → LegIsPlaced (whole e) types g u → IsPlaced e types g (vec u)
whole_placed e types g u p = record { formed = p.formed; forms = p.forms; typed = p.typed; keeps = p.keeps; splits = p.splits; noted = p.noted }

pub vector_placed : (e f i j : ExprTree) (types : Types) (g : Named Origin) (u : TypeTree) → LegIsPlaced (strided e f i j) types g u → IsPlaced e types g (vec u)
vector_placed e f i j types g u p = record { formed = p.formed; forms = p.forms; typed = p.typed.0; keeps = p.keeps.0; splits = p.splits.0; noted = p.noted.0 }

pub from_placed : (e f i j : ExprTree) (types : Types) (g : Named Origin) (u : TypeTree) → LegIsPlaced (strided e f i j) types g u → IsPlaced f types g place_type
from_placed e f i j types g u p = record { formed = p.formed; forms = p.forms; typed = p.typed.1; keeps = p.keeps.1; splits = p.splits.1; noted = p.noted.1 }

pub to_placed : (e f i j : ExprTree) (types : Types) (g : Named Origin) (u : TypeTree) → LegIsPlaced (strided e f i j) types g u → IsPlaced i types g place_type
to_placed e f i j types g u p = record { formed = p.formed; forms = p.forms; typed = p.typed.2; keeps = p.keeps.2; splits = p.splits.2; noted = p.noted.2 }

pub by_placed : (e f i j : ExprTree) (types : Types) (g : Named Origin) (u : TypeTree) → LegIsPlaced (strided e f i j) types g u → IsPlaced j types g place_type
by_placed e f i j types g u p = record { formed = p.formed; forms = p.forms; typed = p.typed.3; keeps = p.keeps.3; splits = p.splits.3; noted = p.noted.3 }

pub record LegsArePlaced (ls : LegTrees) (types : Types) (g : Named Origin) (us : TypeTrees) : Type 0 where
  pub formed : AreFormed types
  pub forms : NamesHaveForms g types
  pub typed : LegsHave ls types us
  pub keep : LegsKeep ls g
  pub split : LegsSplit ls g
  pub noted : LegsAreNoted ls types

pub legs_of_loop : (a : At) (ls : LegTrees) (e : ExprTree) (b n x : Binder) (f : ExprTree) (types : Types) (g : Named Origin) (t : TypeTree) → (p : IsPlaced (loop a ls e b n x f) types g t) → LegsArePlaced ls types g p.typed.0
legs_of_loop a ls e b n x f types g t p = record { formed = p.formed; forms = p.forms; typed = p.typed.2; keep = p.keeps.0; split = p.splits.0; noted = p.noted.0 }

pub first_leg_placed : (l : LegTree) (ls : LegTrees) (types : Types) (g : Named Origin) (u : TypeTree) (us : TypeTrees) → LegsArePlaced (more_legs l ls) types g (more_types u us) → LegIsPlaced l types g u
first_leg_placed l ls types g u us p = record { formed = p.formed; forms = p.forms; typed = p.typed.0; keeps = p.keep.0; splits = p.split.0; noted = p.noted.0 }

pub rest_legs_placed : (l : LegTree) (ls : LegTrees) (types : Types) (g : Named Origin) (u : TypeTree) (us : TypeTrees) → LegsArePlaced (more_legs l ls) types g (more_types u us) → LegsArePlaced ls types g us
rest_legs_placed l ls types g u us p = record { formed = p.formed; forms = p.forms; typed = p.typed.1; keep = p.keep.1; split = p.split.1; noted = p.noted.1 }

-- Binders numbered one after another, and parameters of types of values.
use Rattle.std.proofs.Common.{◌≡◌, ℕ, zero, suc, ◌≤◌, List, [], ◌∷◌, ◌++◌, length, Some, None, IsSome, All, refl, sym, ap, subst, ◌∙◌, inl, inr, arith}
use Rattle.std.proofs.lemmas.List.Elements.{All-nil, All-cons}
use Rattle.weld_tree.specs.declared.binder.Binder.{Binder}
use Rattle.weld_tree.specs.TypeTree.{TypeTree}
use Rattle.weld_tree.specs.Types.{IsBuilderFree}
use Rattle.weld_tree.specs.ExprTree.{ExprTree}
use Rattle.weld_tree.specs.Program.{ProgramTree, IsOneOf, AreDistinct, IsScoped, IsWellMade, IsProgram, bound, syms_of}
use Rattle.weld_meaning.specs.Typing.{HasType, ParamsFit, ProgramHas, param_types}
use Rattle.weld_meaning.specs.LinearWalk.{refusal, linear_refusal}
use Rattle.weld_calls.specs.CallTypes.{AreValueTypes}
use Rattle.weld_calls.specs.CallPrograms.{new_binder, params_from}

-- so many numbers one after another
abbrev pub numbers_from : ℕ → ℕ → List ℕ
numbers_from zero n = []
numbers_from (suc c) n = n ∷ numbers_from c (suc n)

at_least : (c n s : ℕ) → IsOneOf (numbers_from c n) s → n ≤ s
at_least zero n s h = absurd h
at_least (suc c) n s (inl e) = omega (arith, e)
at_least (suc c) n s (inr h) = omega (arith, at_least c (suc n) s h)

are_apart : (c n : ℕ) → AreDistinct (numbers_from c n)
are_apart zero n = tt
are_apart (suc c) n = (λ h. omega (arith, at_least c (suc n) n h), are_apart c (suc n))

how_many : (c n : ℕ) → length (numbers_from c n) ≡ c
how_many zero n = refl
how_many (suc c) n = let h = how_many c (suc n) in omega (arith, h)

params_noted : (n : ℕ) (ts : List TypeTree) → All (λ (b : Binder). IsSome b.note) (params_from n ts)
params_noted n [] = All-nil (λ (b : Binder). IsSome b.note)
params_noted n (t ∷ ts) = All-cons (λ (b : Binder). IsSome b.note) (new_binder n (Some t)) (params_from (suc n) ts) refl (params_noted (suc n) ts)

params_fit : (n : ℕ) (ts : List TypeTree) → AreValueTypes ts → ParamsFit (params_from n ts)
params_fit n [] h = tt
params_fit n (t ∷ ts) h = ((h.0.formed, h.0.free), params_fit (suc n) ts h.1)

-- what a call's body is, on parameters of these types: with so many binders, numbered one after another
pub record IsBody (types : List TypeTree) (body : ExprTree) (t : TypeTree) (binders : ℕ) : Type 0 where
  pub names : syms_of (params_from 0 types) ++ bound body ≡ numbers_from binders 0
  pub few : binders ≤ 64
  pub scoped : IsScoped body (syms_of (params_from 0 types))
  pub made : IsWellMade body
  pub typed : HasType body (param_types (params_from 0 types)) t
  pub free : IsBuilderFree t
  pub linear : refusal body [] [] ≡ None

-- what a call's program is
pub record IsSound (p : ProgramTree) (t : TypeTree) : Type 0 where
  pub program : IsProgram p.params p.body
  pub typed : ProgramHas p t
  pub linear : linear_refusal p ≡ None
  pub few : length (syms_of p.params ++ bound p.body) ≤ 64

pub sound : (types : List TypeTree) (body : ExprTree) (t : TypeTree) (binders : ℕ) → AreValueTypes types → IsBody types body t binders
    → IsSound (record { params = params_from 0 types; body = body }) t
sound types body t binders v h =
    let count : length (syms_of (params_from 0 types) ++ bound body) ≡ binders = ap length h.names ∙ how_many binders 0 in
    record {
      program = record {
        distinct = subst AreDistinct (sym h.names) (are_apart binders 0);
        few = omega (arith, count, h.few);
        noted = params_noted 0 types;
        scoped = h.scoped;
        well_made = h.made;
      };
      typed = record { params = params_fit 0 types v; body = h.typed; builder_free = h.free };
      linear = h.linear;
      few = omega (arith, count, h.few);
    }

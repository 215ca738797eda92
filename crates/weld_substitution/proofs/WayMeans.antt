-- Where a value gives nothing, what it is put into on the way gives nothing either: it is evaluated whenever all before it is.
use Rattle.std.proofs.Common.{◌≡◌, ℕ, if◌then◌else◌, true, ◌∷◌, refl, sym, subst, inl, inr}
use Rattle.weld_tree.specs.ExprTree.{At, ExprTree, leaf, one, two, three, many, let_in, loop, iterate, ExprTrees, no_exprs, more_exprs, LegTree, whole, strided, LegTrees, no_legs, more_legs, Leaf, int, truth, chars, name, fresh, Two, binary, and, or, look_up, key_exists, merge, Three, if_else, select, slice}
use Rattle.weld_builders.specs.Outcome.{Outcome, done, fault, stuck, and_then, map_out}
use Rattle.weld_builders.specs.Part.{merge_part}
use Rattle.weld_meaning.specs.Thing.{Thing, plain, building, several, as_value}
use Rattle.weld_meaning.specs.Evaluation.{Env, value_out, merged, two_thing, three_thing, eval, eval_all, eval_leg, eval_legs}
use Rattle.weld_meaning.specs.Names.{IsFree, put_in_leaf, put, put_in_all, put_in_leg, put_in_legs, Binds, AllBind, LegBinds, LegsBind, IsClear}
use Rattle.weld_meaning.proofs.Names.{eval_free}
use Rattle.weld_substitution.specs.Uses.{is_name}
use Rattle.weld_substitution.specs.declared.put_anywhere.spot.Spot.{Spot}
use Rattle.weld_substitution.specs.declared.put_anywhere.spot.Spot.TheVariants.{Leg, Other}
use Rattle.weld_substitution.specs.Redex.{spot_below, takes_both, takes_all}
use Rattle.weld_substitution.proofs.Bindings.{agree_over}
use Rattle.weld_substitution.proofs.Way.{Way, WayAmong, WayInLeg, WayInLegs}

-- ---- outcomes that give nothing

pub record GivesNone {A : Type 0} (o : Outcome A) : Type 0 where
  pub none : (x : A) → o ≡ done x → ⊥

-- at the first step
pub then_none : {A B : Type 0} (o : Outcome A) (f : A → Outcome B) → GivesNone o → GivesNone (and_then o f)
then_none (done x) f k = absurd (k.none x refl)
then_none fault f k = record { none = λ x e. let nothing : ⊥ = cc in nothing }
then_none stuck f k = record { none = λ x e. let nothing : ⊥ = cc in nothing }

-- at the next, whatever the first gives
pub next_none : {A B : Type 0} (o : Outcome A) (f : A → Outcome B) → ((x : A) → GivesNone (f x)) → GivesNone (and_then o f)
next_none (done x) f k = k x
next_none fault f k = record { none = λ x e. let nothing : ⊥ = cc in nothing }
next_none stuck f k = record { none = λ x e. let nothing : ⊥ = cc in nothing }

pub map_none : {A B : Type 0} (f : A → B) (o : Outcome A) → GivesNone o → GivesNone (map_out f o)
map_none f (done x) k = absurd (k.none x refl)
map_none f fault k = record { none = λ x e. let nothing : ⊥ = cc in nothing }
map_none f stuck k = record { none = λ x e. let nothing : ⊥ = cc in nothing }

stuck_none : {A : Type 0} → GivesNone {A = A} stuck
stuck_none = record { none = λ x e. let nothing : ⊥ = cc in nothing }

value_none : (o : Outcome Thing) → GivesNone o → GivesNone (value_out o)
value_none o k = then_none o as_value k

merged_none : (t : Thing) (o : Outcome Thing) → GivesNone o → GivesNone (merged t o)
merged_none (plain v) o k = stuck_none
merged_none (building p) o k = then_none (value_out o) (λ v. map_out building (merge_part p v)) (value_none o k)
merged_none (several ts) o k = stuck_none

two_none : (k : Two) (t : Thing) (o : Outcome Thing) → takes_both k ≡ true → GivesNone o → GivesNone (two_thing k t o)
two_none (binary op) t o e n = map_none plain _ (next_none (as_value t) _ (λ v. then_none (value_out o) _ (value_none o n)))
two_none and t o e n = let nothing : ⊥ = cc in absurd nothing
two_none or t o e n = let nothing : ⊥ = cc in absurd nothing
two_none look_up t o e n = map_none plain _ (next_none (as_value t) _ (λ v. then_none (value_out o) _ (value_none o n)))
two_none key_exists t o e n = map_none plain _ (next_none (as_value t) _ (λ v. then_none (value_out o) _ (value_none o n)))
two_none merge t o e n = merged_none t o n

second_none : (k : Three) (t : Thing) (o r : Outcome Thing) → takes_all k ≡ true → GivesNone o → GivesNone (three_thing k t o r)
second_none if_else t o r e n = let nothing : ⊥ = cc in absurd nothing
second_none select t o r e n = map_none plain _ (next_none (as_value t) _ (λ v. then_none (value_out o) _ (value_none o n)))
second_none slice t o r e n = map_none plain _ (next_none (as_value t) _ (λ v. then_none (value_out o) _ (value_none o n)))

third_none : (k : Three) (t : Thing) (o r : Outcome Thing) → takes_all k ≡ true → GivesNone r → GivesNone (three_thing k t o r)
third_none if_else t o r e n = let nothing : ⊥ = cc in absurd nothing
third_none select t o r e n = map_none plain _ (next_none (as_value t) _ (λ v. next_none (value_out o) _ (λ w. then_none (value_out r) _ (value_none r n))))
third_none slice t o r e n = map_none plain _ (next_none (as_value t) _ (λ v. next_none (value_out o) _ (λ w. then_none (value_out r) _ (value_none r n))))

-- ---- on the way

module _ (s : ℕ) (v : ExprTree) (p : Spot) where
  over : (b : ℕ) (y : Thing) (env : Env) → IsClear s v b → GivesNone (eval v env) → GivesNone (eval v ((b, y) ∷ env))
  over b y env c n = subst (λ (o : Outcome Thing). GivesNone o) (eval_free v env ((b, y) ∷ env) (agree_over (IsFree v) b y env c.1)) n

  leaf_none : (a : At) (l : Leaf) (env : Env) → is_name l s ≡ true → GivesNone (eval v env) → GivesNone (eval (put_in_leaf s v a l) env)
  leaf_none a (int k x) env e n = let nothing : ⊥ = cc in absurd nothing
  leaf_none a (truth b) env e n = let nothing : ⊥ = cc in absurd nothing
  leaf_none a (chars bs) env e n = let nothing : ⊥ = cc in absurd nothing
  leaf_none a (name x) env e n = subst (λ b. GivesNone (eval (if b then v else leaf a (name x)) env)) (sym e) n
  leaf_none a (fresh b) env e n = let nothing : ⊥ = cc in absurd nothing

  mutual
    pub way_none : (e : ExprTree) (at : Spot) (env : Env) → Way s at p e → Binds (IsClear s v) e → GivesNone (eval v env) → GivesNone (eval (put s v e) env)
    way_none (leaf a l) at env w c n = leaf_none a l env w.0 n
    way_none (one a k e) at env w c n = then_none (eval (put s v e) env) _ (way_none e (spot_below k) env w c n)
    way_none (two a k e f) at env (inl w) c n = then_none (eval (put s v e) env) _ (way_none e Other env w.0 c.0 n)
    way_none (two a k e f) at env (inr w) c n =
        let m = way_none f Other env w.2 c.1 n in next_none (eval (put s v e) env) _ (λ t. two_none k t (eval (put s v f) env) w.1 m)
    way_none (three a k d e f) at env (inl w) c n = then_none (eval (put s v d) env) _ (way_none d Other env w.0 c.0 n)
    way_none (three a k d e f) at env (inr (inl w)) c n =
        let m = way_none e Other env w.2 c.1 n in next_none (eval (put s v d) env) _ (λ t. second_none k t (eval (put s v e) env) (eval (put s v f) env) w.1 m)
    way_none (three a k d e f) at env (inr (inr w)) c n =
        let m = way_none f Other env w.3 c.2 n in next_none (eval (put s v d) env) _ (λ t. third_none k t (eval (put s v e) env) (eval (put s v f) env) w.1 m)
    way_none (many a k es) at env w c n = then_none (eval_all (put_in_all s v es) env) _ (among_none es env w c n)
    way_none (let_in a b e f) at env (inl w) c n = then_none (eval (put s v e) env) _ (way_none e Other env w.0 c.1 n)
    way_none (let_in a b e f) at env (inr w) c n =
        next_none (eval (put s v e) env) _ (λ t. way_none f Other ((b.sym.0, t) ∷ env) w.1 c.2 (over b.sym.0 t env c.0 n))
    way_none (loop a ls e b x y f) at env (inl w) c n = then_none (eval_legs (put_in_legs s v ls) env) _ (legs_none ls env w.0 c.3 n)
    way_none (loop a ls e b x y f) at env (inr w) c n =
        let m = way_none e Other env w.1 c.4 n in
        next_none (eval_legs (put_in_legs s v ls) env) _ (λ legs. next_none _ _ (λ rows. then_none (eval (put s v e) env) _ m))
    way_none (iterate a e b f) at env w c n = then_none (value_out (eval (put s v e) env)) _ (value_none _ (way_none e Other env w.0 c.1 n))

    among_none : (es : ExprTrees) (env : Env) → WayAmong s p es → AllBind (IsClear s v) es → GivesNone (eval v env) → GivesNone (eval_all (put_in_all s v es) env)
    among_none no_exprs env w c n = absurd w
    among_none (more_exprs e es) env (inl w) c n = then_none (eval (put s v e) env) _ (way_none e Other env w.0 c.0 n)
    among_none (more_exprs e es) env (inr w) c n = let m = among_none es env w.1 c.1 n in next_none (eval (put s v e) env) _ (λ t. map_none _ _ m)

    leg_none : (l : LegTree) (env : Env) → WayInLeg s p l → LegBinds (IsClear s v) l → GivesNone (eval v env) → GivesNone (eval_leg (put_in_leg s v l) env)
    leg_none (whole e) env w c n = then_none (value_out (eval (put s v e) env)) _ (value_none _ (way_none e Leg env w c n))
    leg_none (strided e f i j) env (inl w) c n = then_none (value_out (eval (put s v e) env)) _ (value_none _ (way_none e Other env w.0 c.0 n))
    leg_none (strided e f i j) env (inr (inl w)) c n =
        let m = value_none _ (way_none f Other env w.1 c.1 n) in
        next_none (value_out (eval (put s v e) env)) _ (λ x. then_none (value_out (eval (put s v f) env)) _ m)
    leg_none (strided e f i j) env (inr (inr (inl w))) c n =
        let m = value_none _ (way_none i Other env w.2 c.2 n) in
        next_none (value_out (eval (put s v e) env)) _ (λ x. next_none (value_out (eval (put s v f) env)) _ (λ y. then_none (value_out (eval (put s v i) env)) _ m))
    leg_none (strided e f i j) env (inr (inr (inr w))) c n =
        let m = value_none _ (way_none j Other env w.3 c.3 n) in
        next_none (value_out (eval (put s v e) env)) _ (λ x. next_none (value_out (eval (put s v f) env)) _ (λ y. next_none (value_out (eval (put s v i) env)) _ (λ z. then_none (value_out (eval (put s v j) env)) _ m)))

    legs_none : (ls : LegTrees) (env : Env) → WayInLegs s p ls → LegsBind (IsClear s v) ls → GivesNone (eval v env) → GivesNone (eval_legs (put_in_legs s v ls) env)
    legs_none no_legs env w c n = absurd w
    legs_none (more_legs l ls) env (inl w) c n = then_none (eval_leg (put_in_leg s v l) env) _ (leg_none l env w.0 c.0 n)
    legs_none (more_legs l ls) env (inr w) c n = let m = legs_none ls env w.1 c.1 n in next_none (eval_leg (put_in_leg s v l) env) _ (λ t. map_none _ _ m)

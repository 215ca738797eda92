-- Merges of items.
use Rattle.std.proofs.Common.{◌≡◌, ◌∷◌, List, [], length, get_or, Result, refl, sym, ap, ◌∙◌, subst, arith}
use Rattle.weld_data.specs.declared.stop.Stop.{Stop}
use Rattle.weld_data.specs.Value.{Value}
use Rattle.weld_tree.specs.TypeTree.{TypeTree}
use Rattle.weld_blocks.specs.Structs.{IsStructForm}
use Rattle.weld_tree.specs.Types.{IsBuilder}
use Rattle.weld_tree.specs.ExprTree.{ExprTree, At, two, many, Two, binary, and, or, look_up, key_exists, merge, Many, make_vec, make_struct, no_exprs, more_exprs, pack_exprs}
use Rattle.weld_builders.specs.Outcome.{Outcome, done, fault, and_then, map_out}
use Rattle.weld_builders.specs.Part.{Part}
use Rattle.weld_meaning.specs.Thing.{Thing, plain, building, several, no_things, more_things}
use Rattle.weld_meaning.specs.ThingType.{HasThing}
use Rattle.weld_meaning.specs.Typing.{TwoHas}
use Rattle.weld_meaning.specs.Evaluation.{Env, eval, many_thing, merged}
use Rattle.weld_eval.specs.Takes.{TwoTakes, IsPlain}
use Rattle.weld_eval_forms.proofs.TwoShapes.{item_plain, item_fits, no_value_merges, no_struct_merges}
use Rattle.weld_acts.specs.Act.{act, Acts}
use Rattle.weld_acts.specs.ActFits.{ActFits}
use Rattle.weld_acts.proofs.Children.{act_gives, merge_takes}
use Rattle.weld_built.specs.Pair.{pair}
use Rattle.weld_deeds.specs.Puts.{IsPut, PutsThing, PutFits, AreTwo, IsWrittenPair}

puts_thing : (t y : Thing) → TwoTakes merge t y → PutsThing t y
puts_thing (plain w) y h = absurd (no_value_merges w y h)
puts_thing (several ts) y h = absurd (no_struct_merges ts y h)
puts_thing (building p) (plain v) h = item_fits p (plain v) v h refl
puts_thing (building p) (building q) h = absurd (item_plain (building p) (building q) h)
puts_thing (building p) (several ts) h = absurd (item_plain (building p) (several ts) h)

part_of_merge : (u v w : TypeTree) (t : Thing) → TwoHas merge u v w → HasThing t u → (p : Part) × (t ≡ building p)
part_of_merge u v w (plain x) h k = absurd (subst (HasThing (plain x)) h.1 k)
part_of_merge u v w (building p) h k = (p, refl)
part_of_merge u v w (several ts) h k = absurd (subst (HasThing (several ts)) h.1 k)

part_acts : (a : At) (e f : ExprTree) (env : Env) (s : Thing) → ActFits (two a merge e f) env s → ActFits e env s
part_acts a e f env s h = record {
  fit = record { names = h.fit.names; origins = h.fit.origins; named = h.fit.named; answer = h.fit.typed.0; typed = h.fit.typed.2; keeps = h.fit.keeps.0 };
  direct = h.direct.0;
  name = h.name;
  path = h.path;
  acts = h.acts.1;
  builder = subst (λ t. IsBuilder t) h.fit.typed.4.3 h.builder;
  has = subst (HasThing s) h.fit.typed.4.3 h.has;
}

puts_merge : (a : At) (e f : ExprTree) (env : Env) (s t : Thing) → ActFits (two a merge e f) env s → act e env s ≡ done t → PutFits f env t
unfolding part_acts
puts_merge a e f env s t h q =
    let p = part_of_merge h.fit.typed.0 h.fit.typed.1 h.fit.answer t h.fit.typed.4 (act_gives e env s t (part_acts a e f env s h) q) in record {
      part = p.0;
      is_part = p.1;
      puts = λ y r. puts_thing t y (merge_takes a merge e f env (two a merge e f) s t y refl h q r);
    }

item_puts_of : (a : At) (o : Two) (e f : ExprTree) (env : Env) (s t : Thing) → ActFits (two a o e f) env s → act e env s ≡ done t → PutFits f env t
item_puts_of a (binary op) e f env s t h q = absurd h.acts.0
item_puts_of a and e f env s t h q = absurd h.acts.0
item_puts_of a or e f env s t h q = absurd h.acts.0
item_puts_of a look_up e f env s t h q = absurd h.acts.0
item_puts_of a key_exists e f env s t h q = absurd h.acts.0
item_puts_of a merge e f env s t h q = puts_merge a e f env s t h q

pub item_puts : (a : At) (o : Two) (e f : ExprTree) (env : Env) (n : ExprTree) (s t : Thing) → n ≡ two a o e f → ActFits n env s → act e env s ≡ done t → PutFits f env t
item_puts a o e f env n s t is h q = item_puts_of a o e f env s t (subst (λ m. ActFits m env s) is h) q

pub put_is : {T : Type 0} (r : Result T Stop) (e : ExprTree) (env : Env) (s t y : Thing) → eval e env ≡ done y → Acts r (merged s (done y)) t → Acts r (merged s (eval e env)) t
put_is r e env s t y q h = subst (λ (o : Outcome Thing). Acts r (merged s o) t) (sym q) h

merged_fault : (p : Part) → merged (building p) fault ≡ fault
merged_fault p = refl

pub put_fault : (e : ExprTree) (env : Env) (s : Thing) → PutFits e env s → eval e env ≡ fault → merged s (eval e env) ≡ fault
put_fault e env s h q = ap (merged s) q ∙ ap (λ x. merged x fault) h.is_part

pub put_number_item : (e : ExprTree) (env : Env) (s : Thing) (v : Value) → PutFits e env s → eval e env ≡ done (plain v) → IsPut s v
put_number_item e env s v h q = h.puts (plain v) q

puts_plain : (s y : Thing) → PutsThing s y → IsPlain y
puts_plain s (plain v) h = tt
puts_plain s (building p) h = absurd h
puts_plain s (several ts) h = absurd h

pub put_thing : (e : ExprTree) (env : Env) (s y : Thing) → PutFits e env s → eval e env ≡ done y → PutsThing s y
put_thing e env s y h q = h.puts y q

pub put_plain : (e : ExprTree) (env : Env) (s y : Thing) → PutFits e env s → eval e env ≡ done y → IsPlain y
put_plain e env s y h q = puts_plain s y (h.puts y q)

pub put_of_plain : (s y : Thing) (v : Value) → PutsThing s y → y ≡ plain v → IsPut s v
put_of_plain s y v h same = subst (PutsThing s) same h

two_parts : (es : List ExprTree) → AreTwo (pack_exprs es) → (k : ExprTree) × (v : ExprTree) × (es ≡ k ∷ v ∷ [])
two_parts [] h = absurd h
two_parts (e ∷ []) h = absurd h
two_parts (e ∷ f ∷ []) h = (e, f, refl)
two_parts (e ∷ f ∷ g ∷ es) h = absurd h

pub written : (a : At) (o : Many) (es : List ExprTree) (n : ExprTree) → n ≡ many a o (pack_exprs es) → IsWrittenPair n → IsStructForm o × AreTwo (pack_exprs es)
written a o es n is h = subst (λ m. IsWrittenPair m) is h

pub written_length : (a : At) (o : Many) (es : List ExprTree) (n : ExprTree) → n ≡ many a o (pack_exprs es) → IsWrittenPair n → length es ≡ 2
written_length a o es n is h = let t = two_parts es (written a o es n is h).1 in ap (λ (l : List ExprTree). length l) t.2

pub pair_value : (a : At) (k v : ExprTree) (env : Env) (x y : Value) → eval k env ≡ done (plain x) → eval v env ≡ done (plain y) → eval (many a make_struct (more_exprs k (more_exprs v no_exprs))) env ≡ done (plain (pair x y))
pair_value a k v env x y p q =
    ap (λ o. and_then (and_then o (λ t. map_out (more_things t) (and_then (eval v env) (λ u. map_out (more_things u) (done no_things))))) (many_thing make_struct)) p
    ∙ ap (λ o. and_then (map_out (more_things (plain x)) (and_then o (λ u. map_out (more_things u) (done no_things)))) (many_thing make_struct)) q

pub as_pair : (a : At) (o : Many) (es : List ExprTree) (n : ExprTree) → n ≡ many a o (pack_exprs es) → IsWrittenPair n → (k : ExprTree) × (v : ExprTree) × (es ≡ k ∷ v ∷ []) × (n ≡ many a make_struct (more_exprs k (more_exprs v no_exprs)))
as_pair a make_vec es n is h = absurd (written a make_vec es n is h).0
as_pair a make_struct es n is h =
    let t = two_parts es (written a make_struct es n is h).1 in
    (t.0, t.1, t.2, is ∙ ap (λ (l : List ExprTree). many a make_struct (pack_exprs l)) t.2)

pub key_is : (es : List ExprTree) (k v e : ExprTree) → es ≡ k ∷ v ∷ [] → e ≡ get_or es 0 e → e ≡ k
key_is es k v e same at = at ∙ ap (λ (l : List ExprTree). get_or l 0 e) same

pub item_is : (es : List ExprTree) (k v e : ExprTree) → es ≡ k ∷ v ∷ [] → e ≡ get_or es 1 e → e ≡ v
item_is es k v e same at = at ∙ ap (λ (l : List ExprTree). get_or l 1 e) same

pub pair_is : (a : At) (o : Many) (es : List ExprTree) (env : Env) (n e f : ExprTree) (x y : Value) → n ≡ many a o (pack_exprs es) → IsWrittenPair n → e ≡ get_or es 0 e → f ≡ get_or es 1 f
    → eval e env ≡ done (plain x) → eval f env ≡ done (plain y) → eval n env ≡ done (plain (pair x y))
pair_is a o es env n e f x y is form at also q r =
    let p = as_pair a o es n is form in
    ap (λ m. eval m env) p.3
    ∙ pair_value a p.0 p.1 env x y (ap (λ m. eval m env) (sym (key_is es p.0 p.1 e p.2 at)) ∙ q) (ap (λ m. eval m env) (sym (item_is es p.0 p.1 f p.2 also)) ∙ r)

two_of : (es : List ExprTree) → length es ≡ 2 → AreTwo (pack_exprs es)
two_of [] h = absurd (omega arith)
two_of (e ∷ []) h = absurd (omega arith)
two_of (e ∷ f ∷ []) h = tt
two_of (e ∷ f ∷ g ∷ es) h = absurd (omega arith)

pub is_written : (a : At) (es : List ExprTree) (n : ExprTree) → n ≡ many a make_struct (pack_exprs es) → length es ≡ 2 → IsWrittenPair n
is_written a es n is h = subst (λ m. IsWrittenPair m) (sym is) (tt, two_of es h)

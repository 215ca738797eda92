-- Over the list of whole rows the consumer comes to what it came to over the `zip`.
use Rattle.std.proofs.Common.{◌≡◌, ℕ, suc, true, List, [], ◌∷◌, Some, refl, ap, sym, subst, ◌∙◌, eq-eqb, ne_eqb}
use Rattle.weld_data.specs.Value.{Value, struct as struct_value, Values, and_value}
use Rattle.weld_tree.specs.TypeTree.{TypeTree, TypeTrees, vec, build, list}
use Rattle.weld_tree.specs.declared.known.Known.TheVariants.{Is}
use Rattle.weld_tree.specs.ExprTree.{whole}
use Rattle.weld_tree.specs.HasValue.{HasValue, HaveValues}
use Rattle.weld_builders.specs.Outcome.{Outcome, done, and_then, map_out}
use Rattle.weld_builders.specs.Part.{list_part}
use Rattle.weld_meaning.specs.Environment.{Named, look_for}
use Rattle.weld_meaning.specs.Thing.{Thing, plain, building}
use Rattle.weld_meaning.specs.ThingType.{EnvFits}
use Rattle.weld_meaning.specs.Typing.{Types}
use Rattle.weld_meaning.specs.Evaluation.{Env, whole_number, with_row, rows_of, number_from, run, eval, eval_leg, eval_legs}
use Rattle.weld_meaning.specs.Origin.{Origin}
use Rattle.weld_meaning.specs.Names.{answer_of}
use Rattle.weld_meaning.proofs.Names.{same_answers}
use Rattle.weld_meaning.proofs.Putting.{put_means}
use Rattle.weld_meaning.proofs.PartsGood.{KeyLaws}
use Rattle.weld_meaning.proofs.NeverStuck.{Of, never_stuck}
use Rattle.weld_rewriting.specs.Placed.{IsPlaced}
use Rattle.weld_substitution.specs.Uses.{uses}
use Rattle.weld_vertical.specs.Sinking.{at_of, ends_in_merge}
use Rattle.weld_vertical.proofs.Handing.{then_then, one_leg}
use Rattle.weld_horizontal.specs.Twice.{node_of, items, count, bare}
use Rattle.weld_horizontal.proofs.RowItems.{row_of}
use Rattle.weld_vertical_zip.specs.Zipping.{all_items, whole_row}
use Rattle.weld_vertical_zip.proofs.Merging.{row_value, row_appends}
use Rattle.weld_vertical_zip.proofs.Gathering.{map_map, same_then, gather, values_behind, as_row, on_fields, on_fields_at}
use Rattle.weld_vertical_zip.proofs.MadeRows.{among, Apiece, apiece, stands, part_gives_so}
use Rattle.weld_vertical_zip.proofs.Widening.{round, wide_gives}
use Rattle.weld_vertical_zip.proofs.Producing.{at_row, leg_gathers, same_gives}
use Rattle.weld_vertical_zip.proofs.Splice.{Splice, Simple, places, produced, old_legs, pattern, row, body, wide, all_legs, rows_list, answer, body_ends, body_once, counted, wide_apart, Tidily}
use Rattle.weld_vertical_zip.proofs.LegsJoined.{same_rows as legs_joined}
use Rattle.weld_vertical_zip.proofs.SplicePlaced.{row_several, found_first, Known, several_all, answer_placed}

module _ (c : Splice) (simple : Simple c) (w : Tidily c) (laws : KeyLaws) (types : Types) (around : Named Origin) (t : TypeTree) (q : IsPlaced (pattern c) types around t) (k : Known c types around t q) (env : Env) (fit : EnvFits types env) where
  abbrev all : TypeTrees
  all = all_items (places c)

  -- what the producer's body gives on a row, and what the body that makes whole rows gives
  abbrev own_gives : ℕ → Value → Outcome Value
  own_gives n v = row_value c.g (at_row c.m c.p c.o c.item c.ks c.d c.i c.r c.g simple.ends simple.once w.number_other w.row_other w.apart env n v)

  wide_ends : ends_in_merge c.d.sym.0 (wide c) ≡ true
  wide_ends = (counted c simple w.row_other).ends

  wide_once : uses (wide c) c.d.sym.0 ≡ 1
  wide_once = (counted c simple w.row_other).use_count ∙ body_once c simple w.row_other

  -- the names in the body on a row over all legs
  abbrev in_row : ℕ → Value → Env
  in_row n v = with_row c.d c.i c.r (building (list_part [])) (plain (whole_number n)) (plain v) env

  abbrev rows_give : ℕ → Value → Outcome Value
  rows_give n v = row_value (wide c) (in_row n v)

  old_gathers : eval_leg (whole (produced c)) env ≡ and_then (eval_legs c.ks env) (λ l. and_then (rows_of l) (gather own_gives 0))
  old_gathers = leg_gathers c.m c.p c.o c.item c.ks c.d c.i c.r c.g simple.ends simple.once w.number_other w.row_other w.apart env

  new_gathers : eval_leg (whole (rows_list c)) env ≡ and_then (eval_legs (all_legs c) env) (λ l. and_then (rows_of l) (gather rows_give 0))
  new_gathers =
      leg_gathers (node_of c.a.place (vec (whole_row (places c))))
      (at_of c.p (Is (build (list (whole_row (places c))))))
      (node_of c.a.place (build (list (whole_row (places c))))) (whole_row (places c)) (all_legs c) (bare c.d) c.i (bare c.r) (wide c) wide_ends wide_once
      w.number_other w.row_other (wide_apart c simple w) env

  -- ---- on a row

  builder_there : (n : ℕ) (v : Value) → look_for c.d.sym.0 (in_row n v) ≡ Some (building (list_part []))
  builder_there n v = rw (ne_eqb c.d.sym.0 c.r.sym.0 w.row_other) (rw (ne_eqb c.d.sym.0 c.i.sym.0 w.number_other) (rw (eq-eqb c.d.sym.0 c.d.sym.0 refl) refl))

  fits_row : (fs : Values) → HaveValues all fs → HasValue (row_of all) (struct_value fs)
  fits_row fs h = subst (λ u. HasValue u (struct_value fs)) (sym (row_several all (several_all c types around t q k))) h

  -- with the producer's row put, the body gives what it gave on that
  body_gives : (n : ℕ) (fs : Values) (a : Apiece (places c) fs) (j : ℕ) → HaveValues all fs → suc j ≡ count (items c.ks) → row_value (body c) (in_row n (struct_value fs)) ≡ own_gives n (as_row j a.within)
  body_gives n fs a j h e =
      same_gives (row_value (body c) now) (own_gives n (as_row j a.within))
      (sym (row_appends c.d.sym.0 (body c) (body_ends c simple w.row_other) (body_once c simple w.row_other) w.body_apart now [] (builder_there n (struct_value fs)))
      ∙ put_means c.g c.r.sym.0 (row c) (plain (as_row j a.within)) now before w.clear
      (record {
        others = λ s ne. rw (ne_eqb s c.r.sym.0 (λ p. ne (sym p))) refl;
        there = found_first c.r.sym.0 (plain (as_row j a.within)) ((c.i.sym.0, plain (whole_number n)) ∷ (c.d.sym.0, building (list_part [])) ∷ env);
        comes_to = gives;
      })
      ∙ row_appends c.d.sym.0 c.g simple.ends simple.once w.apart before [] (builder_there n (as_row j a.within)))
    where
      now : Env
      now = in_row n (struct_value fs)

      before : Env
      before = in_row n (as_row j a.within)

      gives : eval (row c) (in_row n (struct_value fs)) ≡ done (plain (as_row j a.within))
      gives =
          part_gives_so c.a.place c.r.sym.0 all (count (items c.bs)) (items c.ks) j a.within (in_row n (struct_value fs)) (struct_value fs) e
          (found_first c.r.sym.0 (plain (struct_value fs)) ((c.i.sym.0, plain (whole_number n)) ∷ (c.d.sym.0, building (list_part [])) ∷ env)) (fits_row fs h) (among (places c)).within a.within_fit
          (stands c.a.place c.r.sym.0 (places c) fs a (several_all c types around t q k)).within

  rows_give_so : (j : ℕ) (n : ℕ) (fs : Values) → suc j ≡ count (items c.ks) → HaveValues all fs → rows_give n (struct_value fs) ≡ map_out struct_value (on_fields (count (items c.bs)) (count (items c.ks)) (λ m gs. own_gives m (as_row j gs)) n fs)
  rows_give_so j n fs e h = by (apiece (places c) fs h)
    where
      by : Apiece (places c) fs → rows_give n (struct_value fs) ≡ map_out struct_value (on_fields (count (items c.bs)) (count (items c.ks)) (λ m gs. own_gives m (as_row j gs)) n fs)
      by a =
          wide_gives c.a.place c.d.sym.0 c.r.sym.0 (places c) fs a (fits_row fs h) (several_all c types around t q k) (body c) (body_ends c simple w.row_other) (body_once c simple w.row_other) w.body_clear
          (in_row n (struct_value fs)) (found_first c.r.sym.0 (plain (struct_value fs)) ((c.i.sym.0, plain (whole_number n)) ∷ (c.d.sym.0, building (list_part [])) ∷ env))
          ∙ ap (map_out (round c.a.place c.d.sym.0 c.r.sym.0 (places c) fs a (fits_row fs h) (several_all c types around t q k))) (body_gives n fs a j h e)
          ∙ sym (map_map struct_value (λ v. values_behind a.before (and_value v a.after)) (own_gives n (as_row j a.within)))
          ∙ ap (map_out struct_value) (sym (on_fields_at (items c.bs) (items c.ks) (λ m gs. own_gives m (as_row j gs)) n a.before a.within a.after a.before_fit a.within_fit))
          ∙ ap (λ gs. map_out struct_value (on_fields (count (items c.bs)) (count (items c.ks)) (λ m gs. own_gives m (as_row j gs)) n gs)) (sym a.are)

  -- ---- over all legs

  same_rows : answer_of (eval_leg (whole (rows_list c)) env) ≡ answer_of (and_then (eval_legs (old_legs c) env) rows_of)
  same_rows = ap answer_of new_gathers ∙ legs_joined c laws types around t q k env fit own_gives rows_give old_gathers rows_give_so

  -- ---- the loop

  abbrev consumed : List Value → Outcome Thing
  consumed rows = and_then (eval c.e env) (λ s. run (number_from 0 rows) s (λ y u. eval c.f (with_row c.b c.n c.x u (plain (whole_number y.0)) (plain y.1) env)))

  same_answer : answer_of (eval (answer c) env) ≡ answer_of (eval (pattern c) env)
  same_answer =
      ap answer_of (one_leg (eval_leg (whole (rows_list c)) env) (λ l. and_then (rows_of l) consumed))
      ∙ same_then (eval_leg (whole (rows_list c)) env) (and_then (eval_legs (old_legs c) env) rows_of) consumed same_rows
      ∙ ap answer_of (then_then (eval_legs (old_legs c) env) rows_of consumed)

  pub answer_means : eval (answer c) env ≡ eval (pattern c) env
  answer_means =
      same_answers (Of t) (Of t) (eval (answer c) env) (eval (pattern c) env) (never_stuck laws (answer c) types t env (answer_placed c types around t q k simple w).typed q.formed fit).fits
      (never_stuck laws (pattern c) types t env q.typed q.formed fit).fits same_answer

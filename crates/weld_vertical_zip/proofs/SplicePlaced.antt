-- The loop over the list of whole rows stands where the loop over the `zip` stood.
use Rattle.std.proofs.Common.{◌≡◌, ℕ, ◌≤◌, Bool, true, false, ◌||◌, ◌∷◌, Some, refl, ap, sym, subst, ◌∙◌, eq-eqb, ne_eqb, arith}
use Rattle.weld_tree.specs.TypeTree.{TypeTree, TypeTrees, BuildTree, vec, struct, build, list, no_types, more_types}
use Rattle.weld_tree.specs.Types.{IsBuilderFree, AreBuilderFree, HasTypes, IsWellFormed, gives}
use Rattle.weld_tree.specs.ExprTree.{no_legs, more_legs, whole, finish}
use Rattle.weld_meaning.specs.Environment.{Named, look_for}
use Rattle.weld_meaning.specs.Typing.{Types, AreFormed, NoteFits, place_type, HasType, LegsHave, RowHas, body_types}
use Rattle.weld_meaning.specs.Origin.{Path, Origin, value, made, known_origin, origin_of_name, own_paths, outside, in_body}
use Rattle.weld_meaning.specs.Linear.{LegsKeep}
use Rattle.weld_meaning.specs.Available.{Taken, Apart, takes, leg_takes, legs_take, LegsSplit}
use Rattle.weld_meaning.specs.Names.{IsFree}
use Rattle.weld_meaning.specs.Forms.{HasForm, NamesHaveForms}
use Rattle.weld_meaning.proofs.OriginTypes.{forms_in_body}
use Rattle.weld_meaning.proofs.WellFormed.{formed_body, row_formed, legs_formed}
use Rattle.weld_check_types.specs.Notes.{AreNoted, LegsAreNoted}
use Rattle.weld_rewriting.specs.Placed.{IsPlaced}
use Rattle.weld_rewriting.proofs.Parts.{row_free, noted_at, part_of_one, body_of_loop}
use Rattle.weld_substitution.proofs.Bindings.{Binding}
use Rattle.weld_substitution.proofs.PutTypes.{type_put, noted_put}
use Rattle.weld_substitution.proofs.Values.{IsIdle, Still, from_still}
use Rattle.weld_substitution.proofs.ValueRules.{still_taken, still_keeps, still_splits}
use Rattle.weld_horizontal.specs.Twice.{items, count, bare}
use Rattle.weld_horizontal.proofs.RowItems.{row_of}
use Rattle.weld_horizontal.proofs.RowHolds.{IdleAt}
use Rattle.weld_horizontal.proofs.TwiceRule.{items_are, row_is}
use Rattle.weld_vertical_zip.specs.Zipping.{legs_behind, types_behind, all_items, whole_row}
use Rattle.weld_vertical_zip.proofs.ZippingSplicing.{types_apart, types_together, first_type, count_together, keep_apart, keep_together, noted_apart, noted_together, taken_together, split_apart, split_together}
use Rattle.weld_vertical_zip.proofs.MadeRows.{among, part_typed, part_noted, part_idle, part_named}
use Rattle.weld_vertical_zip.proofs.Widening.{Related, Widened, widens_all}
use Rattle.weld_vertical_zip.proofs.Splice.{Splice, Simple, places, empty, producer, produced, old_legs, pattern, row, body, all_legs, rows_producer, rows_list, answer, row_small, body_ends, body_once, Tidily}

-- ---- types

pub same_item : (u w item : TypeTree) (b : BuildTree) → w ≡ build b → vec u ≡ gives b → w ≡ build (list item) → u ≡ item
same_item u w item b e h k =
    let same : b ≡ list item = let it : build b ≡ build (list item) = sym e ∙ k in cc in
    let same_list : vec u ≡ vec item = h ∙ ap gives same in cc

pub row_only : (us : TypeTrees) (r : TypeTree) → RowHas us r → r ≡ row_of us
row_only no_types r h = absurd h
row_only (more_types u no_types) r h = h
row_only (more_types u (more_types v us)) r h = h

has_some : (us : TypeTrees) (r : TypeTree) → RowHas us r → HasTypes us
has_some no_types r h = absurd h
has_some (more_types u us) r h = tt

pub row_several : (us : TypeTrees) → 2 ≤ count us → row_of us ≡ struct us
row_several no_types h = absurd (omega (arith, h))
row_several (more_types u no_types) h = absurd (omega (arith, h))
row_several (more_types u (more_types v us)) h = refl

pub some_several : (us : TypeTrees) → 2 ≤ count us → HasTypes us
some_several no_types h = absurd (omega (arith, h))
some_several (more_types u us) h = tt

pub found_first : {A : Type 0} (s : ℕ) (y : A) (g : Named A) → look_for s ((s, y) ∷ g) ≡ Some y
found_first s y g = rw (eq-eqb s s refl) refl

pub binding_over : {A : Type 0} (s : ℕ) (y z : A) (g : Named A) → Binding s y ((s, z) ∷ g) ((s, y) ∷ g)
binding_over s y z g = record { others = λ t ne. rw (ne_eqb t s ne) refl; there = rw (eq-eqb s s refl) refl }

pub or_none : (b : Bool) → (b || false) ≡ b
or_none true = refl
or_none false = refl

module _ (c : Splice) where
  -- what is known in the place of the pattern
  pub record Known (types : Types) (around : Named Origin) (t : TypeTree) (q : IsPlaced (pattern c) types around t) : Type 0 where
    pub item_formed : IsWellFormed c.item
    pub item_free : IsBuilderFree c.item
    pub before_have : LegsHave c.bs types (items c.bs)
    pub within_have : LegsHave c.ks types (items c.ks)
    pub after_have : LegsHave c.zs types (items c.zs)
    pub before_noted : LegsAreNoted c.bs types
    pub after_noted : LegsAreNoted c.zs types
    pub before_keep : LegsKeep c.bs around
    pub after_keep : LegsKeep c.zs around
    pub before_split : LegsSplit c.bs around
    pub after_split : LegsSplit c.zs around
    pub before_apart : Apart (legs_take c.bs around) (legs_take (more_legs (whole (produced c)) c.zs) around)
    pub after_apart : Apart (leg_takes (whole (produced c)) around) (legs_take c.zs around)
    pub row_is : q.typed.1 ≡ whole_row (places c)
    pub producer : IsPlaced (producer c) types around (build (list c.item))
    pub own_row_is : producer.typed.1 ≡ row_of (items c.ks)
    pub some : HasTypes (items c.ks)

  several_whole : 2 ≤ count (types_behind (items c.bs) (more_types c.item (items c.zs)))
  several_whole = omega (arith, c.several, count_together (items c.bs) (more_types c.item (items c.zs)))

  pub known : (types : Types) (around : Named Origin) (t : TypeTree) (q : IsPlaced (pattern c) types around t) → Known types around t q
  known types around t q =
      let rest = more_legs (whole (produced c)) c.zs in
      let ty = types_apart c.bs rest types q.typed.0 q.typed.2 in
      let first = first_type (whole (produced c)) c.zs types ty.1 ty.4 in
      let keep = keep_apart c.bs rest around q.keeps.0 in
      let noted = noted_apart c.bs rest types q.noted.0 in
      let split = split_apart c.bs rest around q.splits.0 in
      let list_placed : IsPlaced (produced c) types around (vec first.0) = record { formed = q.formed; forms = q.forms; typed = first.3; keeps = keep.1.0; splits = split.1.0; noted = noted.1.0 } in
      let w = part_of_one c.m finish (producer c) types around (vec first.0) list_placed in
      let is = w.typed.4 in
      let made_so : IsPlaced (producer c) types around (build (list c.item)) = subst (IsPlaced (producer c) types around) is.2 w in
      let before_are = items_are c.bs types ty.0 ty.3 noted.0 in
      let after_are = items_are c.zs types first.1 first.4 noted.1.1 in
      let within_are = items_are c.ks types made_so.typed.0 made_so.typed.2 made_so.noted.0 in
      let item_is = same_item first.0 first.3.0 c.item first.3.2.0 first.3.2.1 first.3.2.2 is.2 in
      let all_are : q.typed.0 ≡ types_behind (items c.bs) (more_types c.item (items c.zs)) = ty.2 ∙ ap (types_behind ty.0) first.2 ∙ (λ j. types_behind (sym before_are j) (more_types (item_is j) (sym after_are j))) in
      record {
        item_formed = is.1.0;
        item_free = is.1.1;
        before_have = subst (LegsHave c.bs types) (sym before_are) ty.3;
        within_have = subst (LegsHave c.ks types) (sym within_are) made_so.typed.2;
        after_have = subst (LegsHave c.zs types) (sym after_are) first.4;
        before_noted = noted.0;
        after_noted = noted.1.1;
        before_keep = keep.0;
        after_keep = keep.1.1;
        before_split = split.0;
        after_split = split.1.1;
        before_apart = split.2;
        after_apart = split.1.2;
        row_is = row_only _ q.typed.1 (subst (λ us. RowHas us q.typed.1) all_are q.typed.3) ∙ row_several _ several_whole;
        producer = made_so;
        own_row_is = row_only (items c.ks) made_so.typed.1 (subst (λ us. RowHas us made_so.typed.1) (sym within_are) made_so.typed.3);
        some = has_some (items c.ks) made_so.typed.1 (subst (λ us. RowHas us made_so.typed.1) (sym within_are) made_so.typed.3);
      }

  -- ---- all legs

  module _ (types : Types) (around : Named Origin) (t : TypeTree) (q : IsPlaced (pattern c) types around t) (k : Known types around t q) where
    abbrev pub all : TypeTrees
    all = all_items (places c)

    pub several_all : 2 ≤ count all
    several_all =
        omega (
          arith,
          c.several,
          count_together (items c.bs) (types_behind (items c.ks) (items c.zs)),
          count_together (items c.ks) (items c.zs),
          some_count (items c.ks) k.some,
        )
      where
        some_count : (us : TypeTrees) → HasTypes us → 1 ≤ count us
        some_count no_types h = absurd h
        some_count (more_types u us) h = omega arith

    pub all_have : LegsHave (all_legs c) types all
    all_have = types_together c.bs (legs_behind c.ks c.zs) types (items c.bs) _ k.before_have (types_together c.ks c.zs types (items c.ks) (items c.zs) k.within_have k.after_have)

    pub row_has : RowHas all (row_of all)
    row_has = row_is all (some_several all several_all)

    own_takes : (s : ℕ) (y : Path) → leg_takes (whole (produced c)) around s y ≡ legs_take c.ks around s y
    own_takes s y = or_none (legs_take c.ks around s y)

    pub all_taken : (s : ℕ) (y : Path) → legs_take (all_legs c) around s y ≡ legs_take (old_legs c) around s y
    all_taken s y =
        taken_together c.bs (legs_behind c.ks c.zs) around s y
        ∙ ap (λ b. legs_take c.bs around s y || b) (taken_together c.ks c.zs around s y ∙ ap (λ b. b || legs_take c.zs around s y) (sym (own_takes s y)))
        ∙ sym (taken_together c.bs (more_legs (whole (produced c)) c.zs) around s y)

    pub all_split : LegsSplit (all_legs c) around
    all_split =
        split_together c.bs (legs_behind c.ks c.zs) around k.before_split
        (split_together c.ks c.zs around k.producer.splits.0 k.after_split (record { apart = λ s y u v. k.after_apart.apart s y (own_takes s y ∙ u) v }))
        (record {
          apart = λ s y u v.
              k.before_apart.apart s y u (ap (λ b. b || legs_take c.zs around s y) (own_takes s y) ∙ sym (taken_together c.ks c.zs around s y) ∙ v);
        })

    -- ---- the producer's body

    abbrev own_names : Types
    own_names = body_types c.d c.i c.r (build (list c.item)) k.producer.typed.1 types

    abbrev pub row_names : TypeTree → Types
    row_names u = body_types (bare c.d) c.i (bare c.r) u (row_of all) types

    abbrev pub inside : Named Origin
    inside = in_body c.d c.i c.r made around

    pub row_there : (u : TypeTree) → look_for c.r.sym.0 (row_names u) ≡ Some (row_of all)
    row_there u = found_first c.r.sym.0 (row_of all) ((c.i.sym.0, place_type) ∷ (c.d.sym.0, u) ∷ types)

    pub within_free : AreBuilderFree (items c.ks)
    within_free = (legs_formed c.ks types (items c.ks) k.within_have q.formed).1

    pub row_typed : (u : TypeTree) → HasType (row c) (row_names u) k.producer.typed.1
    row_typed u =
        subst (HasType (row c) (row_names u)) (sym k.own_row_is)
        (part_typed c.a.place c.r.sym.0 all (count (items c.bs)) (items c.ks) (row_names u) (row_there u) (among (places c)).within k.some within_free)

    pub row_idle : IsIdle (row c)
    row_idle = record {
      from = λ h j. (idle h (j.idle c.r.sym.0 named)).from;
      none = λ h j. (idle h (j.idle c.r.sym.0 named)).none;
      keeps = λ h j. (idle h (j.idle c.r.sym.0 named)).keeps;
      splits = λ h j. (idle h (j.idle c.r.sym.0 named)).splits;
    }
      where
        idle : (h : Named Origin) → origin_of_name c.r.sym.0 h ≡ value → IdleAt c.a.place c.r.sym.0 (row c) h
        idle h e = part_idle c.a.place c.r.sym.0 all (count (items c.bs)) (items c.ks) h e

        named : IsFree (row c) c.r.sym.0
        named = part_named c.a.place c.r.sym.0 all (count (items c.bs)) (items c.ks) k.some

    pub still : Still c.r.sym.0 (row c) inside inside
    still = record {
      binding = record { others = λ s ne. refl; there = there };
      idle = record { idle = λ s f. subst (λ u. origin_of_name u inside ≡ value) (sym ((row_small c).names s f)) (ap known_origin there) };
    }
      where
        there : look_for c.r.sym.0 inside ≡ Some value
        there = found_first c.r.sym.0 value ((c.i.sym.0, value) ∷ (c.d.sym.0, own_paths made) ∷ outside around)

    pub wide_formed : (u : TypeTree) → IsWellFormed u → AreFormed (row_names u)
    wide_formed u w = formed_body (bare c.d) c.i (bare c.r) u (row_of all) types w (row_formed (all_legs c) types all (row_of all) all_have row_has q.formed) q.formed

    pub wide_forms : (b : BuildTree) → NamesHaveForms inside (row_names (build b))
    wide_forms b =
        (forms_in_body around types (bare c.d) c.i (bare c.r) made (build b) (row_of all) made_form (row_free (all_legs c) types all (row_of all) all_have row_has q.formed) q.forms)
      where
        made_form : HasForm made (build b)
        made_form = tt

    pub body_placed : Tidily c → IsPlaced (body c) (row_names (build (list c.item))) inside (build (list c.item))
    body_placed w =
        let own = body_of_loop c.p c.ks (empty c) c.d c.i c.r c.g types around (build (list c.item)) k.producer in
        let now = row_names (build (list c.item)) in
        let over = binding_over c.r.sym.0 k.producer.typed.1 (row_of all) ((c.i.sym.0, place_type) ∷ (c.d.sym.0, build (list c.item)) ∷ types) in
        record {
          formed = wide_formed (build (list c.item)) (k.item_formed, k.item_free);
          forms = wide_forms (list c.item);
          typed = type_put c.g c.r.sym.0 (row c) k.producer.typed.1 now own_names (build (list c.item)) w.clear over (row_typed (build (list c.item))) own.typed;
          keeps = still_keeps c.r.sym.0 (row c) row_idle c.g inside inside w.clear still own.keeps;
          splits = still_splits c.r.sym.0 (row c) row_idle c.g inside inside w.clear still own.splits;
          noted = noted_put c.g c.r.sym.0 (row c) k.producer.typed.1 now own_names w.clear over (row_typed (build (list c.item)))
              (part_noted c.a.place c.r.sym.0 all (count (items c.bs)) (items c.ks) now (row_there (build (list c.item))) (among (places c)).within k.some within_free) own.noted;
        }

    abbrev rows_type : TypeTree
    rows_type = build (list (whole_row (places c)))

    whole_formed : IsWellFormed (whole_row (places c))
    whole_formed = subst IsWellFormed k.row_is (row_formed (old_legs c) types q.typed.0 q.typed.1 q.typed.2 q.typed.3 q.formed)

    whole_free : IsBuilderFree (whole_row (places c))
    whole_free = subst IsBuilderFree k.row_is (row_free (old_legs c) types q.typed.0 q.typed.1 q.typed.2 q.typed.3 q.formed)

    pub wide_there : Simple c → Tidily c → Widened c.a.place c.d.sym.0 c.r.sym.0 (places c) (row_names rows_type) inside (body c)
    wide_there simple w =
        widens_all c.a.place c.d.sym.0 c.r.sym.0 (places c)
        (record {
          item_formed = k.item_formed;
          item_free = k.item_free;
          before_free = (legs_formed c.bs types (items c.bs) k.before_have q.formed).1;
          after_free = (legs_formed c.zs types (items c.zs) k.after_have q.formed).1;
        })
        (body c) (body_ends c simple w.row_other) (body_once c simple w.row_other) (row_names (build (list c.item))) (row_names rows_type) inside w.body_clear related (body_placed w)
      where
        related : Related c.a.place c.d.sym.0 c.r.sym.0 (places c) (row_names (build (list c.item))) (row_names rows_type) inside
        related = record {
          types = record { agree = λ s ne. rw (ne_eqb s c.d.sym.0 ne) refl };
          builder_type = rw (ne_eqb c.d.sym.0 c.r.sym.0 w.row_other) (rw (ne_eqb c.d.sym.0 c.i.sym.0 w.number_other) (rw (eq-eqb c.d.sym.0 c.d.sym.0 refl) refl));
          row_type = row_there rows_type;
          row_origin = ap known_origin (found_first c.r.sym.0 value ((c.i.sym.0, value) ∷ (c.d.sym.0, own_paths made) ∷ outside around));
          formed = wide_formed rows_type (whole_formed, whole_free);
          forms = wide_forms (list (whole_row (places c)));
        }

    -- ---- the loop

    producer_typed : Simple c → Tidily c → HasType (rows_producer c) types rows_type
    producer_typed simple w =
        (all, row_of all, all_have, row_has, (tt, (whole_formed, whole_free), refl), tt, tt, k.producer.typed.7, tt, (wide_there simple w).placed.typed)

    list_typed : Simple c → Tidily c → HasType (rows_list c) types (vec (whole_row (places c)))
    list_typed simple w = (rows_type, producer_typed simple w, (list (whole_row (places c)), refl, refl))

    answer_typed : Simple c → Tidily c → HasType (answer c) types t
    answer_typed simple w = (
      more_types (whole_row (places c)) no_types,
      whole_row (places c),
      (list_typed simple w, tt),
      refl,
      q.typed.4,
      q.typed.5,
      q.typed.6,
      q.typed.7,
      subst (NoteFits c.x.note) k.row_is q.typed.8,
      subst (λ u. HasType c.f (body_types c.b c.n c.x t u types) t) k.row_is q.typed.9,
    )

    new_taken : (s : ℕ) (y : Path) → legs_take (more_legs (whole (rows_list c)) no_legs) around s y ≡ legs_take (old_legs c) around s y
    new_taken s y = or_none (legs_take (all_legs c) around s y || false) ∙ or_none (legs_take (all_legs c) around s y) ∙ all_taken s y

    pub answer_placed : Simple c → Tidily c → IsPlaced (answer c) types around t
    answer_placed simple w =
        let there = wide_there simple w in
        let typed = answer_typed simple w in
        let own = body_of_loop c.a (old_legs c) c.e c.b c.n c.x c.f types around t q in
        record {
          formed = q.formed;
          forms = q.forms;
          typed = typed;
          keeps = (
            (
              (
                (
                  keep_together c.bs (legs_behind c.ks c.zs) around k.before_keep (keep_together c.ks c.zs around k.producer.keeps.0 k.after_keep),
                  tt,
                  there.placed.keeps,
                  there.comes ∙ from_still c.r.sym.0 (row c) row_idle c.g inside inside w.clear still ∙ k.producer.keeps.3,
                ),
                tt,
              ),
              tt,
            ),
            q.keeps.1,
            q.keeps.2,
            q.keeps.3,
          );
          splits = (
            (
              (
                (
                  all_split,
                  tt,
                  record { apart = λ s y u v. let nothing : ⊥ = cc in nothing },
                  there.placed.splits,
                  record {
                    all = λ y u.
                        there.taken c.d.sym.0 y ∙ ap (λ (T : Taken). T c.d.sym.0 y) (still_taken c.r.sym.0 (row c) row_idle c.g inside inside w.clear still)
                        ∙ k.producer.splits.4.all y u;
                  },
                ),
                tt,
              ),
              tt,
              record { apart = λ s y u v. let nothing : ⊥ = cc in nothing },
            ),
            q.splits.1,
            record { apart = λ s y u v. q.splits.2.apart s y (sym (new_taken s y) ∙ u) v },
            q.splits.3,
            q.splits.4,
          );
          noted = (
            (
              (
                (
                  noted_together c.bs (legs_behind c.ks c.zs) types k.before_noted (noted_together c.ks c.zs types k.producer.noted.0 k.after_noted),
                  (rows_type, refl, (tt, (whole_formed, whole_free), refl)),
                  (all, row_of all, rows_type, all_have, row_has, (tt, (whole_formed, whole_free), refl), there.placed.noted),
                  (rows_type, refl, producer_typed simple w),
                ),
                (vec (whole_row (places c)), refl, list_typed simple w),
              ),
              tt,
            ),
            q.noted.1,
            (
              more_types (whole_row (places c)) no_types,
              whole_row (places c),
              t,
              (list_typed simple w, tt),
              refl,
              q.typed.4,
              subst (λ u. AreNoted c.f (body_types c.b c.n c.x t u types)) k.row_is own.noted,
            ),
            noted_at c.a (answer c) (pattern c) types t q.noted.3 q.typed typed,
          );
        }

    pub answer_taken : takes (answer c) around ≡ takes (pattern c) around
    answer_taken = λ j s y. new_taken s y j || takes c.e around s y

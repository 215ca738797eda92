-- The one loop over all legs stands where the loop over the `zip` stood.
use Rattle.std.proofs.Common.{◌≡◌, ◌≢◌, ℕ, Bool, true, false, ◌||◌, [], ◌∷◌, Some, None, option_map, refl, ap, sym, subst, ◌∙◌, eq-eqb, ne_eqb, inl, inr, ◌⊎◌}
use Rattle.std.proofs.lemmas.Bool.{cases_eq}
use Rattle.weld_tree.specs.declared.known.Known.{Known as Noted}
use Rattle.weld_tree.specs.declared.known.Known.TheVariants.{Is}
use Rattle.weld_tree.specs.TypeTree.{TypeTree, build, list}
use Rattle.weld_tree.specs.Types.{IsBuilderFree, AreBuilderFree, IsWellFormed}
use Rattle.weld_tree.specs.ExprTree.{ExprTree, leaf, truth}
use Rattle.weld_tree.specs.Blank.{blank_at}
use Rattle.weld_meaning.specs.Environment.{Named, look_for}
use Rattle.weld_meaning.specs.Typing.{Types, place_type, HasType, body_types}
use Rattle.weld_meaning.specs.Origin.{Path, Origin, value, own as own_at, known_origin, origin_of_name, origin, own_paths, from_within, outside, in_body}
use Rattle.weld_meaning.specs.Linear.{Keeps}
use Rattle.weld_meaning.specs.Available.{is_builder_path, takes, TakesAll, Splits}
use Rattle.weld_check_types.specs.Notes.{AreNoted}
use Rattle.weld_meaning.specs.Names.{IsFree, AgreeOn}
use Rattle.weld_meaning.proofs.Before.{look_for-map, origin_outside}
use Rattle.weld_meaning.proofs.FreeNames.{type_free, origin_free, keeps_free, taken_free, splits_free}
use Rattle.weld_meaning.proofs.OneType.{one_type}
use Rattle.weld_meaning.proofs.OriginTypes.{origin_forms}
use Rattle.weld_meaning.proofs.WellFormed.{type_formed, row_formed, legs_formed}
use Rattle.weld_rewriting.specs.Placed.{IsPlaced}
use Rattle.weld_rewriting.specs.Tidy.{IsTidy}
use Rattle.weld_rewriting.proofs.Parts.{row_free, noted_at, body_of_loop}
use Rattle.weld_substitution.proofs.Bindings.{Binding, agree_over}
use Rattle.weld_substitution.proofs.Following.{both_true}
use Rattle.weld_substitution.proofs.PutTypes.{type_put, noted_put, noted_free}
use Rattle.weld_substitution.proofs.Values.{IsIdle, Still, from_still}
use Rattle.weld_substitution.proofs.ValueRules.{still_taken, still_keeps, still_splits}
use Rattle.weld_horizontal.specs.Twice.{items}
use Rattle.weld_horizontal.proofs.RowItems.{row_of}
use Rattle.weld_handing.specs.Handing.{handed_type, unnoted, handed, starts_none}
use Rattle.weld_handing.proofs.Common.{IsBehind}
use Rattle.weld_handing.proofs.Placing.{builder_origin, within_none, within_alike}
use Rattle.weld_handing.proofs.Traces.{handed_origin, Alike, handed_none}
use Rattle.weld_handing.proofs.Answering.{IsClear as IsClearOf, Consumes, Names}
use Rattle.weld_handing.proofs.Keeping.{consumer_agrees, from_there, handed_keeps}
use Rattle.weld_handing.proofs.Cutting.{cut, cut_builds}
use Rattle.weld_handing.proofs.Taking.{handed_takes}
use Rattle.weld_handing.proofs.Splitting.{Body, handed_splits}
use Rattle.weld_handing.proofs.Clearing.{typed_clear}
use Rattle.weld_handing.proofs.SameNames.{Same, same_names, own_names_same}
use Rattle.weld_handing.proofs.Types.{Typed, TypesRelate, body_agree, handed_typed}
use Rattle.weld_handing.proofs.Notes.{handed_noted}
use Rattle.weld_handing.proofs.Starting.{relate_start}
use Rattle.weld_vertical_zip.specs.Zipping.{legs_behind, all_items, whole_row}
use Rattle.weld_vertical_zip.proofs.ZippingSplicing.{keep_together, noted_together}
use Rattle.weld_vertical_zip.proofs.MadeRows.{made_typed, made_noted}
use Rattle.weld_vertical_zip.proofs.Splice.{Splice, places, pattern, row, body, all_legs, old_legs, Tidily, tidily}
use Rattle.weld_vertical_zip.proofs.SplicePlaced.{found_first, binding_over, Known, known, all_have, row_has, all_taken, all_split, row_names, inside, still, body_placed}
use Rattle.weld_vertical_zip_held.proofs.WholeRow.{whole_idle}
use Rattle.weld_vertical_zip_held.proofs.ZipHeld.{own, row_still, starts_in, Held, item_there, made, made_names, consumer, Apart, apart, one_body, one_loop}

module _ (c : Splice) (h : Held c) where
  module _ (tidy : IsTidy (pattern c)) (types : Types) (around : Named Origin) (q : IsPlaced (pattern c) types around h.t) where
    pub w : Tidily c
    w = tidily c tidy

    pub v : Apart c
    v = apart c tidy

    pub k : Known c types around h.t q
    k = known c types around h.t q

    abbrev pub row_type : TypeTree
    row_type = row_of (all_items (places c))

    abbrev pub start : Origin
    start = origin c.e around

    abbrev pub before : Named Origin
    before = inside c types around h.t q k

    abbrev pub later : Named Origin
    later = in_body (unnoted c.d) c.i (unnoted c.r) start around

    abbrev pub list_types : Types
    list_types = row_names c types around h.t q k (build (list c.item))

    abbrev pub later_types : Types
    later_types = row_names c types around h.t q k h.t

    pub there : IsPlaced (body c) list_types before (build (list c.item))
    there = body_placed c types around h.t q k w

    idle_row : IsIdle (row c)
    idle_row = row_still c

    pub row_is_formed : IsWellFormed row_type
    row_is_formed = row_formed (all_legs c) types (all_items (places c)) row_type (all_have c types around h.t q k) (row_has c types around h.t q k) q.formed

    pub row_is_free : IsBuilderFree row_type
    row_is_free = row_free (all_legs c) types (all_items (places c)) row_type (all_have c types around h.t q k) (row_has c types around h.t q k) q.formed

    pub builder_formed : IsWellFormed h.t
    builder_formed = type_formed c.e types h.t q.typed.4 q.formed

    pub same : Same h.t c.i.sym.0 c.b c.n (unnoted c.x) (consumer c) (body c) (own c) before
    same =
        same_names h.t c.i.sym.0 c.b c.n (unnoted c.x) (consumer c) (body c) list_types (build (list c.item)) (own c) before
        (own_names_same types around c.d c.i c.r (build (list c.item)) row_type q.formed q.forms) there.keeps there.typed

    pub no_start : starts_none before (body c) ≡ true
    no_start = sym same.starts ∙ starts_in c h

    pub clear : IsClearOf before (body c)
    clear = typed_clear (body c) before list_types (build (list c.item)) no_start there.typed there.formed there.forms

    pub comes : origin (body c) before ≡ own_at []
    comes = from_still c.r.sym.0 (row c) idle_row c.g before before w.clear (still c types around h.t q k) ∙ k.producer.keeps.3

    -- ---- the consumer's body, with the row over all legs around it

    abbrev pub outer : Types
    outer = (c.r.sym.0, row_type) ∷ types

    abbrev pub outer_names : Named Origin
    outer_names = (c.r.sym.0, value) ∷ around

    abbrev whole_types : Types
    whole_types = body_types c.b c.n c.x h.t (whole_row (places c)) outer

    abbrev pub item_types : Types
    item_types = body_types c.b c.n c.x h.t c.item outer

    abbrev pub names_there : Named Origin
    names_there = in_body c.b c.n c.x start outer_names

    own_body : IsPlaced c.f (body_types c.b c.n c.x h.t q.typed.1 types) (in_body c.b c.n c.x start around) h.t
    own_body = body_of_loop c.a (old_legs c) c.e c.b c.n c.x c.f types around h.t q

    types_agree : AgreeOn (IsFree c.f) (body_types c.b c.n c.x h.t (whole_row (places c)) types) whole_types
    types_agree = body_agree c.f c.b c.n c.x h.t (whole_row (places c)) types outer (agree_over _ c.r.sym.0 row_type types (λ j. v.no_row j.0))

    names_agree : AgreeOn (IsFree c.f) (in_body c.b c.n c.x start around) names_there
    names_agree =
        consumer_agrees h.t c.i.sym.0 c.b c.n c.x c.f start around ((c.r.sym.0, value) ∷ outside around) (agree_over _ c.r.sym.0 value (outside around) (λ j. v.no_row j.0))

    whole_typed : HasType c.f whole_types h.t
    whole_typed =
        type_free c.f (body_types c.b c.n c.x h.t (whole_row (places c)) types) whole_types h.t types_agree
        (subst (λ u. HasType c.f (body_types c.b c.n c.x h.t u types) h.t) k.row_is own_body.typed)

    whole_noted : AreNoted c.f whole_types
    whole_noted =
        noted_free c.f (body_types c.b c.n c.x h.t (whole_row (places c)) types) whole_types types_agree
        (subst (λ u. AreNoted c.f (body_types c.b c.n c.x h.t u types)) k.row_is own_body.noted)

    row_there : look_for c.r.sym.0 item_types ≡ Some row_type
    row_there = rw (ne_eqb c.r.sym.0 c.x.sym.0 v.row_row) (rw (ne_eqb c.r.sym.0 c.n.sym.0 v.row_number) (rw (ne_eqb c.r.sym.0 c.b.sym.0 v.row_builder) (rw (eq-eqb c.r.sym.0 c.r.sym.0 refl) refl)))

    before_free : AreBuilderFree (items c.bs)
    before_free = (legs_formed c.bs types (items c.bs) k.before_have q.formed).1

    after_free : AreBuilderFree (items c.zs)
    after_free = (legs_formed c.zs types (items c.zs) k.after_have q.formed).1

    item_is : HasType (item_there c) item_types c.item
    item_is = found_first c.x.sym.0 c.item ((c.n.sym.0, place_type) ∷ (c.b.sym.0, h.t) ∷ outer)

    made_is : HasType (made c) item_types (whole_row (places c))
    made_is = made_typed c.a.place c.r.sym.0 (places c) (item_there c) item_types row_there before_free k.item_free after_free item_is

    made_notes : AreNoted (made c) item_types
    made_notes = made_noted c.a.place c.r.sym.0 (places c) (item_there c) item_types row_there before_free k.item_free after_free item_is (c.item, refl, item_is)

    row_over : Binding c.x.sym.0 (whole_row (places c)) item_types whole_types
    row_over = binding_over c.x.sym.0 (whole_row (places c)) c.item ((c.n.sym.0, place_type) ∷ (c.b.sym.0, h.t) ∷ outer)

    pub consumer_typed : HasType (consumer c) item_types h.t
    consumer_typed = type_put c.f c.x.sym.0 (made c) (whole_row (places c)) item_types whole_types h.t v.made_clear row_over made_is whole_typed

    consumer_noted : AreNoted (consumer c) item_types
    consumer_noted = noted_put c.f c.x.sym.0 (made c) (whole_row (places c)) item_types whole_types v.made_clear row_over made_is made_notes whole_noted

    made_idle : IsIdle (made c)
    made_idle = whole_idle c.a.place c.r.sym.0 (places c) c.x.sym.0 c.several

    made_still : Still c.x.sym.0 (made c) names_there names_there
    made_still = record { binding = record { others = λ s ne. refl; there = item_value }; idle = record { idle = λ s f. by s (made_names c s f) } }
      where
        item_value : look_for c.x.sym.0 names_there ≡ Some value
        item_value = found_first c.x.sym.0 value ((c.n.sym.0, value) ∷ (c.b.sym.0, own_paths start) ∷ (c.r.sym.0, value) ∷ outside around)

        row_value : look_for c.r.sym.0 names_there ≡ Some value
        row_value = rw (ne_eqb c.r.sym.0 c.x.sym.0 v.row_row) (rw (ne_eqb c.r.sym.0 c.n.sym.0 v.row_number) (rw (ne_eqb c.r.sym.0 c.b.sym.0 v.row_builder) (rw (eq-eqb c.r.sym.0 c.r.sym.0 refl) refl)))

        by : (s : ℕ) → (s ≡ c.r.sym.0) ⊎ (s ≡ c.x.sym.0) → origin_of_name s names_there ≡ value
        by s (inl e) = subst (λ u. origin_of_name u names_there ≡ value) (sym e) (ap known_origin row_value)
        by s (inr e) = subst (λ u. origin_of_name u names_there ≡ value) (sym e) (ap known_origin item_value)

    consumer_keeps : Keeps (consumer c) names_there
    consumer_keeps = still_keeps c.x.sym.0 (made c) made_idle c.f names_there names_there v.made_clear made_still (keeps_free c.f _ _ names_agree q.keeps.2)

    consumer_splits : Splits (consumer c) names_there
    consumer_splits = still_splits c.x.sym.0 (made c) made_idle c.f names_there names_there v.made_clear made_still (splits_free c.f _ _ names_agree q.splits.3)

    consumer_comes : origin (consumer c) names_there ≡ own_paths start
    consumer_comes = from_still c.x.sym.0 (made c) made_idle c.f names_there names_there v.made_clear made_still ∙ sym (origin_free c.f _ _ names_agree) ∙ q.keeps.3

    consumer_takes : takes (consumer c) names_there ≡ takes c.f (in_body c.b c.n c.x start around)
    consumer_takes = still_taken c.x.sym.0 (made c) made_idle c.f names_there names_there v.made_clear made_still ∙ sym (taken_free c.f _ _ names_agree)

    -- ---- types

    types_known : Typed h.t c.item c.i.sym.0 c.b c.n (unnoted c.x) (consumer c) outer
    types_known = record {
      builder = q.typed.5;
      builder_note = q.typed.6;
      number_note = q.typed.7;
      row_note = tt;
      body = consumer_typed;
      apart = λ y. v.builder_count (sym y);
    }

    behind_types : AgreeOn (IsBehind (consumer c) c.b.sym.0 c.n.sym.0 c.x.sym.0) outer later_types
    behind_types = record { agree = λ s y. by s y (cases_eq s c.r.sym.0) }
      where
        by : (s : ℕ) → IsBehind (consumer c) c.b.sym.0 c.n.sym.0 c.x.sym.0 s → (s ≡ c.r.sym.0) ⊎ (s ≢ c.r.sym.0) → look_for s outer ≡ look_for s later_types
        by s y (inl e) = rw (eq-eqb s c.r.sym.0 e) refl
        by s y (inr ne) =
            rw (ne_eqb s c.r.sym.0 ne)
            (rw (ne_eqb s c.i.sym.0 (λ z. v.behind_number (subst (IsFree (consumer c)) z y.0))) (rw (ne_eqb s c.d.sym.0 (λ z. v.behind_list (subst (IsFree (consumer c)) z y.0))) refl))

    relate : TypesRelate h.t c.item c.i.sym.0 c.b c.n (unnoted c.x) (consumer c) outer before list_types later_types
    relate =
        let z = relate_start h.t c.item c.d c.i c.r row_type c.b c.n (unnoted c.x) (leaf blank_at (truth false)) types around k.item_formed k.item_free row_is_formed row_is_free q.formed q.forms (λ y. y.0) (λ y. y.0) (λ y. y.0) v.number_row in
        record { types = z.types; behind = behind_types; number = z.number; held = z.held; formed = z.formed; forms = z.forms }

    elsewhere : (s : ℕ) → IsFree (body c) s → (s ≢ c.b.sym.0) × (s ≢ c.n.sym.0) × (s ≢ c.x.sym.0)
    elsewhere s y = ((λ z. v.not_builder (subst (IsFree (body c)) z y)), (λ z. v.not_number (subst (IsFree (body c)) z y)), (λ z. v.not_row (subst (IsFree (body c)) z y)))

    pub body_typed : HasType (one_body c h) later_types h.t
    body_typed =
        subst (λ z. HasType z later_types h.t) (sym same.turns)
        (subst (λ z. HasType (handed h.t c.i.sym.0 c.b c.n (unnoted c.x) (consumer c) before (body c)) later_types (handed_to z)) comes
        (handed_typed h.t c.item c.i.sym.0 c.b c.n (unnoted c.x) (consumer c) outer types_known (body c) before list_types later_types (build (list c.item)) v.aside elsewhere no_start there.keeps relate there.typed))
      where
        handed_to : Origin → TypeTree
        handed_to z = handed_type h.t z (build (list c.item))

    body_noted : AreNoted (one_body c h) later_types
    body_noted =
        subst (λ z. AreNoted z later_types) (sym same.turns)
        (handed_noted h.t c.item c.i.sym.0 c.b c.n (unnoted c.x) (consumer c) outer types_known consumer_noted (body c) before list_types later_types v.aside elsewhere no_start there.keeps relate there.noted)

    -- ---- origins

    consumes : Consumes h.t c.i.sym.0 c.b c.n (unnoted c.x) (consumer c) start outer_names
    consumes = record {
      builds = builder_origin start h.t builder_formed q.typed.5 (origin_forms c.e around types h.t q.typed.4 q.formed q.forms);
      comes = consumer_comes;
      builder_number = v.builder_count;
      count_number = v.number_count;
      builder_count = v.builder_number;
      builder_row = v.builder_row;
    }

    body_known : Body h.t c.i.sym.0 c.b c.n (unnoted c.x) (consumer c) start outer_names
    body_known = record {
      consumes = consumes;
      keeps = consumer_keeps;
      splits = consumer_splits;
      all = record { all = λ y u. ap (λ (T : ℕ → Path → Bool). T c.b.sym.0 y) consumer_takes ∙ q.splits.4.all y u };
    }

    behind_names : AgreeOn (IsBehind (consumer c) c.b.sym.0 c.n.sym.0 c.x.sym.0) (outside outer_names) later
    behind_names = record { agree = λ s y. by s y (cases_eq s c.r.sym.0) }
      where
        by : (s : ℕ) → IsBehind (consumer c) c.b.sym.0 c.n.sym.0 c.x.sym.0 s → (s ≡ c.r.sym.0) ⊎ (s ≢ c.r.sym.0) → look_for s (outside outer_names) ≡ look_for s later
        by s y (inl e) = rw (eq-eqb s c.r.sym.0 e) refl
        by s y (inr ne) =
            rw (ne_eqb s c.r.sym.0 ne)
            (rw (ne_eqb s c.i.sym.0 (λ z. v.behind_number (subst (IsFree (consumer c)) z y.0))) (rw (ne_eqb s c.d.sym.0 (λ z. v.behind_list (subst (IsFree (consumer c)) z y.0))) refl))

    names : Names h.t c.i.sym.0 c.b c.n (unnoted c.x) (consumer c) start outer_names before before later
    names = record {
      alike = λ s. alike_at s (cases_eq s c.r.sym.0) (cases_eq s c.i.sym.0) (cases_eq s c.d.sym.0);
      handed = λ s. handed_at s (cases_eq s c.r.sym.0) (cases_eq s c.i.sym.0) (cases_eq s c.d.sym.0);
      behind = behind_names;
      number = ap known_origin (number_there (own_paths start));
    }
      where
        number_there : (z : Origin) → look_for c.i.sym.0 ((c.r.sym.0, value) ∷ (c.i.sym.0, value) ∷ (c.d.sym.0, z) ∷ outside around) ≡ Some value
        number_there z = rw (ne_eqb c.i.sym.0 c.r.sym.0 v.number_row) (rw (eq-eqb c.i.sym.0 c.i.sym.0 refl) refl)

        alike_at : (s : ℕ) → (s ≡ c.r.sym.0) ⊎ (s ≢ c.r.sym.0) → (s ≡ c.i.sym.0) ⊎ (s ≢ c.i.sym.0) → (s ≡ c.d.sym.0) ⊎ (s ≢ c.d.sym.0) → Alike (origin_of_name s before) (origin_of_name s before)
        alike_at s (inl y) u z = let there : origin_of_name s before ≡ value = rw (eq-eqb s c.r.sym.0 y) refl in subst (λ z. Alike z z) (sym there) tt
        alike_at s (inr y) (inl u) z = let there : origin_of_name s before ≡ value = rw (ne_eqb s c.r.sym.0 y) (rw (eq-eqb s c.i.sym.0 u) refl) in subst (λ z. Alike z z) (sym there) tt
        alike_at s (inr y) (inr u) (inl z) =
            let there : origin_of_name s before ≡ own_at [] = rw (ne_eqb s c.r.sym.0 y) (rw (ne_eqb s c.i.sym.0 u) (rw (eq-eqb s c.d.sym.0 z) refl)) in subst (λ z. Alike z z) (sym there) (refl, tt)
        alike_at s (inr y) (inr u) (inr z) =
            let there : origin_of_name s before ≡ origin_of_name s (outside around) = rw (ne_eqb s c.r.sym.0 y) (rw (ne_eqb s c.i.sym.0 u) (rw (ne_eqb s c.d.sym.0 z) refl)) in
            subst (λ z. Alike z z) (sym (there ∙ origin_outside s around)) (within_alike (origin_of_name s around))

        handed_at : (s : ℕ) → (s ≡ c.r.sym.0) ⊎ (s ≢ c.r.sym.0) → (s ≡ c.i.sym.0) ⊎ (s ≢ c.i.sym.0) → (s ≡ c.d.sym.0) ⊎ (s ≢ c.d.sym.0) → look_for s later ≡ option_map (handed_origin start (origin_of_name s before)) (look_for s before)
        handed_at s (inl y) u z = rw (eq-eqb s c.r.sym.0 y) refl
        handed_at s (inr y) (inl u) z = rw (ne_eqb s c.r.sym.0 y) (rw (eq-eqb s c.i.sym.0 u) refl)
        handed_at s (inr y) (inr u) (inl z) = rw (ne_eqb s c.r.sym.0 y) (rw (ne_eqb s c.i.sym.0 u) (rw (eq-eqb s c.d.sym.0 z) refl))
        handed_at s (inr y) (inr u) (inr z) = rw (ne_eqb s c.r.sym.0 y) (rw (ne_eqb s c.i.sym.0 u) (rw (ne_eqb s c.d.sym.0 z) (around_same s)))
          where
            around_same : (s : ℕ) → look_for s (outside around) ≡ option_map (handed_origin start (known_origin (look_for s (outside around)))) (look_for s (outside around))
            around_same s = subst (λ m. m ≡ option_map (handed_origin start (known_origin m)) m) (sym (look_for-map from_within s around)) (by (look_for s around))
              where
                by : (m : _) → option_map from_within m ≡ option_map (handed_origin start (known_origin (option_map from_within m))) (option_map from_within m)
                by None = refl
                by (Some z) = ap Some (sym (handed_none start (from_within z) (from_within z) (within_none z)))

    turns_back : (P : ExprTree → Type 0) → P (handed h.t c.i.sym.0 c.b c.n (unnoted c.x) (consumer c) before (body c)) → P (one_body c h)
    turns_back P y = subst P (sym same.turns) y

    body_keeps : Keeps (one_body c h) later
    body_keeps = turns_back (λ z. Keeps z later) (handed_keeps h.t c.i.sym.0 c.b c.n (unnoted c.x) (consumer c) start outer_names consumes consumer_keeps (body c) before later v.aside v.not_builder v.not_number clear names there.keeps)

    body_comes : origin (one_body c h) later ≡ own_paths start
    body_comes =
        turns_back (λ z. origin z later ≡ own_paths start)
        ((from_there h.t c.i.sym.0 c.b c.n (unnoted c.x) (consumer c) start outer_names consumes (body c) before later v.aside v.not_builder v.not_number clear names).1 ∙ (λ j. handed_origin start (comes j) (comes j)))

    body_splits : Splits (one_body c h) later
    body_splits =
        turns_back (λ z. Splits z later)
        (handed_splits h.t c.i.sym.0 c.b c.n (unnoted c.x) (consumer c) start outer_names body_known (body c) before later v.aside v.not_builder v.not_number clear names there.keeps there.splits)

    body_all : TakesAll c.d.sym.0 (own_paths start) (takes (one_body c h) later)
    body_all = turns_back (λ z. TakesAll c.d.sym.0 (own_paths start) (takes z later)) (record { all = all })
      where
        list_before : origin_of_name c.d.sym.0 before ≡ own_at []
        list_before = rw (ne_eqb c.d.sym.0 c.r.sym.0 v.list_row) (rw (ne_eqb c.d.sym.0 c.i.sym.0 v.list_number) (rw (eq-eqb c.d.sym.0 c.d.sym.0 refl) refl))

        list_later : origin_of_name c.d.sym.0 later ≡ own_paths start
        list_later = rw (ne_eqb c.d.sym.0 c.r.sym.0 v.list_row) (rw (ne_eqb c.d.sym.0 c.i.sym.0 v.list_number) (rw (eq-eqb c.d.sym.0 c.d.sym.0 refl) refl))

        body_takes : takes (body c) before ≡ takes c.g before
        body_takes = still_taken c.r.sym.0 (row c) idle_row c.g before before w.clear (still c types around h.t q k)

        all : (y : Path) → is_builder_path (own_paths start) y ≡ true → takes (handed h.t c.i.sym.0 c.b c.n (unnoted c.x) (consumer c) before (body c)) later c.d.sym.0 y ≡ true
        all y u =
            handed_takes h.t c.i.sym.0 c.b c.n (unnoted c.x) (consumer c) start outer_names consumes consumer_keeps (body c) before later v.aside v.not_builder v.not_number clear names c.d.sym.0 y
            ∙ both_true (takes (body c) before c.d.sym.0 (cut (origin_of_name c.d.sym.0 before) y)) (is_builder_path (origin_of_name c.d.sym.0 later) y)
            (subst (λ z. takes (body c) before c.d.sym.0 (cut z y) ≡ true) (sym list_before)
            (ap (λ (T : ℕ → Path → Bool). T c.d.sym.0 (cut (own_at []) y)) body_takes ∙ k.producer.splits.4.all (cut (own_at []) y) (cut_builds start (own_at []) y u)))
            (subst (λ z. is_builder_path z y ≡ true) (sym list_later) u)

    -- ---- the loop

    pub placed_so : IsPlaced (one_loop c h) types around h.t
    placed_so =
        let typed : HasType (one_loop c h) types h.t = (all_items (places c), row_type, all_have c types around h.t q k, row_has c types around h.t q k, q.typed.4, q.typed.5, tt, k.producer.typed.7, tt, body_typed) in
        record {
          formed = q.formed;
          forms = q.forms;
          typed = typed;
          keeps = (
            keep_together c.bs (legs_behind c.ks c.zs) around k.before_keep (keep_together c.ks c.zs around k.producer.keeps.0 k.after_keep),
            q.keeps.1,
            body_keeps,
            body_comes,
          );
          splits = (
            all_split c types around h.t q k,
            q.splits.1,
            record { apart = λ y u z s. q.splits.2.apart y u (sym (all_taken c types around h.t q k y u) ∙ z) s },
            body_splits,
            body_all,
          );
          noted = (
            noted_together c.bs (legs_behind c.ks c.zs) types k.before_noted (noted_together c.ks c.zs types k.producer.noted.0 k.after_noted),
            q.noted.1,
            (all_items (places c), row_type, h.t, all_have c types around h.t q k, row_has c types around h.t q k, q.typed.4, body_noted),
            noted_at c.a (one_loop c h) (pattern c) types h.t q.noted.3 q.typed typed,
          );
        }

    taken_so : takes (one_loop c h) around ≡ takes (pattern c) around
    taken_so = λ j s y. all_taken c types around h.t q k s y j || takes c.e around s y

  -- ---- wherever it stands

  -- the type that is noted is its own
  pub noted_is : (types : Types) (around : Named Origin) (u : TypeTree) → IsPlaced (pattern c) types around u → h.t ≡ u
  noted_is types around u q =
      let same : ◌≡◌ {A = Noted} (Is h.t) (Is u) = sym h.noted ∙ q.noted.3.1 ∙ ap Is (one_type (pattern c) types q.noted.3.0 u q.noted.3.2 q.typed) in cc

  pub placed : IsTidy (pattern c) → (types : Types) (around : Named Origin) (u : TypeTree) → IsPlaced (pattern c) types around u → IsPlaced (one_loop c h) types around u
  placed tidy types around u q =
      let e0 = noted_is types around u q in subst (IsPlaced (one_loop c h) types around) e0 (placed_so tidy types around (subst (IsPlaced (pattern c) types around) (sym e0) q))

  pub taken : IsTidy (pattern c) → (types : Types) (around : Named Origin) (u : TypeTree) → IsPlaced (pattern c) types around u → takes (one_loop c h) around ≡ takes (pattern c) around
  taken tidy types around u q = let e0 = noted_is types around u q in taken_so tidy types around (subst (IsPlaced (pattern c) types around) (sym e0) q)

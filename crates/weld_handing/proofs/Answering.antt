-- Where a handed body's answers come from: from where the body's do, with the other loop's builder in place of the list's.
use Rattle.std.proofs.Common.{◌≡◌, ◌≢◌, ◌⊎◌, inl, inr, ℕ, Bool, true, false, ◌&&◌, ◌∷◌, Option, Some, None, option_map, refl, ap, sym, subst, ◌∙◌, eq-eqb, ne_eqb}
use Rattle.std.proofs.lemmas.Bool.{cases_eq}
use Rattle.weld_tree.specs.declared.binder.Binder.{Binder}
use Rattle.weld_tree.specs.TypeTree.{TypeTree}
use Rattle.weld_tree.specs.ExprTree.{At, ExprTree, leaf, one, two, three, many, let_in, loop, iterate, ExprTrees, no_exprs, more_exprs, LegTree, whole, strided, LegTrees, no_legs, more_legs, int, truth, chars, name, fresh, One, neg, not, cast, len, field, finish, started, binary, and, or, look_up, key_exists, merge, if_else, select, slice, make_vec, make_struct}
use Rattle.weld_meaning.specs.Environment.{Named, look_for}
use Rattle.weld_meaning.specs.Origin.{Origin, value, made, own, outer, named, struct, more_origins, field_origin, is_value, struct_origin, known_origin, origin_of_name, one_origin, origin, origins, own_paths, outside, in_body}
use Rattle.weld_meaning.specs.Names.{IsFree, AreFree, AgreeOn, Binds, AllBind}
use Rattle.weld_meaning.proofs.FreeNames.{origin_free}
use Rattle.weld_substitution.proofs.Bindings.{agree_over, agree_after}
use Rattle.weld_vertical.specs.Sinking.{is_merge}
use Rattle.weld_handing.specs.Handing.{is_held, holds, handed_two, handed, all_handed}
use Rattle.weld_handing.proofs.Common.{IsAside, IsBehind}
use Rattle.weld_handing.proofs.Free.{Added, handed_free}
use Rattle.weld_handing.proofs.Regrafting.{onto_own, onto_name, own_keeps, name_keeps, own_grown, name_grown, body_regrafted}
use Rattle.weld_handing.proofs.Traces.{grown, handed_origin, handed_origins, IsPath, Alike, AllAlike, value_alike, field_alike, struct_alike, field_handed, struct_handed}

-- ---- what typing and the condition on loops within give

abbrev pub OneClear : One → Origin → Type 0
OneClear neg o = Unit {0}
OneClear not o = Unit {0}
OneClear (cast k) o = Unit {0}
OneClear len o = Unit {0}
OneClear (field n) o = is_held o ≡ false
OneClear finish o = Unit {0}
OneClear (started b) o = Unit {0}

abbrev mutual
  -- no field is taken of the list's builder, what is merged into it is a value, and no loop within starts with it
  pub IsClear : Named Origin → ExprTree → Type 0
  IsClear q (leaf a l) = Unit {0}
  IsClear q (one a o e) = IsClear q e × OneClear o (origin e q)
  IsClear q (two a o e v) = IsClear q e × IsClear q v × ((is_merge o && is_held (origin e q)) ≡ true → is_value (origin v q) ≡ true)
  IsClear q (three a o d e g) = IsClear q d × IsClear q e × IsClear q g
  IsClear q (many a o es) = AllClear q es
  IsClear q (let_in a z v g) = IsClear q v × IsClear ((z.sym.0, origin v q) ∷ q) g
  IsClear q (loop a ls e b m y g) = LegsClear q ls × IsClear q e × (holds (origin e q) ≡ false)
  IsClear q (iterate a e b g) = IsClear q e

  pub AllClear : Named Origin → ExprTrees → Type 0
  AllClear q no_exprs = Unit {0}
  AllClear q (more_exprs e es) = IsClear q e × AllClear q es

  pub LegClear : Named Origin → LegTree → Type 0
  LegClear q (whole e) = IsClear q e
  LegClear q (strided e g h j) = IsClear q e × IsClear q g × IsClear q h × IsClear q j

  pub LegsClear : Named Origin → LegTrees → Type 0
  LegsClear q no_legs = Unit {0}
  LegsClear q (more_legs l ls) = LegClear q l × LegsClear q ls

-- ---- what is held

pub held_grown : (start o u : Origin) → is_held o ≡ true → handed_origin start o u ≡ grown start u
held_grown start value u e = let nothing : ⊥ = cc in absurd nothing
held_grown start made u e = let nothing : ⊥ = cc in absurd nothing
held_grown start (own p) u e = refl
held_grown start outer u e = let nothing : ⊥ = cc in absurd nothing
held_grown start (named s p) u e = let nothing : ⊥ = cc in absurd nothing
held_grown start (struct os) u e = let nothing : ⊥ = cc in absurd nothing

pub held_path : (o u : Origin) → is_held o ≡ true → Alike o u → IsPath u
held_path value u e h = let nothing : ⊥ = cc in absurd nothing
held_path made u e h = let nothing : ⊥ = cc in absurd nothing
held_path (own p) u e h = h.1
held_path outer u e h = let nothing : ⊥ = cc in absurd nothing
held_path (named s p) u e h = let nothing : ⊥ = cc in absurd nothing
held_path (struct os) u e h = let nothing : ⊥ = cc in absurd nothing

pub handed_from_value : (start o : Origin) → is_value o ≡ true → handed_origin start o value ≡ value
handed_from_value start value e = refl
handed_from_value start made e = let nothing : ⊥ = cc in absurd nothing
handed_from_value start (own p) e = let nothing : ⊥ = cc in absurd nothing
handed_from_value start outer e = let nothing : ⊥ = cc in absurd nothing
handed_from_value start (named s p) e = let nothing : ⊥ = cc in absurd nothing
handed_from_value start (struct os) e = let nothing : ⊥ = cc in absurd nothing

alike_value : (start o : Origin) → Alike o value → handed_origin start o value ≡ value
alike_value start value h = refl
alike_value start made h = absurd h
alike_value start (own p) h = absurd h.1
alike_value start outer h = absurd h
alike_value start (named s p) h = absurd h
alike_value start (struct os) h = absurd h

-- the consumer: its binders and body, what it starts with, what stands around it; and the row number of the other loop
module _ (t : TypeTree) (i : ℕ) (c n x : Binder) (f : ExprTree) (start : Origin) (around : Named Origin) where
  -- what is known of it
  pub record Consumes : Type 0 where
    pub builds : is_value start ≡ false
    pub comes : origin f (in_body c n x start around) ≡ own_paths start
    pub builder_number : c.sym.0 ≢ i
    pub count_number : n.sym.0 ≢ i
    pub builder_count : c.sym.0 ≢ n.sym.0
    pub builder_row : c.sym.0 ≢ x.sym.0

  abbrev pub Aside : ℕ → Type 0
  Aside z = IsAside c.sym.0 n.sym.0 x.sym.0 i f z

  abbrev pub Behind : ℕ → Type 0
  Behind s = IsBehind f c.sym.0 n.sym.0 x.sym.0 s

  -- by the origins q of names, which say what is held: other origins of the names, and these where the other loop's builder is in
  -- the place of the list's
  pub record Names (q k l : Named Origin) : Type 0 where
    pub alike : (s : ℕ) → Alike (origin_of_name s q) (origin_of_name s k)
    pub handed : (s : ℕ) → look_for s l ≡ option_map (handed_origin start (origin_of_name s q)) (look_for s k)
    pub behind : AgreeOn Behind (outside around) l
    pub number : origin_of_name i l ≡ value

  look_first : {A : Type 0} (z : ℕ) (y : A) (g : Named A) → look_for z ((z, y) ∷ g) ≡ Some y
  look_first z y g = rw (eq-eqb z z refl) refl

  look_past : {A : Type 0} (s z : ℕ) (y : A) (g : Named A) → s ≢ z → look_for s ((z, y) ∷ g) ≡ look_for s g
  look_past s z y g ne = rw (ne_eqb s z ne) refl

  pub names_bind : (z : ℕ) (o u : Origin) (q k l : Named Origin) → Aside z → Alike o u → Names q k l → Names ((z, o) ∷ q) ((z, u) ∷ k) ((z, handed_origin start o u) ∷ l)
  names_bind z o u q k l aside alike r = record {
    alike = λ s. alike_at s (cases_eq s z);
    handed = λ s. handed_at s (cases_eq s z);
    behind = agree_after Behind _ l ((z, handed_origin start o u) ∷ l) r.behind (agree_over Behind z (handed_origin start o u) l (λ h. aside.4 h.0));
    number = ap known_origin (look_past i z (handed_origin start o u) l (λ e. aside.3 (sym e))) ∙ r.number;
  }
    where
      alike_at : (s : ℕ) → (s ≡ z) ⊎ (s ≢ z) → Alike (origin_of_name s ((z, o) ∷ q)) (origin_of_name s ((z, u) ∷ k))
      alike_at s (inl e) =
          subst (λ y. Alike (origin_of_name y ((z, o) ∷ q)) (origin_of_name y ((z, u) ∷ k))) (sym e)
          (subst (λ m. Alike (known_origin m) (origin_of_name z ((z, u) ∷ k))) (sym (look_first z o q)) (subst (λ m. Alike o (known_origin m)) (sym (look_first z u k)) alike))
      alike_at s (inr ne) =
          subst (λ m. Alike (known_origin m) (origin_of_name s ((z, u) ∷ k))) (sym (look_past s z o q ne))
          (subst (λ m. Alike (origin_of_name s q) (known_origin m)) (sym (look_past s z u k ne)) (r.alike s))

      handed_at : (s : ℕ) → (s ≡ z) ⊎ (s ≢ z) → look_for s ((z, handed_origin start o u) ∷ l) ≡ option_map (handed_origin start (origin_of_name s ((z, o) ∷ q))) (look_for s ((z, u) ∷ k))
      handed_at s (inl e) =
          subst (λ y. look_for y ((z, handed_origin start o u) ∷ l) ≡ option_map (handed_origin start (origin_of_name y ((z, o) ∷ q))) (look_for y ((z, u) ∷ k))) (sym e)
          (look_first z (handed_origin start o u) l
          ∙ (λ j. option_map (handed_origin start (known_origin (sym (look_first z o q) j))) (sym (look_first z u k) j)))
      handed_at s (inr ne) =
          look_past s z (handed_origin start o u) l ne ∙ r.handed s
          ∙ (λ j. option_map (handed_origin start (known_origin (sym (look_past s z o q ne) j))) (sym (look_past s z u k ne) j))

  -- a name's own origin
  pub name_handed : (s : ℕ) (q k l : Named Origin) → Names q k l → origin_of_name s l ≡ handed_origin start (origin_of_name s q) (origin_of_name s k)
  name_handed s q k l r = ap known_origin (r.handed s) ∙ by (look_for s k) (r.alike s)
    where
      by : (m : Option Origin) → Alike (origin_of_name s q) (known_origin m) → known_origin (option_map (handed_origin start (origin_of_name s q)) m) ≡ handed_origin start (origin_of_name s q) (known_origin m)
      by None h = sym (alike_value start (origin_of_name s q) h)
      by (Some o) h = refl

  -- the other loop's body answers the builder that stands on a path
  path_answers : (known : Consumes) (u : Origin) → IsPath u → (l : Named Origin) → AgreeOn Behind (outside around) l → origin f ((x.sym.0, value) ∷ (n.sym.0, value) ∷ (c.sym.0, grown start u) ∷ l) ≡ grown start u
  path_answers known value h l w = absurd h
  path_answers known made h l w = absurd h
  path_answers known (own p) h l w =
      subst (λ g. origin f ((x.sym.0, value) ∷ (n.sym.0, value) ∷ (c.sym.0, g) ∷ l) ≡ g) (own_grown p start)
      (body_regrafted (onto_own p) (own_keeps p) c n x f start around l w known.comes)
  path_answers known outer h l w = absurd h
  path_answers known (named s p) h l w =
      subst (λ g. origin f ((x.sym.0, value) ∷ (n.sym.0, value) ∷ (c.sym.0, g) ∷ l) ≡ g) (name_grown s p start)
      (body_regrafted (onto_name s p) (name_keeps s p) c n x f start around l w known.comes)
  path_answers known (struct os) h l w = absurd h

  abbrev turned : Named Origin → ExprTree → ExprTree
  turned q e = handed t i c n x f q e

  -- neither the other loop's builder nor its row number is free in a handed value
  pub builder_not_free : Consumes → (q : Named Origin) (v : ExprTree) → (IsFree v c.sym.0 → ⊥) → IsFree (turned q v) c.sym.0 → ⊥
  builder_not_free known q v not_there h = by (handed_free t i c n x f q v c.sym.0 h)
    where
      by : IsFree v c.sym.0 ⊎ Added t i c n x f c.sym.0 → ⊥
      by (inl k) = not_there k
      by (inr (inl e)) = known.builder_number e
      by (inr (inr k)) = k.3 refl

  pub count_not_free : Consumes → (q : Named Origin) (v : ExprTree) → (IsFree v n.sym.0 → ⊥) → IsFree (turned q v) n.sym.0 → ⊥
  count_not_free known q v not_there h = by (handed_free t i c n x f q v n.sym.0 h)
    where
      by : IsFree v n.sym.0 ⊎ Added t i c n x f n.sym.0 → ⊥
      by (inl k) = not_there k
      by (inr (inl e)) = known.count_number e
      by (inr (inr k)) = k.2 refl

  -- so it comes from where it came from without these two
  pub value_past : Consumes → (q : Named Origin) (v : ExprTree) → (IsFree v c.sym.0 → ⊥) → (IsFree v n.sym.0 → ⊥) → (u w : Origin) (l : Named Origin) → origin (turned q v) ((n.sym.0, u) ∷ (c.sym.0, w) ∷ l) ≡ origin (turned q v) l
  value_past known q v not_c not_n u w l =
      sym (origin_free (turned q v) l ((n.sym.0, u) ∷ (c.sym.0, w) ∷ l)
      (agree_after (IsFree (turned q v)) l ((c.sym.0, w) ∷ l) ((n.sym.0, u) ∷ (c.sym.0, w) ∷ l) (agree_over (IsFree (turned q v)) c.sym.0 w l (builder_not_free known q v not_c))
      (agree_over (IsFree (turned q v)) n.sym.0 u ((c.sym.0, w) ∷ l) (count_not_free known q v not_n))))

  one_answers : (known : Consumes) (o : One) (u v w : Origin) → OneClear o u → Alike u v → w ≡ handed_origin start u v → Alike (one_origin o u) (one_origin o v) × (one_origin o w ≡ handed_origin start (one_origin o u) (one_origin o v))
  one_answers known neg u v w clear alike e = (tt, refl)
  one_answers known not u v w clear alike e = (tt, refl)
  one_answers known (cast k) u v w clear alike e = (tt, refl)
  one_answers known len u v w clear alike e = (tt, refl)
  one_answers known (field m) u v w clear alike e = (field_alike m u v clear alike, ap (field_origin m) e ∙ field_handed start known.builds m u v clear alike)
  one_answers known finish u v w clear alike e = (tt, refl)
  one_answers known (started b) u v w clear alike e = (tt, refl)

  -- at a merge, into the list or not
  merge_answers : (known : Consumes) (a : At) (e v : ExprTree) (q k l : Named Origin) → (IsFree v c.sym.0 → ⊥) → (IsFree v n.sym.0 → ⊥) → Names q k l → Alike (origin e q) (origin e k) → origin (turned q e) l ≡ handed_origin start (origin e q) (origin e k) → Alike (origin v q) (origin v k) → origin (turned q v) l ≡ handed_origin start (origin v q) (origin v k) → (b : Bool) → is_held (origin e q) ≡ b → (b ≡ true → is_value (origin v q) ≡ true) → origin (handed_two b t i c n x f (origin e q) a merge (turned q e) (turned q v)) l ≡ handed_origin start (origin e q) (origin e k)
  merge_answers known a e v q k l not_c not_n r alike from merged_alike merged false h clear = from
  merge_answers known a e v q k l not_c not_n r alike from merged_alike merged true h clear =
      (λ j. origin f ((x.sym.0, origin (turned q v) ((n.sym.0, number j) ∷ (c.sym.0, origin (turned q e) l) ∷ l)) ∷ (n.sym.0, number j) ∷ (c.sym.0, origin (turned q e) l) ∷ l))
      ∙ (λ j. origin f ((x.sym.0, item j) ∷ (n.sym.0, value) ∷ (c.sym.0, held j) ∷ l))
      ∙ path_answers known (origin e k) (held_path (origin e q) (origin e k) h alike) l r.behind
      ∙ sym (held_grown start (origin e q) (origin e k) h)
    where
      number : origin_of_name i ((c.sym.0, origin (turned q e) l) ∷ l) ≡ value
      number = ap known_origin (look_past i c.sym.0 (origin (turned q e) l) l (λ y. known.builder_number (sym y))) ∙ r.number

      held : origin (turned q e) l ≡ grown start (origin e k)
      held = from ∙ held_grown start (origin e q) (origin e k) h

      item : origin (turned q v) ((n.sym.0, value) ∷ (c.sym.0, origin (turned q e) l) ∷ l) ≡ value
      item =
          value_past known q v not_c not_n value (origin (turned q e) l) l ∙ merged
          ∙ ap (handed_origin start (origin v q)) (value_alike (origin v q) (origin v k) (clear refl) merged_alike)
          ∙ handed_from_value start (origin v q) (clear refl)

  mutual
    -- a handed body answers what the body answers, with the other loop's builder in place of the list's
    pub handed_answers : Consumes → (e : ExprTree) (q k l : Named Origin) → Binds Aside e → (IsFree e c.sym.0 → ⊥) → (IsFree e n.sym.0 → ⊥) → IsClear q e → Names q k l → Alike (origin e q) (origin e k) × (origin (turned q e) l ≡ handed_origin start (origin e q) (origin e k))
    handed_answers known (leaf a (int kind y)) q k l w not_c not_n clear r = (tt, refl)
    handed_answers known (leaf a (truth b)) q k l w not_c not_n clear r = (tt, refl)
    handed_answers known (leaf a (chars bs)) q k l w not_c not_n clear r = (tt, refl)
    handed_answers known (leaf a (name s)) q k l w not_c not_n clear r = (r.alike s, name_handed s q k l r)
    handed_answers known (leaf a (fresh b)) q k l w not_c not_n clear r = (tt, refl)
    handed_answers known (one a o e) q k l w not_c not_n clear r =
        let it = handed_answers known e q k l w not_c not_n clear.0 r in one_answers known o (origin e q) (origin e k) (origin (turned q e) l) clear.1 it.0 it.1
    handed_answers known (two a (binary op) e v) q k l w not_c not_n clear r = (tt, refl)
    handed_answers known (two a and e v) q k l w not_c not_n clear r = (tt, refl)
    handed_answers known (two a or e v) q k l w not_c not_n clear r = (tt, refl)
    handed_answers known (two a look_up e v) q k l w not_c not_n clear r = (tt, refl)
    handed_answers known (two a key_exists e v) q k l w not_c not_n clear r = (tt, refl)
    handed_answers known (two a merge e v) q k l w not_c not_n clear r =
        let it = handed_answers known e q k l w.0 (λ h. not_c (inl h)) (λ h. not_n (inl h)) clear.0 r in
        let merged = handed_answers known v q k l w.1 (λ h. not_c (inr h)) (λ h. not_n (inr h)) clear.1 r in
        (it.0, merge_answers known a e v q k l (λ h. not_c (inr h)) (λ h. not_n (inr h)) r it.0 it.1 merged.0 merged.1 (is_held (origin e q)) refl clear.2)
    handed_answers known (three a if_else d e g) q k l w not_c not_n clear r =
        handed_answers known e q k l w.1 (λ h. not_c (inr (inl h))) (λ h. not_n (inr (inl h))) clear.1 r
    handed_answers known (three a select d e g) q k l w not_c not_n clear r = (tt, refl)
    handed_answers known (three a slice d e g) q k l w not_c not_n clear r = (tt, refl)
    handed_answers known (many a make_vec es) q k l w not_c not_n clear r = (tt, refl)
    handed_answers known (many a make_struct es) q k l w not_c not_n clear r =
        let it = all_handed_answer known es q k l w not_c not_n clear r in
        (struct_alike (origins es q) (origins es k) it.0, ap struct_origin it.1 ∙ struct_handed start known.builds (origins es q) (origins es k) it.0)
    handed_answers known (let_in a z v g) q k l w not_c not_n clear r =
        let it = handed_answers known v q k l w.1 (λ h. not_c (inl h)) (λ h. not_n (inl h)) clear.0 r in
        let inner = names_bind z.sym.0 (origin v q) (origin v k) q k l w.0 it.0 r in
        let rest = handed_answers known g ((z.sym.0, origin v q) ∷ q) ((z.sym.0, origin v k) ∷ k) ((z.sym.0, handed_origin start (origin v q) (origin v k)) ∷ l) w.2 (λ h. not_c (inr (h, λ e. w.0.0 (sym e)))) (λ h. not_n (inr (h, λ e. w.0.1 (sym e)))) clear.1 inner in
        (rest.0, (λ j. origin (turned ((z.sym.0, origin v q) ∷ q) g) ((z.sym.0, it.1 j) ∷ l)) ∙ rest.1)
    handed_answers known (loop a ls e b m y g) q k l w not_c not_n clear r =
        handed_answers known e q k l w.4 (λ h. not_c (inr (inl h))) (λ h. not_n (inr (inl h))) clear.1 r
    handed_answers known (iterate a e b g) q k l w not_c not_n clear r = (tt, refl)

    all_handed_answer : Consumes → (es : ExprTrees) (q k l : Named Origin) → AllBind Aside es → (AreFree es c.sym.0 → ⊥) → (AreFree es n.sym.0 → ⊥) → AllClear q es → Names q k l → AllAlike (origins es q) (origins es k) × (origins (all_handed t i c n x f q es) l ≡ handed_origins start (origins es q) (origins es k))
    all_handed_answer known no_exprs q k l w not_c not_n clear r = (tt, refl)
    all_handed_answer known (more_exprs e es) q k l w not_c not_n clear r =
        let it = handed_answers known e q k l w.0 (λ h. not_c (inl h)) (λ h. not_n (inl h)) clear.0 r in
        let rest = all_handed_answer known es q k l w.1 (λ h. not_c (inr h)) (λ h. not_n (inr h)) clear.1 r in
        ((it.0, rest.0), λ j. more_origins (it.1 j) (rest.1 j))

-- A part of a pair that is made there may have a `let` of its own, with a number that stands nowhere else.
use Rattle.std.proofs.Common.{◌≡◌, ◌≢◌, ℕ, zero, suc, if◌then◌else◌, Bool, true, false, ◌||◌, [], ◌∷◌, Some, refl, ap, sym, subst, ◌∙◌, ◌⊎◌, inl, inr, eq-eqb}
use Rattle.weld_tree.specs.declared.binder.Binder.{Binder}
use Rattle.weld_tree.specs.declared.known.Known.TheVariants.{Is}
use Rattle.weld_tree.specs.TypeTree.{TypeTree, TypeTrees, no_types, more_types}
use Rattle.weld_tree.specs.ExprTree.{At, ExprTree, leaf, one, two, three, many, let_in, loop, iterate, ExprTrees, no_exprs, more_exprs, int, truth, chars, name, fresh, neg, not, cast, len, field, finish, started, binary, and, or, look_up, key_exists, merge, if_else, select, slice, make_vec, make_struct}
use Rattle.weld_meaning.specs.Environment.{Named, look_for}
use Rattle.weld_meaning.specs.Typing.{Types, HasType, HaveTypes, ManyHas}
use Rattle.weld_meaning.specs.Origin.{Path, Origin, Origins, value, made, own, outer, named, struct, no_origins, more_origins, origin_at, field_origin, are_values, struct_origin, origin, origins}
use Rattle.weld_meaning.specs.Linear.{IsSeen, AreSeen, Keeps, AllKeep}
use Rattle.weld_meaning.specs.Available.{Apart, takes, without, is_below, is_builder_path}
use Rattle.weld_meaning.specs.Names.{IsFree, AgreeOn}
use Rattle.weld_meaning.proofs.FreeNames.{type_free, origin_free, keeps_free, taken_free, splits_free}
use Rattle.weld_meaning.proofs.Names.{agree_bind}
use Rattle.weld_meaning.proofs.OneType.{one_type}
use Rattle.weld_meaning.proofs.OriginTypes.{origin_forms, forms_bind}
use Rattle.weld_meaning.proofs.WellFormed.{type_formed, formed_bind}
use Rattle.weld_check_types.specs.Notes.{AreNoted, HasNote}
use Rattle.weld_substitution.proofs.PutTypes.{noted_free}
use Rattle.weld_rewriting.specs.Placed.{IsPlaced}
use Rattle.weld_rewriting.proofs.Parts.{body_of_let}
use Rattle.weld_substitution.specs.Redex.{noted}
use Rattle.weld_substitution.proofs.Bindings.{agree_over}
use Rattle.weld_substitution.proofs.Chains.{taken_named, or_true}
use Rattle.weld_substitution.proofs.Following.{or_left, or_right, chain_takes_it}
use Rattle.weld_substitution.proofs.Gaining.{without_is, else_without}
use Rattle.weld_vertical.proofs.Related.{placed_free, let_placed, let_taken}
use Rattle.weld_vertical_struct.specs.Parting.{part_binder}
use Rattle.weld_vertical_struct.proofs.Pairs.{pair_of_parts}

-- ---- what an expression answers is seen

seen_at : (n : ℕ) (os : Origins) → AreSeen os → IsSeen (origin_at n os)
seen_at n no_origins h = tt
seen_at zero (more_origins o os) h = h.0
seen_at (suc n) (more_origins o os) h = seen_at n os h.1

seen_field : (n : ℕ) (o : Origin) → IsSeen o → IsSeen (field_origin n o)
seen_field n value h = tt
seen_field n made h = tt
seen_field n (own w) h = tt
seen_field n outer h = h
seen_field n (named t w) h = tt
seen_field n (struct os) h = seen_at n os h

seen_struct : (os : Origins) → AreSeen os → IsSeen (struct_origin os)
seen_struct os h = by (are_values os)
  where
    by : (b : Bool) → IsSeen (if b then value else struct os)
    by true = tt
    by false = h

mutual
  pub answer_seen : (e : ExprTree) (g : Named Origin) → Keeps e g → IsSeen (origin e g)
  answer_seen (leaf a (int k x)) g h = tt
  answer_seen (leaf a (truth b)) g h = tt
  answer_seen (leaf a (chars bs)) g h = tt
  answer_seen (leaf a (name s)) g h = h
  answer_seen (leaf a (fresh b)) g h = tt
  answer_seen (one a neg e) g h = tt
  answer_seen (one a not e) g h = tt
  answer_seen (one a (cast k) e) g h = tt
  answer_seen (one a len e) g h = tt
  answer_seen (one a (field n) e) g h = seen_field n (origin e g) (answer_seen e g h.0)
  answer_seen (one a finish e) g h = tt
  answer_seen (one a (started b) e) g h = tt
  answer_seen (two a (binary op) e f) g h = tt
  answer_seen (two a and e f) g h = tt
  answer_seen (two a or e f) g h = tt
  answer_seen (two a look_up e f) g h = tt
  answer_seen (two a key_exists e f) g h = tt
  answer_seen (two a merge e f) g h = answer_seen e g h.0
  answer_seen (three a if_else c e f) g h = answer_seen e g h.1
  answer_seen (three a select c e f) g h = tt
  answer_seen (three a slice c e f) g h = tt
  answer_seen (many a make_vec es) g h = tt
  answer_seen (many a make_struct es) g h = seen_struct (origins es g) (answers_seen es g h)
  answer_seen (let_in a b e f) g h = answer_seen f ((b.sym.0, origin e g) ∷ g) h.1
  answer_seen (loop a ls e b n x f) g h = answer_seen e g h.1
  answer_seen (iterate a e b f) g h = tt

  answers_seen : (es : ExprTrees) (g : Named Origin) → AllKeep es g → AreSeen (origins es g)
  answers_seen no_exprs g h = tt
  answers_seen (more_exprs e es) g h = (answer_seen e g h.0, answers_seen es g h.1)

-- ---- what is noted of an expression is its type

noted_so : (a : At) (e : ExprTree) (g : Types) (t : TypeTree) → HasType e g t → HasNote a e g → a.ty ≡ Is t
noted_so a e g t h n = n.1 ∙ ap Is (one_type e g n.0 t n.2 h)

pub noted_is : (e : ExprTree) (g : Types) (t : TypeTree) → HasType e g t → AreNoted e g → noted e ≡ Is t
noted_is (leaf a l) g t h n = noted_so a (leaf a l) g t h n
noted_is (one a o e) g t h n = noted_so a (one a o e) g t h n.1
noted_is (two a o e f) g t h n = noted_so a (two a o e f) g t h n.2
noted_is (three a o c e f) g t h n = noted_so a (three a o c e f) g t h n.3
noted_is (many a o es) g t h n = noted_so a (many a o es) g t h n.1
noted_is (let_in a b e f) g t h n = noted_so a (let_in a b e f) g t h n.2
noted_is (loop a ls e b x y f) g t h n = noted_so a (loop a ls e b x y f) g t h n.3
noted_is (iterate a e b f) g t h n = noted_so a (iterate a e b f) g t h n.2

-- ---- the pair with a name for a part

-- a pair with a part `e` and another part, and the same with the name `z` for `e`, where that stands for what `e` comes to
pub record IsNamed (z : ℕ) (v w e f : ExprTree) (types : Types) (h : Named Origin) (u : TypeTree) : Type 0 where
  pub of : TypeTree
  pub part : IsPlaced e types h of
  pub there : IsPlaced w ((z, of) ∷ types) ((z, origin e h) ∷ h) u
  pub comes : origin w ((z, origin e h) ∷ h) ≡ origin v h
  pub apart : Apart (takes e h) (takes f h)
  pub taken : (s : ℕ) (q : Path) → takes w ((z, origin e h) ∷ h) s q ≡ true → (s ≡ z) ⊎ (takes f h s q ≡ true)
  pub by_part : (s : ℕ) (q : Path) → takes e h s q ≡ true → takes v h s q ≡ true
  pub by_other : (s : ℕ) (q : Path) → takes f h s q ≡ true → takes v h s q ≡ true
  pub all : (q : Path) → is_builder_path (origin e h) q ≡ true → takes w ((z, origin e h) ∷ h) z q ≡ true

abbrev pub name_leaf : At → ℕ → ExprTree → ExprTree
name_leaf m z e = leaf (record { place = m.place; ty = noted e }) (name z)

below_all : (q : Path) → is_below [] q ≡ true
below_all [] = refl
below_all (k ∷ q) = below_all q

or_none : (b : Bool) → (b || false) ≡ true → b ≡ true
or_none true h = refl
or_none false h = h

module _ (m : At) (z : ℕ) (e f : ExprTree) (not_other : IsFree f z → ⊥) (types : Types) (h : Named Origin) (u : TypeTree) where
  found : {A : Type 0} (y : A) (g : Named A) → look_for z ((z, y) ∷ g) ≡ Some y
  found y g = rw (eq-eqb z z refl) refl

  z_origin : origin (name_leaf m z e) ((z, origin e h) ∷ h) ≡ origin e h
  z_origin = rw (eq-eqb z z refl) refl

  other_agrees : AgreeOn (IsFree f) h ((z, origin e h) ∷ h)
  other_agrees = agree_over (IsFree f) z (origin e h) h not_other

  other_origin : origin f ((z, origin e h) ∷ h) ≡ origin f h
  other_origin = sym (origin_free f h ((z, origin e h) ∷ h) other_agrees)

  other_taken : (s : ℕ) (q : Path) → takes f ((z, origin e h) ∷ h) s q ≡ true → takes f h s q ≡ true
  other_taken s q k = ap (λ (t : ℕ → Path → Bool). t s q) (taken_free f h ((z, origin e h) ∷ h) other_agrees) ∙ k

  z_taken : (q : Path) → is_builder_path (origin e h) q ≡ true → takes (name_leaf m z e) ((z, origin e h) ∷ h) z q ≡ true
  z_taken q k = chain_takes_it (name_leaf m z e) (z, []) ((z, origin e h) ∷ h) z q refl refl (below_all q) (subst (λ y. is_builder_path y q ≡ true) (sym z_origin) k)

  not_z : (s : ℕ) (q : Path) → takes (name_leaf m z e) ((z, origin e h) ∷ h) s q ≡ true → takes f ((z, origin e h) ∷ h) s q ≡ true → ⊥
  not_z s q k l = not_other (subst (IsFree f) (taken_named (name_leaf m z e) ((z, origin e h) ∷ h) s q k) (taken_named f ((z, origin e h) ∷ h) s q l))

  pub first_named : IsPlaced (pair_of_parts m e f) types h u → IsNamed z (pair_of_parts m e f) (pair_of_parts m (name_leaf m z e) f) e f types h u
  first_named p = by p.typed.0 p.typed.1 p.typed.2
    where
      by : (us : TypeTrees) → HaveTypes (more_exprs e (more_exprs f no_exprs)) types us → ManyHas make_struct us u → IsNamed z (pair_of_parts m e f) (pair_of_parts m (name_leaf m z e) f) e f types h u
      by no_types k l = absurd k
      by (more_types t no_types) k l = absurd k.1
      by (more_types t (more_types y (more_types i j))) k l = absurd k.1.1
      by (more_types t (more_types y no_types)) k l =
          let part : IsPlaced e types h t = record { formed = p.formed; forms = p.forms; typed = k.0; keeps = p.keeps.0; splits = p.splits.0; noted = p.noted.0.0 } in
          let types_agree : AgreeOn (IsFree f) types ((z, t) ∷ types) = agree_over (IsFree f) z t types not_other in
          let typed : HasType (pair_of_parts m (name_leaf m z e) f) ((z, t) ∷ types) u = (more_types t (more_types y no_types), (found t types, (type_free f types ((z, t) ∷ types) y types_agree k.1.0, tt)), l) in
          record {
            of = t;
            part = part;
            there = record {
              formed = formed_bind types z t (type_formed e types t k.0 p.formed) p.formed;
              forms = forms_bind h types z (origin e h) t (origin_forms e h types t k.0 p.formed p.forms) p.forms;
              typed = typed;
              keeps = (subst IsSeen (sym z_origin) (answer_seen e h p.keeps.0), (keeps_free f h ((z, origin e h) ∷ h) other_agrees p.keeps.1.0, tt));
              splits = (
                tt,
                (splits_free f h ((z, origin e h) ∷ h) other_agrees p.splits.1.0, tt, record { apart = λ s q i j. let no : ⊥ = cc in absurd no }),
                record { apart = λ s q i j. not_z s q i (or_none (takes f ((z, origin e h) ∷ h) s q) j) },
              );
              noted = (
                ((t, noted_is e types t k.0 p.noted.0.0, found t types), (noted_free f types ((z, t) ∷ types) types_agree p.noted.0.1.0, tt)),
                (u, noted_so m (pair_of_parts m e f) types u p.typed p.noted.1, typed),
              );
            };
            comes = λ i. struct_origin (more_origins (z_origin i) (more_origins (other_origin i) no_origins));
            apart = record { apart = λ s q i j. p.splits.2.apart s q i (or_left (takes f h s q) false j) };
            taken = λ s q i. taken s q (or_true (takes (name_leaf m z e) ((z, origin e h) ∷ h) s q) (takes f ((z, origin e h) ∷ h) s q || false) i);
            by_part = λ s q i. or_left (takes e h s q) (takes f h s q || false) i;
            by_other = λ s q i. or_right (takes e h s q) (takes f h s q || false) (or_left (takes f h s q) false i);
            all = λ q i. or_left (takes (name_leaf m z e) ((z, origin e h) ∷ h) z q) (takes f ((z, origin e h) ∷ h) z q || false) (z_taken q i);
          }
        where
          taken : (s : ℕ) (q : Path) → (takes (name_leaf m z e) ((z, origin e h) ∷ h) s q ≡ true) ⊎ ((takes f ((z, origin e h) ∷ h) s q || false) ≡ true) → (s ≡ z) ⊎ (takes f h s q ≡ true)
          taken s q (inl i) = inl (taken_named (name_leaf m z e) ((z, origin e h) ∷ h) s q i)
          taken s q (inr i) = inr (other_taken s q (or_none (takes f ((z, origin e h) ∷ h) s q) i))

  pub second_named : IsPlaced (pair_of_parts m f e) types h u → IsNamed z (pair_of_parts m f e) (pair_of_parts m f (name_leaf m z e)) e f types h u
  second_named p = by p.typed.0 p.typed.1 p.typed.2
    where
      by : (us : TypeTrees) → HaveTypes (more_exprs f (more_exprs e no_exprs)) types us → ManyHas make_struct us u → IsNamed z (pair_of_parts m f e) (pair_of_parts m f (name_leaf m z e)) e f types h u
      by no_types k l = absurd k
      by (more_types t no_types) k l = absurd k.1
      by (more_types t (more_types y (more_types i j))) k l = absurd k.1.1
      by (more_types y (more_types t no_types)) k l =
          let part : IsPlaced e types h t = record { formed = p.formed; forms = p.forms; typed = k.1.0; keeps = p.keeps.1.0; splits = p.splits.1.0; noted = p.noted.0.1.0 } in
          let types_agree : AgreeOn (IsFree f) types ((z, t) ∷ types) = agree_over (IsFree f) z t types not_other in
          let typed : HasType (pair_of_parts m f (name_leaf m z e)) ((z, t) ∷ types) u = (more_types y (more_types t no_types), (type_free f types ((z, t) ∷ types) y types_agree k.0, (found t types, tt)), l) in
          record {
            of = t;
            part = part;
            there = record {
              formed = formed_bind types z t (type_formed e types t k.1.0 p.formed) p.formed;
              forms = forms_bind h types z (origin e h) t (origin_forms e h types t k.1.0 p.formed p.forms) p.forms;
              typed = typed;
              keeps = (keeps_free f h ((z, origin e h) ∷ h) other_agrees p.keeps.0, (subst IsSeen (sym z_origin) (answer_seen e h p.keeps.1.0), tt));
              splits = (
                splits_free f h ((z, origin e h) ∷ h) other_agrees p.splits.0,
                (tt, tt, record { apart = λ s q i j. let no : ⊥ = cc in absurd no }),
                record { apart = λ s q i j. not_z s q (or_none (takes (name_leaf m z e) ((z, origin e h) ∷ h) s q) j) i },
              );
              noted = (
                (noted_free f types ((z, t) ∷ types) types_agree p.noted.0.0, ((t, noted_is e types t k.1.0 p.noted.0.1.0, found t types), tt)),
                (u, noted_so m (pair_of_parts m f e) types u p.typed p.noted.1, typed),
              );
            };
            comes = λ i. struct_origin (more_origins (other_origin i) (more_origins (z_origin i) no_origins));
            apart = record { apart = λ s q i j. p.splits.2.apart s q j (or_left (takes e h s q) false i) };
            taken = λ s q i. taken s q (or_true (takes f ((z, origin e h) ∷ h) s q) (takes (name_leaf m z e) ((z, origin e h) ∷ h) s q || false) i);
            by_part = λ s q i. or_right (takes f h s q) (takes e h s q || false) (or_left (takes e h s q) false i);
            by_other = λ s q i. or_left (takes f h s q) (takes e h s q || false) i;
            all = λ q i. or_right (takes f ((z, origin e h) ∷ h) z q) (takes (name_leaf m z e) ((z, origin e h) ∷ h) z q || false) (or_left (takes (name_leaf m z e) ((z, origin e h) ∷ h) z q) false (z_taken q i));
          }
        where
          taken : (s : ℕ) (q : Path) → (takes f ((z, origin e h) ∷ h) s q ≡ true) ⊎ ((takes (name_leaf m z e) ((z, origin e h) ∷ h) s q || false) ≡ true) → (s ≡ z) ⊎ (takes f h s q ≡ true)
          taken s q (inl i) = inr (other_taken s q i)
          taken s q (inr i) = inl (taken_named (name_leaf m z e) ((z, origin e h) ∷ h) s q (or_none (takes (name_leaf m z e) ((z, origin e h) ∷ h) s q) i))

-- ---- the `let` of the pair

-- with the part's own `let` around it
pub let_named : (a : At) (b : Binder) (z : ℕ) (v w e f g : ExprTree) (types : Types) (h : Named Origin) (t : TypeTree) → (z ≢ b.sym.0) → (IsFree g z → ⊥) → (p : IsPlaced (let_in a b v g) types h t) → IsNamed z v w e f types h p.typed.0 → IsPlaced (let_in a (part_binder z b) e (let_in a b w g)) types h t
let_named a b z v w e f g types h t other not_body p n =
    let_placed a (part_binder z b) e inner types h n.of t (origin e h) refl note tt n.part inner_placed (record { apart = λ s q i j. outer_apart s q i j }) (record { all = λ q i. in_inner z q (or_left (takes w now z q) (without s_of (takes g body_now) z q) (n.all q i)) })
  where
    s_of : ℕ
    s_of = b.sym.0

    u : TypeTree
    u = p.typed.0

    inner : ExprTree
    inner = let_in a b w g

    now : Named Origin
    now = (z, origin e h) ∷ h

    body_now : Named Origin
    body_now = (s_of, origin v h) ∷ now

    body_then : Named Origin
    body_then = (s_of, origin v h) ∷ h

    note : a.ty ≡ Is t
    note = noted_so a (let_in a b v g) types t p.typed p.noted.2

    body_agrees : AgreeOn (IsFree g) body_then body_now
    body_agrees = agree_bind (IsFree g) (IsFree g) s_of (origin v h) h now (λ s k ne. k) (agree_over (IsFree g) z (origin e h) h not_body)

    types_agree : AgreeOn (IsFree g) ((s_of, u) ∷ types) ((s_of, u) ∷ (z, n.of) ∷ types)
    types_agree = agree_bind (IsFree g) (IsFree g) s_of u types ((z, n.of) ∷ types) (λ s k ne. k) (agree_over (IsFree g) z n.of types not_body)

    body_same : takes g body_then ≡ takes g body_now
    body_same = taken_free g body_then body_now body_agrees

    body_taken : (s : ℕ) (q : Path) → takes g body_now s q ≡ true → takes g body_then s q ≡ true
    body_taken s q k = ap (λ (t : ℕ → Path → Bool). t s q) body_same ∙ k

    body_placed : IsPlaced g ((s_of, u) ∷ (z, n.of) ∷ types) body_now t
    body_placed =
        placed_free g ((s_of, u) ∷ types) ((s_of, u) ∷ (z, n.of) ∷ types) body_then body_now t types_agree body_agrees
        (formed_bind ((z, n.of) ∷ types) s_of u (type_formed v types u p.typed.1 p.formed) n.there.formed)
        (forms_bind now ((z, n.of) ∷ types) s_of (origin v h) u (origin_forms v h types u p.typed.1 p.formed p.forms) n.there.forms)
        (body_of_let a b v g types h t p)

    let_apart : (s : ℕ) (q : Path) → takes w now s q ≡ true → without s_of (takes g body_now) s q ≡ true → ⊥
    let_apart s q i j = by (n.taken s q i) (without_is s_of s q (takes g body_now) j)
      where
        by : (s ≡ z) ⊎ (takes f h s q ≡ true) → (s_of ≢ s) × (takes g body_now s q ≡ true) → ⊥
        by (inl k) l = not_body (subst (IsFree g) k (taken_named g body_now s q l.1))
        by (inr k) l = p.splits.2.apart s q (n.by_other s q k) (else_without s_of s q (takes g body_then) l.0 (body_taken s q l.1))

    inner_placed : IsPlaced inner ((z, n.of) ∷ types) now t
    inner_placed =
        let_placed a b w g ((z, n.of) ∷ types) now u t (origin v h) n.comes note p.typed.2 n.there body_placed
        (record { apart = λ s q i j. let_apart s q i j })
        (record { all = λ q i. sym (ap (λ (t : ℕ → Path → Bool). t s_of q) body_same) ∙ p.splits.3.all q i })

    in_inner : (s : ℕ) (q : Path) → (takes w now s q || without s_of (takes g body_now) s q) ≡ true → takes inner now s q ≡ true
    in_inner s q k = let_taken a b w g now (origin v h) n.comes s q ∙ k

    outer_apart : (s : ℕ) (q : Path) → takes e h s q ≡ true → without z (takes inner now) s q ≡ true → ⊥
    outer_apart s q i j = by (without_is z s q (takes inner now) j)
      where
        last : (z ≢ s) → (takes w now s q ≡ true) ⊎ (without s_of (takes g body_now) s q ≡ true) → ⊥
        last ne (inl k) = of_pair (n.taken s q k)
          where
            of_pair : (s ≡ z) ⊎ (takes f h s q ≡ true) → ⊥
            of_pair (inl l) = ne (sym l)
            of_pair (inr l) = n.apart.apart s q i l
        last ne (inr k) = let l = without_is s_of s q (takes g body_now) k in p.splits.2.apart s q (n.by_part s q i) (else_without s_of s q (takes g body_then) l.0 (body_taken s q l.1))

        by : (z ≢ s) × (takes inner now s q ≡ true) → ⊥
        by k = last k.0 (or_true (takes w now s q) (without s_of (takes g body_now) s q) (sym (let_taken a b w g now (origin v h) n.comes s q) ∙ k.1))

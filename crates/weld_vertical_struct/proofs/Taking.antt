-- What is taken of the names of a pair's parts is what was taken of the pair; and the rules of linear use are kept.
use Rattle.std.specs.Prelude.{is_some}
use Rattle.std.proofs.Common.{◌≡◌, ◌≢◌, ℕ, zero, suc, ◌==◌, if◌then◌else◌, Bool, true, false, ◌&&◌, ◌||◌, [], ◌∷◌, ◌++◌, Option, Some, None, option_map, refl, ap, sym, subst, ◌∙◌, ◌⊎◌, inl, inr, eq-eqb, ne_eqb}
use Rattle.std.proofs.lemmas.Bool.{cases_eq}
use Rattle.weld_tree.specs.declared.binder.Binder.{Binder}
use Rattle.weld_tree.specs.ExprTree.{At, ExprTree, leaf, one, two, three, many, let_in, loop, iterate, ExprTrees, no_exprs, more_exprs, LegTree, whole, strided, LegTrees, no_legs, more_legs, Leaf, int, truth, chars, name, fresh, One, neg, not, cast, len, field, finish, started, Two, binary, and, or, look_up, key_exists, merge, Three, if_else, select, slice}
use Rattle.weld_meaning.specs.Environment.{Named, look_for}
use Rattle.weld_meaning.specs.Origin.{Path, Origin, value, made, own, outer, named, struct, Origins, no_origins, more_origins, origin_at, field_origin, known_origin, origin_of_name, origin, own_paths, outside, in_body, in_turn, from_within}
use Rattle.weld_meaning.specs.Linear.{IsSeen, AreSeen, LeafKeeps, OneKeeps, ThreeKeeps, Keeps, AllKeep, LegKeeps, LegsKeep}
use Rattle.weld_meaning.specs.Available.{Taken, Apart, Alike, TakesNone, TakesAll, without, at_path, is_builder, is_builder_path, same_path, is_below, chain_of_one, chain_of, chain_takes, takes, some_take, leg_takes, legs_take, ChainSplits, OneSplits, TwoSplits, ThreeSplits, Splits, AllSplit, LegSplits, LegsSplit}
use Rattle.weld_meaning.specs.Names.{IsFree, AgreeOn}
use Rattle.weld_meaning.proofs.Before.{look_for-map}
use Rattle.weld_meaning.proofs.Names.{agree_bind}
use Rattle.weld_meaning.proofs.FreeNames.{keeps_free, splits_free, taken_free, origin_free}
use Rattle.weld_substitution.specs.Redex.{is_field}
use Rattle.weld_substitution.proofs.Chains.{chain_by}
use Rattle.weld_substitution.proofs.Following.{is_below_on, at_path_on}
use Rattle.weld_vertical_struct.specs.Parting.{field_taken, parted_one, all_parted, leg_parted, legs_parted, is_part}
use Rattle.weld_vertical_struct.proofs.Parts.{Pair, Carries, stays, IsPartNumber, IsElse, HasNeither, part, part_first, part_other, LeafIsOfParts, OneIsOfParts, IsOfParts, AreOfParts, LegIsOfParts, LegsAreOfParts, parts, field_by, origin_carried}
use Rattle.weld_vertical_struct.proofs.Renaming.{to_end, root, tail, root_first, tail_first, root_behind, tail_other, tail_else, root_part, tail_part, IsPartOf, ArePaired, arms_paired}

module _ (m : Pair) where
  -- ---- names

  over : {A : Type 0} (t z : ℕ) (o : A) (g : Named A) → t ≢ z → look_for t ((z, o) ∷ g) ≡ look_for t g
  over t z o g ne = rw (ne_eqb t z ne) refl

  part_else : (n z : ℕ) → IsPartNumber m n → IsElse m z → part m n ≢ z
  part_else n z (inl e) k h = k.1 (sym (sym (part_first m) ∙ ap (part m) (sym e) ∙ h))
  part_else n z (inr e) k h = k.0 (sym (sym (part_other m) ∙ ap (part m) (sym e) ∙ h))

  pub paired_bind : (z : ℕ) (o : Origin) (p q : Named Origin) → IsElse m z → ArePaired m p q → ArePaired m ((z, o) ∷ p) ((z, o) ∷ q)
  paired_bind z o p q k r = record {
    parts = λ n h.
        let x : origin_of_name m.s ((z, o) ∷ p) ≡ origin_of_name m.s p = ap known_origin (over m.s z o p (λ y. k.0 (sym y))) in
        let y : origin_of_name (part m n) ((z, o) ∷ q) ≡ origin_of_name (part m n) q = ap known_origin (over (part m n) z o q (part_else n z h k)) in
        subst (λ u. IsPartOf m u n (origin_of_name (part m n) ((z, o) ∷ q))) (sym x) (subst (IsPartOf m (origin_of_name m.s p) n) (sym y) (r.parts n h));
    others = agree_bind (IsElse m) (IsElse m) z o p q (λ t h ne. h) r.others;
  }

  carried : (p q : Named Origin) → ArePaired m p q → Carries m stays p q
  carried p q r = record { parts = λ n h. (r.parts n h).from; others = λ t h. ap known_origin (r.others.agree t h) }

  -- what is answered comes from where it came from
  pub origin_parted : (e : ExprTree) (p q : Named Origin) → IsOfParts m e → ArePaired m p q → origin e p ≡ origin (parts m e) q
  origin_parted e p q h r = origin_carried m stays e p q h (carried p q r)

  -- in a lambda neither name is free
  pub agree_within : (f : ExprTree) (b n y : Binder) (o : Origin) (p q : Named Origin) → HasNeither m f → ArePaired m p q → AgreeOn (IsFree f) (in_body b n y o p) (in_body b n y o q)
  agree_within f b n y o p q h r =
      agree_bind (IsFree f) (IsFree f) y.sym.0 value _ _ (λ t k ne. k)
      (agree_bind (IsFree f) (IsFree f) n.sym.0 value _ _ (λ t k ne. k) (agree_bind (IsFree f) (IsFree f) b.sym.0 (own_paths o) _ _ (λ t k ne. k) (agree_without f p q h r)))
    where
      agree_without : (f : ExprTree) (p q : Named Origin) → HasNeither m f → ArePaired m p q → AgreeOn (IsFree f) (outside p) (outside q)
      agree_without f p q h r = record {
        agree = λ t k.
            look_for-map from_within t p ∙ ap (option_map from_within) (r.others.agree t ((λ e. h.0 (subst (IsFree f) e k)), (λ e. h.1 (subst (IsFree f) e k)))) ∙ sym (look_for-map from_within t q);
      }

  pub agree_turn : (f : ExprTree) (b : Binder) (p q : Named Origin) → HasNeither m f → ArePaired m p q → AgreeOn (IsFree f) (in_turn b p) (in_turn b q)
  agree_turn f b p q h r =
      agree_bind (IsFree f) (IsFree f) b.sym.0 value _ _ (λ t k ne. k)
      (record {
        agree = λ t k.
            look_for-map from_within t p ∙ ap (option_map from_within) (r.others.agree t ((λ e. h.0 (subst (IsFree f) e k)), (λ e. h.1 (subst (IsFree f) e k)))) ∙ sym (look_for-map from_within t q);
      })

  -- ---- what is taken

  -- of a name what was taken of the field of the pair for which it stands
  abbrev pub Moved : Taken → Taken → Type 0
  Moved A B = (t : ℕ) (w : Path) → A t w ≡ B (root m t) (w ++ tail m t)

  below_all : (w : Path) → is_below [] w ≡ true
  below_all [] = refl
  below_all (k ∷ w) = below_all w

  not_below : (n k : ℕ) (w : Path) → n ≢ k → is_below (n ∷ []) (w ++ k ∷ []) ≡ false
  not_below n k [] ne = ap (λ b. (b && true) || false) (ne_eqb n k ne)
  not_below n k (l ∷ w) ne = (λ i. longer w i || not_below n k w ne i)
    where
      longer : (v : Path) → same_path (n ∷ []) (l ∷ (v ++ k ∷ [])) ≡ false
      longer [] = never (n == l)
        where
          never : (b : Bool) → (b && false) ≡ false
          never true = refl
          never false = refl
      longer (a ∷ v) = never (n == l)
        where
          never : (b : Bool) → (b && false) ≡ false
          never true = refl
          never false = refl

  -- no other name is below
  chain_apart : (c : ℕ × Path) (g : Named Origin) (t : ℕ) (w : Path) (b : Bool) → c.0 ≢ t → chain_takes (Some c) g t w b ≡ false
  chain_apart c g t w b ne = ap (λ y. y && (is_below c.1 w && is_builder_path (origin_of_name t g) w)) (ne_eqb c.0 t ne)

  not_root : (c t : ℕ) → IsElse m c → c ≢ t → c ≢ root m t
  not_root c t h ne e = by (cases_eq t m.x)
    where
      by : (t ≡ m.x) ⊎ (t ≢ m.x) → ⊥
      by (inl y) = h.0 (e ∙ root_first m t y)
      by (inr y) = ne (e ∙ root_behind m t y)

  -- a chain of another name
  chain_moved : (c : ℕ × Path) (p q : Named Origin) (a b : Bool) → IsElse m c.0 → ArePaired m p q → (t : ℕ) (w : Path) → chain_takes (Some c) q t w a ≡ chain_takes (Some c) p (root m t) (w ++ tail m t) b
  chain_moved c p q a b h r t w = by (cases_eq c.0 t)
    where
      by : (c.0 ≡ t) ⊎ (c.0 ≢ t) → chain_takes (Some c) q t w a ≡ chain_takes (Some c) p (root m t) (w ++ tail m t) b
      by (inl e) =
          let k : IsElse m t = subst (IsElse m) e h in
          let there : root m t ≡ t = root_behind m t k.1 in
          let behind : w ++ tail m t ≡ w = ap (λ u. w ++ u) (tail_else m t k) ∙ to_end w in
          let same : origin_of_name t q ≡ origin_of_name t p = ap known_origin (sym (r.others.agree t k)) in
          (λ i. (c.0 == t) && (is_below c.1 w && is_builder_path (same i) w)) ∙ sym (λ i. chain_takes (Some c) p (there i) (behind i) b)
      by (inr ne) = chain_apart c q t w a ne ∙ sym (chain_apart c p (root m t) (w ++ tail m t) b (not_root c.0 t h ne))

  -- the name of a part, and the field of the pair
  part_moved : (n : ℕ) (p q : Named Origin) (a b : Bool) → IsPartNumber m n → ArePaired m p q → (t : ℕ) (w : Path) → chain_takes (Some (part m n, [])) q t w a ≡ chain_takes (Some (m.s, n ∷ [])) p (root m t) (w ++ tail m t) b
  part_moved n p q a b h r t w = by (cases_eq (part m n) t)
    where
      other_part : (k : ℕ) → root m t ≡ m.s → tail m t ≡ k ∷ [] → n ≢ k → chain_takes (Some (m.s, n ∷ [])) p (root m t) (w ++ tail m t) b ≡ false
      other_part k e f ne =
          (λ i. (m.s == e i) && (is_below (n ∷ []) (w ++ f i) && is_builder_path (origin_of_name (e i) p) (w ++ f i)))
          ∙ (λ i. (m.s == m.s) && (not_below n k w ne i && is_builder_path (origin_of_name m.s p) (w ++ k ∷ [])))
          ∙ never (m.s == m.s)
        where
          never : (y : Bool) → (y && false) ≡ false
          never true = refl
          never false = refl

      aside : (part m n ≢ t) → IsPartNumber m n → (t ≡ m.x) ⊎ (t ≢ m.x) → chain_takes (Some (m.s, n ∷ [])) p (root m t) (w ++ tail m t) b ≡ false
      aside ne (inl k) (inl e) = absurd (ne (ap (part m) k ∙ part_first m ∙ sym e))
      aside ne (inr k) (inl e) = other_part m.i (root_first m t e) (tail_first m t e) (λ y. m.other (sym y ∙ k))
      aside ne k (inr nx) = further (cases_eq t m.s) k
        where
          further : (t ≡ m.s) ⊎ (t ≢ m.s) → IsPartNumber m n → chain_takes (Some (m.s, n ∷ [])) p (root m t) (w ++ tail m t) b ≡ false
          further (inl e) (inl y) = other_part m.j (root_behind m t nx ∙ e) (tail_other m t e) (λ z. m.other (sym y ∙ z))
          further (inl e) (inr y) = absurd (ne (ap (part m) y ∙ part_other m ∙ sym e))
          further (inr ns) y = chain_apart (m.s, n ∷ []) p (root m t) (w ++ tail m t) b (λ e. ns (sym (e ∙ root_behind m t nx)))

      by : (part m n ≡ t) ⊎ (part m n ≢ t) → chain_takes (Some (part m n, [])) q t w a ≡ chain_takes (Some (m.s, n ∷ [])) p (root m t) (w ++ tail m t) b
      by (inl e) =
          let there : root m t ≡ m.s = ap (root m) (sym e) ∙ root_part m n h in
          let behind : tail m t ≡ n ∷ [] = ap (tail m) (sym e) ∙ tail_part m n h in
          let builders : is_builder_path (origin_of_name m.s p) (w ++ n ∷ []) ≡ is_builder_path (origin_of_name (part m n) q) w =
          ap is_builder (at_path_on w (n ∷ []) (origin_of_name m.s p) ∙ ap (at_path w) (r.parts n h).leads) in
          (λ i. (eq-eqb (part m n) t e i) && (below_all w i && is_builder_path (origin_of_name t q) w))
          ∙ (λ i. is_builder_path (origin_of_name (sym e i) q) w)
          ∙ sym builders
          ∙ sym (λ i. (eq-eqb m.s m.s refl i) && (is_below_on w (n ∷ []) i && is_builder_path (origin_of_name m.s p) (w ++ n ∷ [])))
          ∙ sym (λ i. (m.s == there i) && (is_below (n ∷ []) (w ++ behind i) && is_builder_path (origin_of_name (there i) p) (w ++ behind i)))
      by (inr ne) = chain_apart (part m n, []) q t w a ne ∙ sym (aside ne h (cases_eq t m.x))

  -- ---- chains

  -- a chain that isn't a field of the pair stays
  pub chain_kept : (e : ExprTree) (c : ℕ × Path) → chain_of e ≡ Some c → IsOfParts m e → is_part m.s e ≡ false → IsElse m c.0 × (parts m e ≡ e)
  chain_kept e c k =
      chain_by (λ d y. IsOfParts m d → is_part m.s d ≡ false → IsElse m y.0 × (parts m d ≡ d))
      (λ a t h n. (h, refl))
      (λ a n d y w f h l. by a n d y (field_taken m.s (field n) d) refl h l f) e c k
    where
      by : (a : At) (n : ℕ) (d : ExprTree) (y : ℕ × Path) (t : Option ℕ) → field_taken m.s (field n) d ≡ t → OneIsOfParts m t (is_part m.s d) (IsOfParts m d) → is_some t ≡ false → (IsOfParts m d → is_part m.s d ≡ false → IsElse m y.0 × (parts m d ≡ d)) → IsElse m y.0 × (parted_one m.s m.x m.i a t (one a (field n) (parts m d)) ≡ one a (field n) d)
      by a n d y (Some k) w h l f = let nothing : ⊥ = cc in absurd nothing
      by a n d y None w h l f = let z = f h.1 h.0 in (z.0, ap (one a (field n)) z.1)

  pub none_kept : (e : ExprTree) → IsOfParts m e → chain_of e ≡ None → chain_of (parts m e) ≡ None
  none_kept (leaf a l) h k = k
  none_kept (one a o e) h k = by (field_taken m.s o e) refl h (none_kept e)
    where
      inside : (o : One) → chain_of_one o (chain_of e) ≡ None → (chain_of e ≡ None → chain_of (parts m e) ≡ None) → chain_of_one o (chain_of (parts m e)) ≡ None
      inside neg k f = refl
      inside not k f = refl
      inside (cast y) k f = refl
      inside len k f = refl
      inside (field n) k f = ap (option_map {U = ℕ × Path} (λ (y : ℕ × Path). (y.0, n ∷ y.1))) (f (no_part (chain_of e) k))
        where
          no_part : (c : Option (ℕ × Path)) → option_map {U = ℕ × Path} (λ (y : ℕ × Path). (y.0, n ∷ y.1)) c ≡ None → c ≡ None
          no_part (Some y) z = let nothing : ⊥ = cc in absurd nothing
          no_part None z = refl
      inside finish k f = refl
      inside (started b) k f = refl

      by : (t : Option ℕ) → field_taken m.s o e ≡ t → OneIsOfParts m t (is_field o && is_part m.s e) (IsOfParts m e) → (IsOfParts m e → chain_of e ≡ None → chain_of (parts m e) ≡ None) → chain_of (parted_one m.s m.x m.i a t (one a o (parts m e))) ≡ None
      by (Some n) w u f =
          field_by m.s (λ d y n. chain_of_one d (chain_of y) ≡ None → chain_of (parted_one m.s m.x m.i a (Some n) (one a o (parts m e))) ≡ None) (λ b n z. let nothing : ⊥ = cc in absurd nothing) o e n w k
      by None w u f = inside o k (f u.1)
  none_kept (two a o e f) h k = refl
  none_kept (three a o c e f) h k = refl
  none_kept (many a o es) h k = refl
  none_kept (let_in a b e f) h k = refl
  none_kept (loop a ls e b n y f) h k = refl
  none_kept (iterate a e b f) h k = refl

  -- ---- through expressions

  either_moved : (A B C D : Taken) → Moved A C → Moved B D → Moved (λ t w. A t w || B t w) (λ t w. C t w || D t w)
  either_moved A B C D f g t w = λ i. f t w i || g t w i

  same_root : (z t : ℕ) → IsElse m z → (z == t) ≡ (z == root m t)
  same_root z t h = by (cases_eq z t)
    where
      by : (z ≡ t) ⊎ (z ≢ t) → (z == t) ≡ (z == root m t)
      by (inl e) = ap (λ k. z == k) (sym (root_behind m t (λ y. h.1 (e ∙ y))))
      by (inr ne) = ne_eqb z t ne ∙ sym (ne_eqb z (root m t) (not_root z t h ne))

  without_moved : (z : ℕ) (A B : Taken) → IsElse m z → Moved A B → Moved (without z A) (without z B)
  without_moved z A B h f t w = λ i. if same_root z t h i then false else f t w i

  one_moved : (a : At) (o : One) (e : ExprTree) (p q : Named Origin) → (is_field o && is_part m.s e) ≡ false → IsOfParts m e → ArePaired m p q → Moved (takes (parts m e) q) (takes e p) → Moved (takes (one a o (parts m e)) q) (takes (one a o e) p)
  one_moved a neg e p q n h r f t w = f t w
  one_moved a not e p q n h r f t w = f t w
  one_moved a (cast k) e p q n h r f t w = f t w
  one_moved a len e p q n h r f t w = f t w
  one_moved a (field k) e p q n h r f t w = by (chain_of e) refl
    where
      by : (c : Option (ℕ × Path)) → chain_of e ≡ c → chain_takes (chain_of_one (field k) (chain_of (parts m e))) q t w (takes (parts m e) q t w) ≡ chain_takes (chain_of_one (field k) (chain_of e)) p (root m t) (w ++ tail m t) (takes e p (root m t) (w ++ tail m t))
      by (Some c) l =
          let y = chain_kept e c l h n in
          (λ i. chain_takes (chain_of_one (field k) (chain_of (y.1 i))) q t w (takes (parts m e) q t w))
          ∙ (λ i. chain_takes (chain_of_one (field k) (l i)) q t w (takes (parts m e) q t w))
          ∙ chain_moved (c.0, k ∷ c.1) p q (takes (parts m e) q t w) (takes e p (root m t) (w ++ tail m t)) y.0 r t w
          ∙ sym (λ i. chain_takes (chain_of_one (field k) (l i)) p (root m t) (w ++ tail m t) (takes e p (root m t) (w ++ tail m t)))
      by None l =
          (λ i. chain_takes (chain_of_one (field k) (none_kept e h l i)) q t w (takes (parts m e) q t w))
          ∙ f t w
          ∙ sym (λ i. chain_takes (chain_of_one (field k) (l i)) p (root m t) (w ++ tail m t) (takes e p (root m t) (w ++ tail m t)))
  one_moved a finish e p q n h r f t w = f t w
  one_moved a (started b) e p q n h r f t w = f t w

  mutual
    pub taken_moved : (e : ExprTree) (p q : Named Origin) → IsOfParts m e → ArePaired m p q → Moved (takes (parts m e) q) (takes e p)
    taken_moved (leaf a (int k y)) p q h r t w = refl
    taken_moved (leaf a (truth b)) p q h r t w = refl
    taken_moved (leaf a (chars bs)) p q h r t w = refl
    taken_moved (leaf a (name y)) p q h r t w = chain_moved (y, []) p q false false h r t w
    taken_moved (leaf a (fresh b)) p q h r t w = refl
    taken_moved (one a o e) p q h r t w = by (field_taken m.s o e) refl h (λ k. taken_moved e p q k r)
      where
        by : (n : Option ℕ) → field_taken m.s o e ≡ n → OneIsOfParts m n (is_field o && is_part m.s e) (IsOfParts m e) → (IsOfParts m e → Moved (takes (parts m e) q) (takes e p)) → takes (parted_one m.s m.x m.i a n (one a o (parts m e))) q t w ≡ takes (one a o e) p (root m t) (w ++ tail m t)
        by (Some n) l k f =
            field_by m.s (λ d y n. IsPartNumber m n → chain_takes (Some (part m n, [])) q t w false ≡ takes (one a d y) p (root m t) (w ++ tail m t))
            (λ b n k. part_moved n p q false (takes (leaf b (name m.s)) p (root m t) (w ++ tail m t)) k r t w) o e n l k
        by None l k f = one_moved a o e p q k.0 k.1 r (f k.1) t w
    taken_moved (two a o e f) p q h r t w = let y = taken_moved e p q h.0 r t w in let z = taken_moved f p q h.1 r t w in λ i. y i || z i
    taken_moved (three a o d e f) p q h r t w =
        let x = taken_moved d p q h.0 r t w in let y = taken_moved e p q h.1 r t w in let z = taken_moved f p q h.2 r t w in λ i. x i || (y i || z i)
    taken_moved (many a o es) p q h r t w = some_moved es p q h r t w
    taken_moved (let_in a b e f) p q h r t w =
        let y = taken_moved e p q h.1 r t w in
        let inner = paired_bind b.sym.0 (origin e p) p q h.0 r in
        let z = taken_moved f ((b.sym.0, origin e p) ∷ p) ((b.sym.0, origin e p) ∷ q) h.2 inner in
        (λ i. takes (parts m e) q t w || (if b.sym.0 == t then false else takes (parts m f) ((b.sym.0, sym (origin_parted e p q h.1 r) i) ∷ q) t w))
        ∙ (λ i. y i || without_moved b.sym.0 (takes (parts m f) ((b.sym.0, origin e p) ∷ q)) (takes f ((b.sym.0, origin e p) ∷ p)) h.0 z t w i)
    taken_moved (loop a ls e b n y f) p q h r t w = let u = legs_moved ls p q h.0 r t w in let z = taken_moved e p q h.1 r t w in λ i. u i || z i
    taken_moved (iterate a e b f) p q h r t w = taken_moved e p q h.0 r t w

    some_moved : (es : ExprTrees) (p q : Named Origin) → AreOfParts m es → ArePaired m p q → Moved (some_take (all_parted m.s m.x m.i es) q) (some_take es p)
    some_moved no_exprs p q h r t w = refl
    some_moved (more_exprs e es) p q h r t w = let y = taken_moved e p q h.0 r t w in let z = some_moved es p q h.1 r t w in λ i. y i || z i

    leg_moved : (l : LegTree) (p q : Named Origin) → LegIsOfParts m l → ArePaired m p q → Moved (leg_takes (leg_parted m.s m.x m.i l) q) (leg_takes l p)
    leg_moved (whole e) p q h r t w = taken_moved e p q h r t w
    leg_moved (strided e f g k) p q h r t w =
        let x = taken_moved e p q h.0 r t w in let y = taken_moved f p q h.1 r t w in let z = taken_moved g p q h.2 r t w in let u = taken_moved k p q h.3 r t w in
        λ i. x i || (y i || (z i || u i))

    legs_moved : (ls : LegTrees) (p q : Named Origin) → LegsAreOfParts m ls → ArePaired m p q → Moved (legs_take (legs_parted m.s m.x m.i ls) q) (legs_take ls p)
    legs_moved no_legs p q h r t w = refl
    legs_moved (more_legs l ls) p q h r t w = let y = leg_moved l p q h.0 r t w in let z = legs_moved ls p q h.1 r t w in λ i. y i || z i

  -- ---- the rules

  apart_moved : (A B C D : Taken) → Moved A C → Moved B D → Apart C D → Apart A B
  apart_moved A B C D f g h = record { apart = λ t w y z. h.apart (root m t) (w ++ tail m t) (sym (f t w) ∙ y) (sym (g t w) ∙ z) }

  alike_moved : (A B C D : Taken) → Moved A C → Moved B D → Alike C D → Alike A B
  alike_moved A B C D f g h = record { alike = λ t w. f t w ∙ h.alike (root m t) (w ++ tail m t) ∙ sym (g t w) }

  none_moved : (A C : Taken) → Moved A C → TakesNone C → TakesNone A
  none_moved A C f h = record { none = λ t w. f t w ∙ h.none (root m t) (w ++ tail m t) }

  at_else : (z : ℕ) (w : Path) (A C : Taken) → IsElse m z → Moved A C → A z w ≡ C z w
  at_else z w A C h f = f z w ∙ (λ i. C (root_behind m z h.1 i) (w ++ tail_else m z h i)) ∙ ap (C z) (to_end w)

  pub all_moved : (z : ℕ) (o : Origin) (A C : Taken) → IsElse m z → Moved A C → TakesAll z o C → TakesAll z o A
  all_moved z o A C h f k = record { all = λ w y. at_else z w A C h f ∙ k.all w y }

  two_split : (o : Two) (A C : Taken) → Moved A C → TwoSplits o C → TwoSplits o A
  two_split (binary op) A C f h = tt
  two_split and A C f h = none_moved A C f h
  two_split or A C f h = none_moved A C f h
  two_split look_up A C f h = tt
  two_split key_exists A C f h = tt
  two_split merge A C f h = tt

  three_split : (o : Three) (A B C D : Taken) → Moved A C → Moved B D → ThreeSplits o C D → ThreeSplits o A B
  three_split if_else A B C D f g h = alike_moved A B C D f g h
  three_split select A B C D f g h = apart_moved A B C D f g h
  three_split slice A B C D f g h = apart_moved A B C D f g h

  one_split : (o : One) (e : ExprTree) (p q : Named Origin) → (is_field o && is_part m.s e) ≡ false → IsOfParts m e → ArePaired m p q → OneSplits o e (origin e p) → OneSplits o (parts m e) (origin (parts m e) q)
  one_split neg e p q n h r k = tt
  one_split not e p q n h r k = tt
  one_split (cast y) e p q n h r k = tt
  one_split len e p q n h r k = tt
  one_split (field y) e p q n h r k = by (chain_of e) refl k
    where
      by : (c : Option (ℕ × Path)) → chain_of e ≡ c → ChainSplits c (field_origin y (origin e p)) → ChainSplits (chain_of (parts m e)) (field_origin y (origin (parts m e) q))
      by (Some c) l u = subst (λ d. ChainSplits d (field_origin y (origin (parts m e) q))) (sym (ap chain_of (chain_kept e c l h n).1 ∙ l)) tt
      by None l u =
          subst (λ d. ChainSplits d (field_origin y (origin (parts m e) q))) (sym (none_kept e h l))
          (subst (λ v. ChainSplits None (field_origin y v)) (origin_parted e p q h r) u)
  one_split finish e p q n h r k = tt
  one_split (started b) e p q n h r k = tt

  mutual
    pub splits_parted : (e : ExprTree) (p q : Named Origin) → IsOfParts m e → ArePaired m p q → Splits e p → Splits (parts m e) q
    splits_parted (leaf a l) p q h r k = tt
    splits_parted (one a o e) p q h r k = by (field_taken m.s o e) refl h (λ u. splits_parted e p q u r k.0)
      where
        by : (n : Option ℕ) → field_taken m.s o e ≡ n → OneIsOfParts m n (is_field o && is_part m.s e) (IsOfParts m e) → (IsOfParts m e → Splits (parts m e) q) → Splits (parted_one m.s m.x m.i a n (one a o (parts m e))) q
        by (Some n) l u f = tt
        by None l u f = (f u.1, one_split o e p q u.0 u.1 r k.1)
    splits_parted (two a o e f) p q h r k =
        let x = taken_moved e p q h.0 r in let y = taken_moved f p q h.1 r in
        (splits_parted e p q h.0 r k.0, splits_parted f p q h.1 r k.1, apart_moved _ _ (takes e p) (takes f p) x y k.2, two_split o _ (takes f p) y k.3)
    splits_parted (three a o d e f) p q h r k =
        let x = taken_moved d p q h.0 r in let y = taken_moved e p q h.1 r in let z = taken_moved f p q h.2 r in (
          splits_parted d p q h.0 r k.0,
          splits_parted e p q h.1 r k.1,
          splits_parted f p q h.2 r k.2,
          apart_moved _ _ (takes d p) (takes e p) x y k.3,
          apart_moved _ _ (takes d p) (takes f p) x z k.4,
          three_split o _ _ (takes e p) (takes f p) y z k.5,
        )
    splits_parted (many a o es) p q h r k = all_split_parted es p q h r k
    splits_parted (let_in a b e f) p q h r k =
        let same = origin_parted e p q h.1 r in
        let inner = paired_bind b.sym.0 (origin e p) p q h.0 r in
        let x = taken_moved e p q h.1 r in
        let y : Moved (takes (parts m f) ((b.sym.0, origin (parts m e) q) ∷ q)) (takes f ((b.sym.0, origin e p) ∷ p)) =
        subst (λ o. Moved (takes (parts m f) ((b.sym.0, o) ∷ q)) (takes f ((b.sym.0, origin e p) ∷ p))) same (taken_moved f _ _ h.2 inner) in (
          splits_parted e p q h.1 r k.0,
          subst (λ o. Splits (parts m f) ((b.sym.0, o) ∷ q)) same (splits_parted f _ _ h.2 inner k.1),
          apart_moved _ _ (takes e p) (without b.sym.0 (takes f ((b.sym.0, origin e p) ∷ p))) x (without_moved b.sym.0 _ (takes f ((b.sym.0, origin e p) ∷ p)) h.0 y) k.2,
          subst (λ o. TakesAll b.sym.0 o (takes (parts m f) ((b.sym.0, origin (parts m e) q) ∷ q))) same (all_moved b.sym.0 (origin e p) _ (takes f ((b.sym.0, origin e p) ∷ p)) h.0 y k.3),
        )
    splits_parted (loop a ls e b n y f) p q h r k =
        let same = origin_parted e p q h.1 r in
        let agree = agree_within f b n y (origin e p) p q h.2 r in (
          legs_split_parted ls p q h.0 r k.0,
          splits_parted e p q h.1 r k.1,
          apart_moved _ _ (legs_take ls p) (takes e p) (legs_moved ls p q h.0 r) (taken_moved e p q h.1 r) k.2,
          subst (λ o. Splits f (in_body b n y o q)) same (splits_free f _ _ agree k.3),
          subst (λ o. TakesAll b.sym.0 (own_paths o) (takes f (in_body b n y o q))) same (subst (TakesAll b.sym.0 (own_paths (origin e p))) (taken_free f _ _ agree) k.4),
        )
    splits_parted (iterate a e b f) p q h r k = (splits_parted e p q h.0 r k.0, splits_free f _ _ (agree_turn f b p q h.1 r) k.1)

    all_split_parted : (es : ExprTrees) (p q : Named Origin) → AreOfParts m es → ArePaired m p q → AllSplit es p → AllSplit (all_parted m.s m.x m.i es) q
    all_split_parted no_exprs p q h r k = tt
    all_split_parted (more_exprs e es) p q h r k =
        (splits_parted e p q h.0 r k.0, all_split_parted es p q h.1 r k.1, apart_moved _ _ (takes e p) (some_take es p) (taken_moved e p q h.0 r) (some_moved es p q h.1 r) k.2)

    leg_splits_parted : (l : LegTree) (p q : Named Origin) → LegIsOfParts m l → ArePaired m p q → LegSplits l p → LegSplits (leg_parted m.s m.x m.i l) q
    leg_splits_parted (whole e) p q h r k = splits_parted e p q h r k
    leg_splits_parted (strided e f g d) p q h r k =
        let x = taken_moved e p q h.0 r in let y = taken_moved f p q h.1 r in let z = taken_moved g p q h.2 r in let u = taken_moved d p q h.3 r in (
          splits_parted e p q h.0 r k.0,
          splits_parted f p q h.1 r k.1,
          splits_parted g p q h.2 r k.2,
          splits_parted d p q h.3 r k.3,
          apart_moved _ _ (takes e p) (takes f p) x y k.4,
          apart_moved _ _ (takes e p) (takes g p) x z k.5,
          apart_moved _ _ (takes e p) (takes d p) x u k.6,
          apart_moved _ _ (takes f p) (takes g p) y z k.7,
          apart_moved _ _ (takes f p) (takes d p) y u k.8,
          apart_moved _ _ (takes g p) (takes d p) z u k.9,
        )

    legs_split_parted : (ls : LegTrees) (p q : Named Origin) → LegsAreOfParts m ls → ArePaired m p q → LegsSplit ls p → LegsSplit (legs_parted m.s m.x m.i ls) q
    legs_split_parted no_legs p q h r k = tt
    legs_split_parted (more_legs l ls) p q h r k =
        (leg_splits_parted l p q h.0 r k.0, legs_split_parted ls p q h.1 r k.1, apart_moved _ _ (leg_takes l p) (legs_take ls p) (leg_moved l p q h.0 r) (legs_moved ls p q h.1 r) k.2)

  -- ---- what comes from where

  seen_at : (n : ℕ) (os : Origins) → AreSeen os → IsSeen (origin_at n os)
  seen_at n no_origins h = tt
  seen_at zero (more_origins o os) h = h.0
  seen_at (suc n) (more_origins o os) h = seen_at n os h.1

  seen_field : (n : ℕ) (o : Origin) → IsSeen o → IsSeen (field_origin n o)
  seen_field n value h = tt
  seen_field n made h = tt
  seen_field n (own w) h = tt
  seen_field n outer h = h
  seen_field n (named t w) h = tt
  seen_field n (struct os) h = seen_at n os h

  leaf_keeps_parted : (l : Leaf) (p q : Named Origin) → LeafIsOfParts m l → ArePaired m p q → LeafKeeps l p → LeafKeeps l q
  leaf_keeps_parted (int k y) p q h r w = tt
  leaf_keeps_parted (truth b) p q h r w = tt
  leaf_keeps_parted (chars bs) p q h r w = tt
  leaf_keeps_parted (name t) p q h r w = subst (λ o. IsSeen (known_origin o)) (r.others.agree t h) w
  leaf_keeps_parted (fresh b) p q h r w = tt

  three_keep : (o : Three) (e f : ExprTree) (p q : Named Origin) → IsOfParts m e → IsOfParts m f → ArePaired m p q → ThreeKeeps o e f p → ThreeKeeps o (parts m e) (parts m f) q
  three_keep if_else e f p q h k r w = arms_paired m e f p q h k r w
  three_keep select e f p q h k r w = tt
  three_keep slice e f p q h k r w = tt

  mutual
    pub keeps_parted : (e : ExprTree) (p q : Named Origin) → IsOfParts m e → ArePaired m p q → Keeps e p → Keeps (parts m e) q
    keeps_parted (leaf a l) p q h r k = leaf_keeps_parted l p q h r k
    keeps_parted (one a o e) p q h r k = by (field_taken m.s o e) refl h (λ u. keeps_parted e p q u r k.0)
      where
        by : (n : Option ℕ) → field_taken m.s o e ≡ n → OneIsOfParts m n (is_field o && is_part m.s e) (IsOfParts m e) → (IsOfParts m e → Keeps (parts m e) q) → Keeps (parted_one m.s m.x m.i a n (one a o (parts m e))) q
        by (Some n) l u f =
            field_by m.s (λ d y n. IsPartNumber m n → Keeps y p → IsSeen (origin_of_name (part m n) q)) (λ b n u v. subst IsSeen (r.parts n u).from (seen_field n (origin_of_name m.s p) v)) o e n l u k.0
        by None l u f = (f u.1, subst (OneKeeps o) (origin_parted e p q u.1 r) k.1)
    keeps_parted (two a o e f) p q h r k = (keeps_parted e p q h.0 r k.0, keeps_parted f p q h.1 r k.1)
    keeps_parted (three a o d e f) p q h r k = (keeps_parted d p q h.0 r k.0, keeps_parted e p q h.1 r k.1, keeps_parted f p q h.2 r k.2, three_keep o e f p q h.1 h.2 r k.3)
    keeps_parted (many a o es) p q h r k = all_keep_parted es p q h r k
    keeps_parted (let_in a b e f) p q h r k =
        (keeps_parted e p q h.1 r k.0, subst (λ o. Keeps (parts m f) ((b.sym.0, o) ∷ q)) (origin_parted e p q h.1 r) (keeps_parted f _ _ h.2 (paired_bind b.sym.0 (origin e p) p q h.0 r) k.1))
    keeps_parted (loop a ls e b n y f) p q h r k =
        let same = origin_parted e p q h.1 r in
        let agree = agree_within f b n y (origin e p) p q h.2 r in (
          legs_keep_parted ls p q h.0 r k.0,
          keeps_parted e p q h.1 r k.1,
          subst (λ o. Keeps f (in_body b n y o q)) same (keeps_free f _ _ agree k.2),
          subst (λ o. origin f (in_body b n y o q) ≡ own_paths o) same (sym (origin_free f _ _ agree) ∙ k.3),
        )
    keeps_parted (iterate a e b f) p q h r k = (keeps_parted e p q h.0 r k.0, keeps_free f _ _ (agree_turn f b p q h.1 r) k.1)

    all_keep_parted : (es : ExprTrees) (p q : Named Origin) → AreOfParts m es → ArePaired m p q → AllKeep es p → AllKeep (all_parted m.s m.x m.i es) q
    all_keep_parted no_exprs p q h r k = tt
    all_keep_parted (more_exprs e es) p q h r k = (keeps_parted e p q h.0 r k.0, all_keep_parted es p q h.1 r k.1)

    leg_keeps_parted : (l : LegTree) (p q : Named Origin) → LegIsOfParts m l → ArePaired m p q → LegKeeps l p → LegKeeps (leg_parted m.s m.x m.i l) q
    leg_keeps_parted (whole e) p q h r k = keeps_parted e p q h r k
    leg_keeps_parted (strided e f g d) p q h r k = (keeps_parted e p q h.0 r k.0, keeps_parted f p q h.1 r k.1, keeps_parted g p q h.2 r k.2, keeps_parted d p q h.3 r k.3)

    legs_keep_parted : (ls : LegTrees) (p q : Named Origin) → LegsAreOfParts m ls → ArePaired m p q → LegsKeep ls p → LegsKeep (legs_parted m.s m.x m.i ls) q
    legs_keep_parted no_legs p q h r k = tt
    legs_keep_parted (more_legs l ls) p q h r k = (leg_keeps_parted l p q h.0 r k.0, legs_keep_parted ls p q h.1 r k.1)

-- What is left of a list of builders from a place on.
use Rattle.std.proofs.Common.{◌≡◌, ◌≢◌, ℕ, suc, ◌+◌, ◌<◌, ◌≤◌, ◌==◌, Bool, true, false, ◌&&◌, ◌||◌, not, List, [], ◌∷◌, ◌++◌, length, drop, get_or, map, refl, sym, ap, ◌∙◌, arith, append_assoc}
use Rattle.std.proofs.lemmas.List.{at_drop_more, drop_all}
use Rattle.std.specs.List.{filter}
use Rattle.weld_meaning.specs.Origin.{Path, Origin}
use Rattle.weld_meaning.specs.Available.{same_path}
use Rattle.weld_meaning.specs.LinearWalk.{Left, has, some_of, after_taking, paths_below, paths_of_fields}
use Rattle.weld_linear.specs.Sources.{pack_origins}
use Rattle.weld_linear.specs.AvailableView.{view_builder, same_left, stands_below, of_name}
use Rattle.weld_linear.specs.declared.available.Builder.{Builder}

pub has_left : (s : ℕ) (q : Path) (bs : List Builder) (i : ℕ) (b : Builder) → i < length bs → b ≡ get_or bs i b
    → has (map view_builder (drop i bs)) s q ≡ ((b.name.0 == s) && same_path b.path q) || has (map view_builder (drop (i + 1) bs)) s q
has_left s q bs i b h p =
    at_drop_more (λ rest. has (map view_builder rest) s q) bs i b h
    ∙ ap (λ u. (((view_builder u).0 == s) && same_path (view_builder u).1 q) || has (map view_builder (drop (i + 1) bs)) s q) (sym p)

pub no_has_left : (s : ℕ) (q : Path) (bs : List Builder) (i : ℕ) → length bs ≤ i → has (map view_builder (drop i bs)) s q ≡ false
no_has_left s q bs i h = ap (λ rest. has (map view_builder rest) s q) (drop_all i bs h)

pub lacks_left : (left : Left) (bs : List Builder) (i : ℕ) (b : Builder) → i < length bs → b ≡ get_or bs i b
    → some_of (λ e. not (has left e.0 e.1)) (map view_builder (drop i bs)) ≡ not (has left b.name.0 b.path) || some_of (λ e. not (has left e.0 e.1)) (map view_builder (drop (i + 1) bs))
lacks_left left bs i b h p =
    at_drop_more (λ rest. some_of (λ e. not (has left e.0 e.1)) (map view_builder rest)) bs i b h
    ∙ ap (λ u. not (has left (view_builder u).0 (view_builder u).1) || some_of (λ e. not (has left e.0 e.1)) (map view_builder (drop (i + 1) bs))) (sym p)

pub no_lacks_left : (left : Left) (bs : List Builder) (i : ℕ) → length bs ≤ i → some_of (λ e. not (has left e.0 e.1)) (map view_builder (drop i bs)) ≡ false
no_lacks_left left bs i h = ap (λ rest. some_of (λ e. not (has left e.0 e.1)) (map view_builder rest)) (drop_all i bs h)

pub named_left : (s : ℕ) (bs : List Builder) (i : ℕ) (b : Builder) → i < length bs → b ≡ get_or bs i b
    → some_of (λ e. e.0 == s) (map view_builder (drop i bs)) ≡ (b.name.0 == s) || some_of (λ e. e.0 == s) (map view_builder (drop (i + 1) bs))
named_left s bs i b h p =
    at_drop_more (λ rest. some_of (λ e. e.0 == s) (map view_builder rest)) bs i b h
    ∙ ap (λ u. ((view_builder u).0 == s) || some_of (λ e. e.0 == s) (map view_builder (drop (i + 1) bs))) (sym p)

pub no_named_left : (s : ℕ) (bs : List Builder) (i : ℕ) → length bs ≤ i → some_of (λ e. e.0 == s) (map view_builder (drop i bs)) ≡ false
no_named_left s bs i h = ap (λ rest. some_of (λ e. e.0 == s) (map view_builder rest)) (drop_all i bs h)

pub same_left_left : (bs cs : List Builder) (i : ℕ) (b c : Builder) → i < length bs → i < length cs → b ≡ get_or bs i b → c ≡ get_or cs i c
    → same_left (map view_builder (drop i bs)) (map view_builder (drop i cs)) ≡ ((b.name.0 == c.name.0) && same_path b.path c.path) && same_left (map view_builder (drop (i + 1) bs)) (map view_builder (drop (i + 1) cs))
same_left_left bs cs i b c h k e f =
    at_drop_more (λ rest. same_left (map view_builder rest) (map view_builder (drop i cs))) bs i b h
    ∙ at_drop_more (λ rest. same_left (view_builder (get_or bs i b) ∷ map view_builder (drop (i + 1) bs)) (map view_builder rest)) cs i c k
    ∙ (λ j. (((sym e j).name.0 == (sym f j).name.0) && same_path (sym e j).path (sym f j).path) && same_left (map view_builder (drop (i + 1) bs)) (map view_builder (drop (i + 1) cs)))

pub no_same_left_left : (bs cs : List Builder) (i : ℕ) → length bs ≤ i → length cs ≤ i → same_left (map view_builder (drop i bs)) (map view_builder (drop i cs)) ≡ true
no_same_left_left bs cs i h k = λ j. same_left (map view_builder (drop_all i bs h j)) (map view_builder (drop_all i cs k j))

and_false : (b : Bool) → b && false ≡ false
and_false true = refl
and_false false = refl

pub other_left : (bs cs : List Builder) → length bs ≢ length cs → same_left (map view_builder bs) (map view_builder cs) ≡ false
other_left [] [] n = absurd (n refl)
other_left [] (c ∷ cs) n = refl
other_left (b ∷ bs) [] n = refl
other_left (b ∷ bs) (c ∷ cs) n =
    ap (λ x. ((b.name.0 == c.name.0) && same_path b.path c.path) && x) (other_left bs cs (λ e. n (let r : length (b ∷ bs) ≡ length (c ∷ cs) = omega (arith, e) in r)))
    ∙ and_false ((b.name.0 == c.name.0) && same_path b.path c.path)

pub kept : (s : ℕ) (p : Path) (o : Origin) (bs : List Builder) → map view_builder (filter (λ b. not (stands_below s p o (view_builder b))) bs) ≡ after_taking (λ t q. stands_below s p o (t, q)) (map view_builder bs)
kept s p o [] = refl
kept s p o (b ∷ bs) = by (stands_below s p o (view_builder b)) refl (kept s p o bs)
  where
    by : (c : Bool) → stands_below s p o (view_builder b) ≡ c → map view_builder (filter (λ b. not (stands_below s p o (view_builder b))) bs) ≡ after_taking (λ t q. stands_below s p o (t, q)) (map view_builder bs)
        → map view_builder (filter (λ b. not (stands_below s p o (view_builder b))) (b ∷ bs)) ≡ after_taking (λ t q. stands_below s p o (t, q)) (map view_builder (b ∷ bs))
    by true e rest = rw e rest
    by false e rest = rw e (ap (λ l. view_builder b ∷ l) rest)

pub of_name_both : (s : ℕ) (ps qs : List Path) → of_name s (ps ++ qs) ≡ of_name s ps ++ of_name s qs
of_name_both s [] qs = refl
of_name_both s (p ∷ ps) qs = ap (λ l. (s, p) ∷ l) (of_name_both s ps qs)

pub paths_left : (s : ℕ) (p : Path) (left : Left) (os : List Origin) (i : ℕ) (o : Origin) → i < length os → o ≡ get_or os i o
    → left ++ of_name s (paths_of_fields i p (pack_origins (drop i os)))
    ≡ (left ++ of_name s (paths_below (i ∷ p) o)) ++ of_name s (paths_of_fields (i + 1) p (pack_origins (drop (i + 1) os)))
paths_left s p left os i o h e =
    let y : suc i ≡ (i + 1) = omega arith in
    ap (λ l. left ++ l)
    (at_drop_more (λ rest. of_name s (paths_of_fields i p (pack_origins rest))) os i o h
    ∙ ap (λ u. of_name s (paths_below (i ∷ p) u ++ paths_of_fields (suc i) p (pack_origins (drop (i + 1) os)))) (sym e)
    ∙ ap (λ m. of_name s (paths_below (i ∷ p) o ++ paths_of_fields m p (pack_origins (drop (i + 1) os)))) y
    ∙ of_name_both s (paths_below (i ∷ p) o) (paths_of_fields (i + 1) p (pack_origins (drop (i + 1) os))))
    ∙ sym (append_assoc left (of_name s (paths_below (i ∷ p) o)) (of_name s (paths_of_fields (i + 1) p (pack_origins (drop (i + 1) os)))))

pub append_none : (l : Left) → l ++ [] ≡ l
append_none [] = refl
append_none (e ∷ l) = ap (λ r. e ∷ r) (append_none l)

pub no_paths_left : (s : ℕ) (p : Path) (left : Left) (os : List Origin) (i : ℕ) → length os ≤ i
    → left ++ of_name s (paths_of_fields i p (pack_origins (drop i os))) ≡ left
no_paths_left s p left os i h = ap (λ rest. left ++ of_name s (paths_of_fields i p (pack_origins rest))) (drop_all i os h) ∙ append_none left

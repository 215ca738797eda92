-- The one loop, as the code makes it.
use Rattle.std.proofs.Common.{◌≡◌, ◌≢◌, ℕ, suc, ◌+◌, ◌≤◌, ◌<◌, ◌^◌, nat_le, true, false, ◌==◌, ◌&&◌, Some, None, List, [], ◌∷◌, ◌++◌, length, take, drop, map, refl, sym, ap, subst, ◌∙◌, arith, length-append}
use Rattle.std.proofs.lemmas.Bool.{leb-true}
use Rattle.std.proofs.lemmas.List.{take-append-drop, append_assoc, length-take-le}
use Rattle.weld_tree.specs.declared.binder.Binder.{Binder}
use Rattle.weld_tree.specs.declared.known.Known.{Known}
use Rattle.weld_tree.specs.declared.expr.Leg.{Leg}
use Rattle.weld_tree.specs.declared.place.Place.{Place}
use Rattle.weld_tree.specs.TypeTree.{TypeTree, TypeTrees, scalar, vec, struct, dict, build, no_types, more_types, type_nodes, types_nodes, type_depth}
use Rattle.weld_tree.specs.ExprTree.{At, ExprTree, leaf, one, two, three, many, let_in, loop, iterate, LegTree, whole, LegTrees, no_legs, more_legs, finish, pack_legs}
use Rattle.weld_tree.specs.ExprView.{view_leg}
use Rattle.weld_meaning.specs.Names.{put}
use Rattle.weld_substitution.proofs.Following.{and_true}
use Rattle.weld_vertical.specs.Sinking.{starts_list, ends_in_merge, is_producer, sunk, fused}
use Rattle.weld_substitution.specs.Uses.{uses}
use Rattle.weld_horizontal.specs.Twice.{items, count}
use Rattle.weld_vertical_zip.specs.Zipping.{legs_behind, types_behind, Around, first_made, Sides, all_items, widened, own_row, sides, sides_of, is_within_limits, fits_around, joined_by, unzipped}
use Rattle.weld_vertical_zip.specs.Zips.{place_produced, spliced_body, spliced_producer, over_legs, is_loop, spliced_loop, AreFew, IsMadeBy, IsCut}
use Rattle.weld_vertical_zip.proofs.Finding.{no_place, Cut, cut}

-- ---- lists of legs

legs_packed : (ls ms : List LegTree) → pack_legs (ls ++ ms) ≡ legs_behind (pack_legs ls) (pack_legs ms)
legs_packed [] ms = refl
legs_packed (l ∷ ls) ms = ap (more_legs l) (legs_packed ls ms)

mapped : (ls ms : List Leg) → map view_leg (ls ++ ms) ≡ map view_leg ls ++ map view_leg ms
mapped [] ms = refl
mapped (l ∷ ls) ms = ap (λ ks. view_leg l ∷ ks) (mapped ls ms)

legs_regroup : (ls ms ns : LegTrees) → legs_behind (legs_behind ls ms) ns ≡ legs_behind ls (legs_behind ms ns)
legs_regroup no_legs ms ns = refl
legs_regroup (more_legs l ls) ms ns = ap (more_legs l) (legs_regroup ls ms ns)

pub packed_legs : (ls ms ns : List Leg) → pack_legs (map view_leg ((ls ++ ms) ++ ns)) ≡ legs_behind (pack_legs (map view_leg ls)) (legs_behind (pack_legs (map view_leg ms)) (pack_legs (map view_leg ns)))
packed_legs ls ms ns =
    ap pack_legs (mapped (ls ++ ms) ns ∙ ap (λ ks. ks ++ map view_leg ns) (mapped ls ms)) ∙ legs_packed (map view_leg ls ++ map view_leg ms) (map view_leg ns)
    ∙ ap (λ ks. legs_behind ks (pack_legs (map view_leg ns))) (legs_packed (map view_leg ls) (map view_leg ms)) ∙ legs_regroup (pack_legs (map view_leg ls)) (pack_legs (map view_leg ms)) (pack_legs (map view_leg ns))

-- ---- the body

-- lets, perhaps none, that end in a node of two parts
abbrev IsLets : ExprTree → Type 0
IsLets (leaf a l) = ⊥
IsLets (one a o e) = ⊥
IsLets (two a o e v) = Unit {0}
IsLets (three a o c e g) = ⊥
IsLets (many a o es) = ⊥
IsLets (let_in a z v h) = IsLets h
IsLets (loop a ls e b m y g) = ⊥
IsLets (iterate a e b g) = ⊥

lets_of : (d : ℕ) (g : ExprTree) → ends_in_merge d g ≡ true → IsLets g
lets_of d (leaf a l) h = let nothing : ⊥ = cc in absurd nothing
lets_of d (one a o e) h = let nothing : ⊥ = cc in absurd nothing
lets_of d (two a o e v) h = tt
lets_of d (three a o c e g) h = let nothing : ⊥ = cc in absurd nothing
lets_of d (many a o es) h = let nothing : ⊥ = cc in absurd nothing
lets_of d (let_in a z v g) h = lets_of d g h
lets_of d (loop a ls e b m y g) h = let nothing : ⊥ = cc in absurd nothing
lets_of d (iterate a e b g) h = let nothing : ⊥ = cc in absurd nothing

lets_put : (s : ℕ) (v g : ExprTree) → IsLets g → IsLets (put s v g)
lets_put s v (leaf a l) h = absurd h
lets_put s v (one a o e) h = absurd h
lets_put s v (two a o e w) h = tt
lets_put s v (three a o c e g) h = absurd h
lets_put s v (many a o es) h = absurd h
lets_put s v (let_in a z w g) h = lets_put s v g h
lets_put s v (loop a ls e b m y g) h = absurd h
lets_put s v (iterate a e b g) h = absurd h

-- the consumer sunk into the body that merges whole rows
sunk_wide : (ty : Known) (c i : ℕ) (n x : Binder) (f : ExprTree) (place : Place) (d r : ℕ) (s : Sides) (g : ExprTree) → IsLets g → sunk ty c i n x f (widened place d r s g) ≡ spliced_body ty i n x f place r s g
sunk_wide ty c i n x f place d r s (leaf a l) k = absurd k
sunk_wide ty c i n x f place d r s (one a o e) k = absurd k
sunk_wide ty c i n x f place d r s (two a o e v) k = refl
sunk_wide ty c i n x f place d r s (three a o t e g) k = absurd k
sunk_wide ty c i n x f place d r s (many a o es) k = absurd k
sunk_wide ty c i n x f place d r s (let_in a z v h) k = ap (let_in (record { place = a.place; ty = ty }) z v) (sunk_wide ty c i n x f place d r s h k)
sunk_wide ty c i n x f place d r s (loop a ls e b m y g) k = absurd k
sunk_wide ty c i n x f place d r s (iterate a e b g) k = absurd k

joined_loop : (a : At) (e : ExprTree) (b n x : Binder) (f : ExprTree) (bs zs : LegTrees) (m : At) (q : ExprTree) → is_producer q ≡ true
    → fused (joined_by a (legs_behind bs (more_legs (whole (one m finish q)) zs)) e b n x f (Some (record { before = bs; leg = whole (one m finish q); after = zs }))) ≡ spliced_loop a e b n x f bs zs q
joined_loop a e b n x f bs zs m (leaf p l) h = let nothing : ⊥ = cc in absurd nothing
joined_loop a e b n x f bs zs m (one p o q) h = let nothing : ⊥ = cc in absurd nothing
joined_loop a e b n x f bs zs m (two p o q g) h = let nothing : ⊥ = cc in absurd nothing
joined_loop a e b n x f bs zs m (three p o c q g) h = let nothing : ⊥ = cc in absurd nothing
joined_loop a e b n x f bs zs m (many p o es) h = let nothing : ⊥ = cc in absurd nothing
joined_loop a e b n x f bs zs m (let_in p z v g) h = let nothing : ⊥ = cc in absurd nothing
joined_loop a e b n x f bs zs m (loop p ks s d i r g) h =
    let w = sides bs (loop p ks s d i r g) zs in
    let k = and_true (starts_list s) (ends_in_merge d.sym.0 g && (uses g d.sym.0 == 1)) h in
    let lets = lets_of d.sym.0 g (and_true (ends_in_merge d.sym.0 g) (uses g d.sym.0 == 1) k.1).0 in
    ap (loop a (legs_behind bs (legs_behind ks zs)) e b i (record { sym = r.sym; place = r.place; note = None; note_place = r.note_place }))
    (sunk_wide a.ty b.sym.0 i.sym.0 n x f a.place d.sym.0 r.sym.0 w (put r.sym.0 (own_row a.place r.sym.0 w) g) (lets_put r.sym.0 (own_row a.place r.sym.0 w) g lets))
joined_loop a e b n x f bs zs m (iterate p q d g) h = let nothing : ⊥ = cc in absurd nothing

-- ---- what was cut

-- the list up to behind a place, and what is behind: cut at its last
pub cut_last : (all before after : List Leg) (l : Leg) (n : ℕ) → before ++ l ∷ [] ≡ take (n + 1) all → after ≡ drop (n + 1) all → all ≡ before ++ l ∷ after
cut_last all before after l n p q =
    sym (take-append-drop (n + 1) all) ∙ (λ i. sym p i ++ sym q i) ∙ append_assoc before (l ∷ []) after

pub last_place : (all before : List Leg) (l : Leg) (n : ℕ) → n < length all → before ++ l ∷ [] ≡ take (n + 1) all → length before ≡ n
last_place all before l n h p =
    let k : length (before ++ l ∷ []) ≡ length before + 1 = length-append before (l ∷ []) in
    omega (arith, k, ap length p, length-take-le (n + 1) all (omega (arith, h)))

pub cut_there : (all before after : List Leg) (l : Leg) (n : ℕ) → n < length all → before ++ l ∷ [] ≡ take (n + 1) all → after ≡ drop (n + 1) all → Some n ≡ place_produced (pack_legs (map view_leg all)) → Cut before l after (pack_legs (map view_leg all))
cut_there all before after l n h p q place =
    let same = cut_last all before after l n p q in
    let here : place_produced (pack_legs (map view_leg (before ++ l ∷ after))) ≡ Some (length before) =
    ap (λ (ks : List Leg). place_produced (pack_legs (map view_leg ks))) (sym same) ∙ sym place ∙ ap Some (sym (last_place all before l n h p)) in
    subst (λ (ks : List Leg). Cut before l after (pack_legs (map view_leg ks))) (sym same) (cut before l after here)

-- ---- few

some_nodes : (t : TypeTree) → 1 ≤ type_nodes t
some_nodes (scalar k) = omega arith
some_nodes (vec t) = omega arith
some_nodes (struct ts) = omega arith
some_nodes (dict k v) = omega arith
some_nodes (build b) = omega arith

count_nodes : (us : TypeTrees) → count us ≤ types_nodes us
count_nodes no_types = omega arith
count_nodes (more_types u us) = omega (arith, some_nodes u, count_nodes us)

count_behind : (ts us : TypeTrees) → count (types_behind ts us) ≡ count ts + count us
count_behind no_types us = omega arith
count_behind (more_types t ts) us = omega (arith, count_behind ts us)

pub few_sides : (s : Sides) → is_within_limits (struct (all_items s)) ≡ true → AreFew s
few_sides s h =
    let k : type_nodes (struct (all_items s)) ≤ 256 = leb-true (type_nodes (struct (all_items s))) 256 (and_true (nat_le (type_depth (struct (all_items s))) 16) (nat_le (type_nodes (struct (all_items s))) 256) h).1 in
    omega (arith, k, count_nodes (all_items s), count_behind s.before (types_behind s.within s.after), count_behind s.within s.after)

pub few_cut : (ls bs zs : LegTrees) (q : ExprTree) → fits_around (first_made ls) ≡ true → IsCut ls bs zs q → AreFew (sides bs q zs)
few_cut ls bs zs q fits c =
    let same = c.1 ∙ ap (λ m. Some (record { before = bs; leg = m; after = zs })) c.2.1 in few_sides (sides bs q zs) (sym (ap fits_around same) ∙ fits)

pub made_cut : (ls bs zs : LegTrees) (q : ExprTree) → IsCut ls bs zs q → is_producer q ≡ true
made_cut ls bs zs q c = c.2.2

pub loop_made : (ty : Known) (place : Place) (n x : Binder) (f : ExprTree) (w : Sides) (q : ExprTree) → is_producer q ≡ true → is_loop (spliced_producer ty place n x f w q) ≡ true
loop_made ty place n x f w (leaf p l) h = let nothing : ⊥ = cc in absurd nothing
loop_made ty place n x f w (one p o q) h = let nothing : ⊥ = cc in absurd nothing
loop_made ty place n x f w (two p o q g) h = let nothing : ⊥ = cc in absurd nothing
loop_made ty place n x f w (three p o c q g) h = let nothing : ⊥ = cc in absurd nothing
loop_made ty place n x f w (many p o es) h = let nothing : ⊥ = cc in absurd nothing
loop_made ty place n x f w (let_in p z v g) h = let nothing : ⊥ = cc in absurd nothing
loop_made ty place n x f w (loop p ks s d i r g) h = refl
loop_made ty place n x f w (iterate p q d g) h = let nothing : ⊥ = cc in absurd nothing

pub is_loop_of : (q : ExprTree) → is_producer q ≡ true → is_loop q ≡ true
is_loop_of (leaf p l) h = let nothing : ⊥ = cc in absurd nothing
is_loop_of (one p o q) h = let nothing : ⊥ = cc in absurd nothing
is_loop_of (two p o q g) h = let nothing : ⊥ = cc in absurd nothing
is_loop_of (three p o c q g) h = let nothing : ⊥ = cc in absurd nothing
is_loop_of (many p o es) h = let nothing : ⊥ = cc in absurd nothing
is_loop_of (let_in p z v g) h = let nothing : ⊥ = cc in absurd nothing
is_loop_of (loop p ks s d i r g) h = refl
is_loop_of (iterate p q d g) h = let nothing : ⊥ = cc in absurd nothing

pub unzipped_cut : (a : At) (ls : LegTrees) (e : ExprTree) (b n x : Binder) (f : ExprTree) (bs zs : LegTrees) (q : ExprTree) → IsCut ls bs zs q → unzipped (loop a ls e b n x f) ≡ spliced_loop a e b n x f bs zs q
unzipped_cut a ls e b n x f bs zs q c =
    ap (λ o. fused (joined_by a ls e b n x f o)) (c.1 ∙ ap (λ m. Some (record { before = bs; leg = m; after = zs })) c.2.1)
    ∙ joined_loop a e b n x f bs zs c.2.0 q c.2.2

pub join_is : (a : At) (ty : Known) (place : Place) (ls bs zs : LegTrees) (q r p e : ExprTree) (b n x : Binder) (f : ExprTree) → IsCut ls bs zs q → r ≡ q → p ≡ spliced_producer ty place n x f (sides bs r zs) r → a.place ≡ place → a.ty ≡ ty
    → over_legs a e b bs zs p ≡ unzipped (loop a ls e b n x f)
join_is a ty place ls bs zs q r p e b n x f c same made here noted =
    ap (over_legs a e b bs zs) (made ∙ (λ j. spliced_producer (sym noted j) (sym here j) n x f (sides bs (same j) zs) (same j)))
    ∙ sym (unzipped_cut a ls e b n x f bs zs q c)

-- the legs that were cut out of a list
pub is_cut : (items before after : List Leg) (legs : List LegTree) (l : Leg) (n : ℕ) (q : ExprTree) → map view_leg items ≡ legs → n < length items → before ++ l ∷ [] ≡ take (n + 1) items → after ≡ drop (n + 1) items → Some n ≡ place_produced (pack_legs (map view_leg items)) → IsMadeBy (view_leg l) q → IsCut (pack_legs legs) (pack_legs (map view_leg before)) (pack_legs (map view_leg after)) q
is_cut items before after legs l n q same h p k place made =
    let c = cut_there items before after l n h p k place in
    (view_leg l, sym (ap (λ (ls : List LegTree). first_made (pack_legs ls)) same) ∙ c.first, made)

pub some_place : (ls : LegTrees) → fits_around (first_made ls) ≡ true → place_produced ls ≢ None
some_place ls fits none = let wrong : false ≡ true = sym (ap fits_around (no_place ls none)) ∙ fits in cc

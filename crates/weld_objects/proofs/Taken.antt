-- What an expression takes, under other numbers: of a name that is alone, what it took.
use Rattle.std.proofs.Common.{◌≡◌, ℕ, zero, suc, Bool, true, false, ◌&&◌, ◌||◌, if◌then◌else◌, List, [], ◌∷◌, ◌++◌, map, Option, Some, None, option_map, refl, ap, ◌∙◌}
use Rattle.weld_tree.specs.ExprTree.{ExprTree, leaf, one, two, three, many, let_in, loop, iterate, ExprTrees, no_exprs, more_exprs, LegTree, whole, strided, LegTrees, no_legs, more_legs, Leaf, int, truth, chars, name, fresh, One, neg, not as not_of, cast, len, field, finish, started}
use Rattle.weld_meaning.specs.Environment.{Named}
use Rattle.weld_meaning.specs.Names.{Binds, AllBind, LegBinds, LegsBind}
use Rattle.weld_meaning.specs.Origin.{Path, Origin, value, made, own, outer, named, struct, Origins, no_origins, more_origins, origin_of_name, origin}
use Rattle.weld_meaning.specs.Available.{field_within, at_path, is_builder, is_builder_path, same_path, is_below, chain_of_leaf, chain_of_one, chain_of, chain_takes, takes, some_take, leg_takes, legs_take, Taken}
use Rattle.weld_meaning.specs.LinearWalk.{some_of, Left, has, after_taking, paths_below, paths_of_fields, builders_of}
use Rattle.weld_objects.specs.Renamed.{Renaming, renamed_leaf, renamed, all_renamed, leg_renamed, legs_renamed, IsAlone}
use Rattle.weld_objects.specs.RenamedOrigins.{renamed_origin, origins_renamed, left_renamed, AreAlone, OriginsHaveMoved}
use Rattle.weld_objects.proofs.Numbers.{alone_first, alone_second}
use Rattle.weld_objects.proofs.Origins.{at_renamed, bind_moves, origin_moves, origin_holds}

-- ---- paths

within_path : (r : Renaming) (n : ℕ) (o : Origin) → field_within n (renamed_origin r o) ≡ renamed_origin r (field_within n o)
within_path r n value = refl
within_path r n made = refl
within_path r n (own p) = refl
within_path r n outer = refl
within_path r n (named s p) = refl
within_path r n (struct os) = at_renamed r n os

pub path_renamed : (r : Renaming) (p : Path) (o : Origin) → at_path p (renamed_origin r o) ≡ renamed_origin r (at_path p o)
path_renamed r [] o = refl
path_renamed r (n ∷ p) o = ap (field_within n) (path_renamed r p o) ∙ within_path r n (at_path p o)

builder_renamed : (r : Renaming) (o : Origin) → is_builder (renamed_origin r o) ≡ is_builder o
builder_renamed r value = refl
builder_renamed r made = refl
builder_renamed r (own p) = refl
builder_renamed r outer = refl
builder_renamed r (named s p) = refl
builder_renamed r (struct os) = refl

builder_path_renamed : (r : Renaming) (o : Origin) (q : Path) → is_builder_path (renamed_origin r o) q ≡ is_builder_path o q
builder_path_renamed r o q = ap is_builder (path_renamed r q o) ∙ builder_renamed r (at_path q o)

mutual
  pub paths_renamed : (r : Renaming) (p : Path) (o : Origin) → paths_below p (renamed_origin r o) ≡ paths_below p o
  paths_renamed r p value = refl
  paths_renamed r p made = refl
  paths_renamed r p (own q) = refl
  paths_renamed r p outer = refl
  paths_renamed r p (named s q) = refl
  paths_renamed r p (struct os) = fields_paths_renamed r zero p os

  fields_paths_renamed : (r : Renaming) (n : ℕ) (p : Path) (os : Origins) → paths_of_fields n p (origins_renamed r os) ≡ paths_of_fields n p os
  fields_paths_renamed r n p no_origins = refl
  fields_paths_renamed r n p (more_origins o os) = λ i. paths_renamed r (n ∷ p) o i ++ fields_paths_renamed r (suc n) p os i

-- ---- names followed by field accesses

abbrev pub moved_chain : Renaming → Option (ℕ × Path) → Option (ℕ × Path)
moved_chain r m = option_map (λ (c : ℕ × Path). (r c.0, c.1)) m

pub leaf_chain : (r : Renaming) (l : Leaf) → chain_of_leaf (renamed_leaf r l) ≡ moved_chain r (chain_of_leaf l)
leaf_chain r (int k x) = refl
leaf_chain r (truth b) = refl
leaf_chain r (chars bs) = refl
leaf_chain r (name s) = refl
leaf_chain r (fresh b) = refl

one_chain : (r : Renaming) (o : One) (m : Option (ℕ × Path)) → chain_of_one o (moved_chain r m) ≡ moved_chain r (chain_of_one o m)
one_chain r neg m = refl
one_chain r not_of m = refl
one_chain r (cast k) m = refl
one_chain r len m = refl
one_chain r (field n) (Some c) = refl
one_chain r (field n) None = refl
one_chain r finish m = refl
one_chain r (started b) m = refl

pub chain_moves : (r : Renaming) (e : ExprTree) → chain_of (renamed r e) ≡ moved_chain r (chain_of e)
chain_moves r (leaf a l) = leaf_chain r l
chain_moves r (one a o e) = ap (chain_of_one o) (chain_moves r e) ∙ one_chain r o (chain_of e)
chain_moves r (two a o e f) = refl
chain_moves r (three a o c e f) = refl
chain_moves r (many a o es) = refl
chain_moves r (let_in a b e f) = refl
chain_moves r (loop a ls e b n x f) = refl
chain_moves r (iterate a e b f) = refl

pub chain_of_node : (r : Renaming) (o : One) (e : ExprTree) → chain_of_one o (chain_of (renamed r e)) ≡ moved_chain r (chain_of_one o (chain_of e))
chain_of_node r o e = ap (chain_of_one o) (chain_moves r e) ∙ one_chain r o (chain_of e)

-- ---- what is taken

-- of a name that is alone the second takes under its new number what the first takes
pub record TakesAlike (r : Renaming) (first second : Taken) : Type 0 where
  pub alike : (s : ℕ) (q : Path) → IsAlone r s → second (r s) q ≡ first s q

chain_alike : (r : Renaming) (m : Option (ℕ × Path)) (g h : Named Origin) (s : ℕ) (q : Path) (first second : Bool) → IsAlone r s → OriginsHaveMoved r g h → second ≡ first → chain_takes (moved_chain r m) h (r s) q second ≡ chain_takes m g s q first
chain_alike r (Some c) g h s q first second a m e =
    let built : is_builder_path (origin_of_name (r s) h) q ≡ is_builder_path (origin_of_name s g) q = ap (λ o. is_builder_path o q) (m.same s) ∙ builder_path_renamed r (origin_of_name s g) q in
    λ i. alone_second r c.0 s a i && (is_below c.1 q && built i)
chain_alike r None g h s q first second a m e = e

mutual
  takes_moves : (r : Renaming) (e : ExprTree) (g h : Named Origin) (s : ℕ) (q : Path) → Binds (IsAlone r) e → OriginsHaveMoved r g h → IsAlone r s → takes (renamed r e) h (r s) q ≡ takes e g s q
  takes_moves r (leaf a l) g h s q b m t =
      (λ i. chain_takes (leaf_chain r l i) h (r s) q false) ∙ chain_alike r (chain_of_leaf l) g h s q false false t m refl
  takes_moves r (one a o e) g h s q b m t =
      (λ i. chain_takes (chain_of_node r o e i) h (r s) q (takes (renamed r e) h (r s) q))
      ∙ chain_alike r (chain_of_one o (chain_of e)) g h s q (takes e g s q) (takes (renamed r e) h (r s) q) t m (takes_moves r e g h s q b m t)
  takes_moves r (two a o e f) g h s q b m t = λ i. takes_moves r e g h s q b.0 m t i || takes_moves r f g h s q b.1 m t i
  takes_moves r (three a o c e f) g h s q b m t =
      λ i. takes_moves r c g h s q b.0 m t i || (takes_moves r e g h s q b.1 m t i || takes_moves r f g h s q b.2 m t i)
  takes_moves r (many a o es) g h s q b m t = some_take_moves r es g h s q b m t
  takes_moves r (let_in a x e f) g h s q b m t =
      let inside = bind_moves r x.sym.0 (origin e g) (origin (renamed r e) h) g h b.0 (origin_moves r e g h b.1 m) (origin_holds r e g h m) m in
      λ i. takes_moves r e g h s q b.1 m t i || (if alone_first r x.sym.0 s b.0 i then false else takes_moves r f _ _ s q b.2 inside t i)
  takes_moves r (loop a ls e y n x f) g h s q b m t = λ i. legs_take_moves r ls g h s q b.3 m t i || takes_moves r e g h s q b.4 m t i
  takes_moves r (iterate a e x f) g h s q b m t = takes_moves r e g h s q b.1 m t

  some_take_moves : (r : Renaming) (es : ExprTrees) (g h : Named Origin) (s : ℕ) (q : Path) → AllBind (IsAlone r) es → OriginsHaveMoved r g h → IsAlone r s → some_take (all_renamed r es) h (r s) q ≡ some_take es g s q
  some_take_moves r no_exprs g h s q b m t = refl
  some_take_moves r (more_exprs e es) g h s q b m t = λ i. takes_moves r e g h s q b.0 m t i || some_take_moves r es g h s q b.1 m t i

  leg_takes_moves : (r : Renaming) (l : LegTree) (g h : Named Origin) (s : ℕ) (q : Path) → LegBinds (IsAlone r) l → OriginsHaveMoved r g h → IsAlone r s → leg_takes (leg_renamed r l) h (r s) q ≡ leg_takes l g s q
  leg_takes_moves r (whole e) g h s q b m t = takes_moves r e g h s q b m t
  leg_takes_moves r (strided e f k j) g h s q b m t =
      λ i. takes_moves r e g h s q b.0 m t i || (takes_moves r f g h s q b.1 m t i || (takes_moves r k g h s q b.2 m t i || takes_moves r j g h s q b.3 m t i))

  legs_take_moves : (r : Renaming) (ls : LegTrees) (g h : Named Origin) (s : ℕ) (q : Path) → LegsBind (IsAlone r) ls → OriginsHaveMoved r g h → IsAlone r s → legs_take (legs_renamed r ls) h (r s) q ≡ legs_take ls g s q
  legs_take_moves r no_legs g h s q b m t = refl
  legs_take_moves r (more_legs l ls) g h s q b m t = λ i. leg_takes_moves r l g h s q b.0 m t i || legs_take_moves r ls g h s q b.1 m t i

pub takes_alike : (r : Renaming) (e : ExprTree) (g h : Named Origin) → Binds (IsAlone r) e → OriginsHaveMoved r g h → TakesAlike r (takes e g) (takes (renamed r e) h)
takes_alike r e g h b m = record { alike = λ s q t. takes_moves r e g h s q b m t }

pub leg_takes_alike : (r : Renaming) (l : LegTree) (g h : Named Origin) → LegBinds (IsAlone r) l → OriginsHaveMoved r g h → TakesAlike r (leg_takes l g) (leg_takes (leg_renamed r l) h)
leg_takes_alike r l g h b m = record { alike = λ s q t. leg_takes_moves r l g h s q b m t }

pub legs_take_alike : (r : Renaming) (ls : LegTrees) (g h : Named Origin) → LegsBind (IsAlone r) ls → OriginsHaveMoved r g h → TakesAlike r (legs_take ls g) (legs_take (legs_renamed r ls) h)
legs_take_alike r ls g h b m = record { alike = λ s q t. legs_take_moves r ls g h s q b m t }

-- ---- what is left

pub has_alike : (r : Renaming) (left : Left) (s : ℕ) (q : Path) → AreAlone r left → has (left_renamed r left) (r s) q ≡ has left s q
has_alike r [] s q a = refl
has_alike r (e ∷ es) s q a = λ i. (alone_first r e.0 s a.0 i && same_path e.1 q) || has_alike r es s q a.1 i

pub after_alike : (r : Renaming) (first second : Taken) (left : Left) → AreAlone r left → TakesAlike r first second → after_taking second (left_renamed r left) ≡ left_renamed r (after_taking first left)
after_alike r first second [] a t = refl
after_alike r first second (e ∷ es) a t =
    (λ i. if t.alike e.0 e.1 a.0 i then after_alike r first second es a.1 t i else (r e.0, e.1) ∷ after_alike r first second es a.1 t i) ∙ by (first e.0 e.1)
  where
    by : (c : Bool) → (if c then left_renamed r (after_taking first es) else (r e.0, e.1) ∷ left_renamed r (after_taking first es)) ≡ left_renamed r (if c then after_taking first es else e ∷ after_taking first es)
    by true = refl
    by false = refl

pub after_alone : (r : Renaming) (taken : Taken) (left : Left) → AreAlone r left → AreAlone r (after_taking taken left)
after_alone r taken [] a = tt
after_alone r taken (e ∷ es) a = by (taken e.0 e.1) (after_alone r taken es a.1)
  where
    by : (c : Bool) → AreAlone r (after_taking taken es) → AreAlone r (if c then after_taking taken es else e ∷ after_taking taken es)
    by true k = k
    by false k = (a.0, k)

pub some_alike : (r : Renaming) (first second : ℕ × Path → Bool) (left : Left) → AreAlone r left → ((s : ℕ) (q : Path) → IsAlone r s → second (r s, q) ≡ first (s, q)) → some_of second (left_renamed r left) ≡ some_of first left
some_alike r first second [] a k = refl
some_alike r first second (e ∷ es) a k = λ i. k e.0 e.1 a.0 i || some_alike r first second es a.1 k i

-- ---- the builders of a binder

map_names : (r : Renaming) (s : ℕ) (qs : List Path) → map (λ (q : Path). (r s, q)) qs ≡ left_renamed r (map (λ (q : Path). (s, q)) qs)
map_names r s [] = refl
map_names r s (q ∷ qs) = ap (λ rest. (r s, q) ∷ rest) (map_names r s qs)

pub builders_move : (r : Renaming) (s : ℕ) (o p : Origin) → p ≡ renamed_origin r o → builders_of (r s) p ≡ left_renamed r (builders_of s o)
builders_move r s o p e = ap (builders_of (r s)) e ∙ (λ i. map (λ (q : Path). (r s, q)) (paths_renamed r [] o i)) ∙ map_names r s (paths_below [] o)

names_alone : (r : Renaming) (s : ℕ) (qs : List Path) → IsAlone r s → AreAlone r (map (λ (q : Path). (s, q)) qs)
names_alone r s [] a = tt
names_alone r s (q ∷ qs) a = (a, names_alone r s qs a)

pub builders_alone : (r : Renaming) (s : ℕ) (o : Origin) → IsAlone r s → AreAlone r (builders_of s o)
builders_alone r s o a = names_alone r s (paths_below [] o) a

pub both_alone : (r : Renaming) (first second : Left) → AreAlone r first → AreAlone r second → AreAlone r (first ++ second)
both_alone r [] second a b = b
both_alone r (e ∷ es) second a b = (a.0, both_alone r es second a.1 b)

pub both_renamed : (r : Renaming) (first second : Left) → left_renamed r first ++ left_renamed r second ≡ left_renamed r (first ++ second)
both_renamed r [] second = refl
both_renamed r (e ∷ es) second = ap (λ rest. (r e.0, e.1) ∷ rest) (both_renamed r es second)

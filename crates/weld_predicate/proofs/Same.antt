-- One name with the same field accesses is one thing, wherever it stands; and what is noted of a `merger`.
use Rattle.std.proofs.Common.{◌≡◌, ℕ, ◌==◌, Bool, true, false, if◌then◌else◌, [], ◌∷◌, Option, Some, None, refl, ap, sym, subst, ◌∙◌, eqb-true}
use Rattle.weld_data.specs.declared.kind.Kind.{Kind}
use Rattle.weld_data.specs.declared.kind.Kind.TheVariants as kinds
use Rattle.weld_data.specs.declared.op.MergeOp.{MergeOp}
use Rattle.weld_data.specs.Kind.{IsInteger}
use Rattle.weld_tree.specs.declared.known.Known.{Known}
use Rattle.weld_tree.specs.declared.known.Known.TheVariants.{Blank, Is}
use Rattle.weld_tree.specs.TypeTree.{TypeTree, TypeTrees, scalar, vec, struct, dict, build, list, total, keyed, cells, groups, no_types, more_types}
use Rattle.weld_tree.specs.Types.{HasTypes, IsIntegerType, AreIntegerTypes, IsMergerType}
use Rattle.weld_tree.specs.ExprTree.{ExprTree, leaf, one, two, three, many, let_in, loop, iterate}
use Rattle.weld_builders.specs.Outcome.{Outcome, and_then}
use Rattle.weld_meaning.specs.Environment.{Named, look_for}
use Rattle.weld_meaning.specs.Thing.{Thing, field_of}
use Rattle.weld_meaning.specs.Evaluation.{Env, found, eval}
use Rattle.weld_meaning.specs.Typing.{Types, HasType}
use Rattle.weld_meaning.specs.Origin.{Path, Origin, field_origin, origin_of_name, origin}
use Rattle.weld_meaning.specs.Available.{same_path, chain_of, takes}
use Rattle.weld_check_types.specs.Notes.{AreNoted}
use Rattle.weld_rewriting.proofs.Forms.{takes_chain}
use Rattle.weld_substitution.specs.Redex.{noted}
use Rattle.weld_substitution.proofs.Chains.{chain_by}
use Rattle.weld_substitution.proofs.Following.{and_true}
use Rattle.weld_types.specs.Tests.{is_integer_kind, is_integer, are_integers, has_types, is_mergeable}
use Rattle.weld_predicate.specs.Guard.{Merger, of_item, of_type, merger_of, same_chain}

-- ---- chains

abbrev from_path : Path → Origin → Origin
from_path [] o = o
from_path (n ∷ p) o = field_origin n (from_path p o)

abbrev thing_at_path : Path → Outcome Thing → Outcome Thing
thing_at_path [] o = o
thing_at_path (n ∷ p) o = and_then (thing_at_path p o) (field_of n)

chain_from : (g : Named Origin) (d : ExprTree) (c : ℕ × Path) → chain_of d ≡ Some c → origin d g ≡ from_path c.1 (origin_of_name c.0 g)
chain_from g d c k = chain_by (λ x y. origin x g ≡ from_path y.1 (origin_of_name y.0 g)) (λ a s. refl) (λ a n x y m f. ap (field_origin n) f) d c k

chain_gives : (env : Env) (d : ExprTree) (c : ℕ × Path) → chain_of d ≡ Some c → eval d env ≡ thing_at_path c.1 (found (look_for c.0 env))
chain_gives env d c k =
    chain_by (λ x y. eval x env ≡ thing_at_path y.1 (found (look_for y.0 env))) (λ a s. refl) (λ a n x y m f. ap (λ o. and_then o (field_of n)) f) d c k

pub one_origin : (g : Named Origin) (d e : ExprTree) (c : ℕ × Path) → chain_of d ≡ Some c → chain_of e ≡ Some c → origin d g ≡ origin e g
one_origin g d e c k m = chain_from g d c k ∙ sym (chain_from g e c m)

pub one_thing : (env : Env) (d e : ExprTree) (c : ℕ × Path) → chain_of d ≡ Some c → chain_of e ≡ Some c → eval d env ≡ eval e env
one_thing env d e c k m = chain_gives env d c k ∙ sym (chain_gives env e c m)

pub one_taking : (g : Named Origin) (d e : ExprTree) (c : ℕ × Path) → chain_of d ≡ Some c → chain_of e ≡ Some c → (s : ℕ) (q : Path) → takes d g s q ≡ takes e g s q
one_taking g d e c k m s q = takes_chain d c g s q false k ∙ sym (takes_chain e c g s q false m)

-- ---- the tests

same_is : (p q : Path) → same_path p q ≡ true → p ≡ q
same_is [] [] h = refl
same_is [] (m ∷ q) h = let nothing : ⊥ = cc in absurd nothing
same_is (n ∷ p) [] h = let nothing : ⊥ = cc in absurd nothing
same_is (n ∷ p) (m ∷ q) h = let k = and_true (n == m) (same_path p q) h in let x = eqb-true n m k.0 in let y = same_is p q k.1 in λ i. x i ∷ y i

pub chains_are : (c d : Option (ℕ × Path)) → same_chain c d ≡ true → (e : ℕ × Path) × (c ≡ Some e) × (d ≡ Some e)
chains_are None d h = let nothing : ⊥ = cc in absurd nothing
chains_are (Some c) None h = let nothing : ⊥ = cc in absurd nothing
chains_are (Some c) (Some d) h =
    let k = and_true (c.0 == d.0) (same_path c.1 d.1) h in
    let x = eqb-true c.0 d.0 k.0 in let y = same_is c.1 d.1 k.1 in
    (c, refl, λ i. Some (sym x i, sym y i))

-- ---- mergers

integer_kind : (k : Kind) → is_integer_kind k ≡ true → IsInteger k
integer_kind kinds.Bool h = let nothing : ⊥ = cc in absurd nothing
integer_kind kinds.I8 h = tt
integer_kind kinds.I16 h = tt
integer_kind kinds.I32 h = tt
integer_kind kinds.I64 h = tt
integer_kind kinds.U8 h = tt
integer_kind kinds.U16 h = tt
integer_kind kinds.U32 h = tt
integer_kind kinds.U64 h = tt

integer_type : (t : TypeTree) → is_integer t ≡ true → IsIntegerType t
integer_type (scalar k) h = integer_kind k h
integer_type (vec t) h = let nothing : ⊥ = cc in absurd nothing
integer_type (struct ts) h = let nothing : ⊥ = cc in absurd nothing
integer_type (dict k v) h = let nothing : ⊥ = cc in absurd nothing
integer_type (build b) h = let nothing : ⊥ = cc in absurd nothing

integer_types : (ts : TypeTrees) → are_integers ts ≡ true → AreIntegerTypes ts
integer_types no_types h = tt
integer_types (more_types t ts) h = let k = and_true (is_integer t) (are_integers ts) h in (integer_type t k.0, integer_types ts k.1)

some_types : (ts : TypeTrees) → has_types ts ≡ true → HasTypes ts
some_types no_types h = let nothing : ⊥ = cc in absurd nothing
some_types (more_types t ts) h = tt

pub merger_type : (t : TypeTree) → is_mergeable t ≡ true → IsMergerType t
merger_type (scalar k) h = integer_kind k h
merger_type (vec t) h = let nothing : ⊥ = cc in absurd nothing
merger_type (struct ts) h = let k = and_true (has_types ts) (are_integers ts) h in (some_types ts k.0, integer_types ts k.1)
merger_type (dict k v) h = let nothing : ⊥ = cc in absurd nothing
merger_type (build b) h = let nothing : ⊥ = cc in absurd nothing

-- the builder of the type, which combines what a `merger` may
pub record IsMerger (t : TypeTree) (m : Merger) : Type 0 where
  pub type : t ≡ build (total m.item m.op)
  pub mergeable : IsMergerType m.item

item_is : (t : TypeTree) (op : MergeOp) (m : Merger) → of_item t op ≡ Some m → IsMerger (build (total t op)) m
item_is t op m h = by (is_mergeable t) refl h
  where
    by : (b : Bool) → is_mergeable t ≡ b → (if b then Some (record { item = t; op = op }) else None) ≡ Some m → IsMerger (build (total t op)) m
    by true q e = let same : record { item = t; op = op } ≡ m = cc in subst (IsMerger (build (total t op))) same (record { type = refl; mergeable = merger_type t q })
    by false q e = let nothing : ⊥ = cc in absurd nothing

type_is : (t : TypeTree) (m : Merger) → of_type t ≡ Some m → IsMerger t m
type_is (scalar k) m h = let nothing : ⊥ = cc in absurd nothing
type_is (vec t) m h = let nothing : ⊥ = cc in absurd nothing
type_is (struct ts) m h = let nothing : ⊥ = cc in absurd nothing
type_is (dict k v) m h = let nothing : ⊥ = cc in absurd nothing
type_is (build (list t)) m h = let nothing : ⊥ = cc in absurd nothing
type_is (build (total t op)) m h = item_is t op m h
type_is (build (keyed k v op)) m h = let nothing : ⊥ = cc in absurd nothing
type_is (build (cells t op)) m h = let nothing : ⊥ = cc in absurd nothing
type_is (build (groups k v)) m h = let nothing : ⊥ = cc in absurd nothing

pub merger_is : (known : Known) (m : Merger) (t : TypeTree) → merger_of known ≡ Some m → known ≡ Is t → IsMerger t m
merger_is known m t h e = type_is t m (sym (ap merger_of e) ∙ h)

pub item_mergeable : (known : Known) (m : Merger) → merger_of known ≡ Some m → IsMergerType m.item
item_mergeable Blank m h = let nothing : ⊥ = cc in absurd nothing
item_mergeable (Is t) m h = (type_is t m h).mergeable

-- ---- the note of a node itself

pub note_there : (v : ExprTree) (g : Types) → AreNoted v g → (t : TypeTree) × (noted v ≡ Is t) × HasType v g t
note_there (leaf a l) g n = n
note_there (one a o e) g n = n.1
note_there (two a o e f) g n = n.2
note_there (three a o e f k) g n = n.3
note_there (many a o es) g n = n.1
note_there (let_in a b e f) g n = n.2
note_there (loop a ls e b x y f) g n = n.3
note_there (iterate a e b f) g n = n.2

-- Trees over tokens and over their classes.
use Rattle.std.proofs.Common.{◌≡◌, refl, List, [], ◌∷◌, ◌++◌, ap, sym, ◌∙◌, append_assoc, subst}
use Rattle.std.proofs.lemmas.List.{append-nil}
use Rattle.weld_grammar.specs.declared.terminals.class.Class.{Class}
use Rattle.weld_grammar.specs.declared.terminals.token.Token.{Token}
use Rattle.weld_tree.specs.Program.{ProgramTree}
use Rattle.weld_grammar.specs.declared.rule.Rule.{Rule}
use Rattle.weld_grammar.specs.declared.rule.Rule.TheVariants.{Program}
use Rattle.weld_grammar.specs.declared.item.Item.TheVariants.{Part as OfRule}
use Rattle.weld_grammar.specs.Grammar.{item}
use Rattle.weld_grammar.specs.Derivation.{Tree, leaf, node, empty, pair, here, there, yield, IsOf}
use Rattle.weld_grammar.specs.Breaks.{Derives}
use Rattle.weld_grammar.specs.Classes.{classes}
use Rattle.weld_spell.specs.Seen.{seen}
use Rattle.weld_spell.specs.ProgramOf.{program_of}
use Rattle.weld_spell.specs.Spells.{Spells}

classes-append : (xs ys : List Token) → classes (xs ++ ys) ≡ classes xs ++ classes ys
classes-append [] ys = refl
classes-append (x ∷ xs) ys = ap (λ z. x.class ∷ z) (classes-append xs ys)

-- a tree over tokens is seen to yield their classes
yield-seen : (t : Tree Token) → yield (seen t) ≡ classes (yield t)
yield-seen (leaf x) = refl
yield-seen (node t) = yield-seen t
yield-seen empty = refl
yield-seen (pair t u) = ap (λ z. z ++ yield (seen u)) (yield-seen t) ∙ ap (λ z. classes (yield t) ++ z) (yield-seen u) ∙ sym (classes-append (yield t) (yield u))
yield-seen (here t) = yield-seen t
yield-seen (there t) = yield-seen t

-- trees that are seen alike and yield the same tokens are one
record Same (t u : Tree Token) (k l : List Token) : Type 0 where
  pub trees : t ≡ u
  pub rests : k ≡ l

same_leaf : (x y : Token) (k l : List Token) → x ∷ k ≡ y ∷ l → Same (leaf x) (leaf y) k l
same_leaf x y k l e = record { trees = ap leaf (first x y k l e); rests = rest x y k l e }
  where
    first : (x y : Token) (k l : List Token) → x ∷ k ≡ y ∷ l → x ≡ y
    first x y k l e = cc

    rest : (x y : Token) (k l : List Token) → x ∷ k ≡ y ∷ l → k ≡ l
    rest x y k l e = cc

node_inner : (a b : Tree Class) → node a ≡ node b → a ≡ b
node_inner a b e = cc

here_inner : (a b : Tree Class) → here a ≡ here b → a ≡ b
here_inner a b e = cc

there_inner : (a b : Tree Class) → there a ≡ there b → a ≡ b
there_inner a b e = cc

pair_left : (a b c d : Tree Class) → pair a b ≡ pair c d → a ≡ c
pair_left a b c d e = cc

pair_right : (a b c d : Tree Class) → pair a b ≡ pair c d → b ≡ d
pair_right a b c d e = cc

in_node : (t u : Tree Token) (k l : List Token) → Same t u k l → Same (node t) (node u) k l
in_node t u k l h = record { trees = ap node h.trees; rests = h.rests }

in_here : (t u : Tree Token) (k l : List Token) → Same t u k l → Same (here t) (here u) k l
in_here t u k l h = record { trees = ap here h.trees; rests = h.rests }

in_there : (t u : Tree Token) (k l : List Token) → Same t u k l → Same (there t) (there u) k l
in_there t u k l h = record { trees = ap there h.trees; rests = h.rests }

in_pair : (a b t u : Tree Token) (k l : List Token) → Same a b (yield t ++ k) (yield u ++ l) → (yield t ++ k ≡ yield u ++ l → Same t u k l) → Same (pair a t) (pair b u) k l
in_pair a b t u k l h g = let rest = g h.rests in record { trees = ap (λ z. pair z t) h.trees ∙ ap (pair b) rest.trees; rests = rest.rests }

seen_alike : (t u : Tree Token) (k l : List Token) → seen t ≡ seen u → yield t ++ k ≡ yield u ++ l → Same t u k l
seen_alike (leaf x) (leaf y) k l e f = same_leaf x y k l f
seen_alike (node t) (node u) k l e f = in_node t u k l (seen_alike t u k l (node_inner (seen t) (seen u) e) f)
seen_alike empty empty k l e f = record { trees = refl; rests = f }
seen_alike (pair a b) (pair c d) k l e f =
    in_pair a c b d k l
    (seen_alike a c (yield b ++ k) (yield d ++ l) (pair_left (seen a) (seen b) (seen c) (seen d) e) (sym (append_assoc (yield a) (yield b) k) ∙ f ∙ append_assoc (yield c) (yield d) l))
    (λ g. seen_alike b d k l (pair_right (seen a) (seen b) (seen c) (seen d) e) g)
seen_alike (here t) (here u) k l e f = in_here t u k l (seen_alike t u k l (here_inner (seen t) (seen u) e) f)
seen_alike (there t) (there u) k l e f = in_there t u k l (seen_alike t u k l (there_inner (seen t) (seen u) e) f)
seen_alike _ _ k l e f = absurd (cc)

-- a tree over the classes of tokens is one over the tokens
record Lifted (t : Tree Class) (ts : List Token) (zs : List Class) : Type 0 where
  pub tree : Tree Token
  pub rest : List Token
  pub alike : seen tree ≡ t
  pub tokens : ts ≡ yield tree ++ rest
  pub left : classes rest ≡ zs

lift_leaf : (x : Class) (ts : List Token) (zs : List Class) → classes ts ≡ x ∷ zs → Lifted (leaf x) ts zs
lift_leaf x [] zs e = absurd (cc)
lift_leaf x (t ∷ ts) zs e = record { tree = leaf t; rest = ts; alike = ap leaf (first t.class x (classes ts) zs e); tokens = refl; left = rest t.class x (classes ts) zs e }
  where
    first : (a b : Class) (k l : List Class) → a ∷ k ≡ b ∷ l → a ≡ b
    first a b k l e = cc

    rest : (a b : Class) (k l : List Class) → a ∷ k ≡ b ∷ l → k ≡ l
    rest a b k l e = cc

lift_node : (t : Tree Class) (ts : List Token) (zs : List Class) → Lifted t ts zs → Lifted (node t) ts zs
lift_node t ts zs h = record { tree = node h.tree; rest = h.rest; alike = ap node h.alike; tokens = h.tokens; left = h.left }

lift_here : (t : Tree Class) (ts : List Token) (zs : List Class) → Lifted t ts zs → Lifted (here t) ts zs
lift_here t ts zs h = record { tree = here h.tree; rest = h.rest; alike = ap here h.alike; tokens = h.tokens; left = h.left }

lift_there : (t : Tree Class) (ts : List Token) (zs : List Class) → Lifted t ts zs → Lifted (there t) ts zs
lift_there t ts zs h = record { tree = there h.tree; rest = h.rest; alike = ap there h.alike; tokens = h.tokens; left = h.left }

lift_pair : (t u : Tree Class) (ts : List Token) (ys zs : List Class) → (h : Lifted t ts ys) → Lifted u h.rest zs → Lifted (pair t u) ts zs
lift_pair t u ts ys zs h k = record {
  tree = pair h.tree k.tree;
  rest = k.rest;
  alike = ap (λ z. pair z (seen k.tree)) h.alike ∙ ap (pair t) k.alike;
  tokens = h.tokens ∙ ap (λ z. yield h.tree ++ z) k.tokens ∙ sym (append_assoc (yield h.tree) (yield k.tree) k.rest);
  left = k.left;
}

lift : (t : Tree Class) (ts : List Token) (zs : List Class) → classes ts ≡ yield t ++ zs → Lifted t ts zs
lift (leaf x) ts zs e = lift_leaf x ts zs e
lift (node t) ts zs e = lift_node t ts zs (lift t ts zs e)
lift empty ts zs e = record { tree = empty; rest = ts; alike = refl; tokens = refl; left = e }
lift (pair t u) ts zs e =
    let h = lift t ts (yield u ++ zs) (e ∙ append_assoc (yield t) (yield u) zs) in
    lift_pair t u ts (yield u ++ zs) zs h (lift u h.rest zs h.left)
lift (here t) ts zs e = lift_here t ts zs (lift t ts zs e)
lift (there t) ts zs e = lift_there t ts zs (lift t ts zs e)

no_classes : (ts : List Token) → classes ts ≡ [] → ts ≡ []
no_classes [] e = refl
no_classes (t ∷ ts) e = absurd (cc)

pub spelled_derives : (ts : List Token) (p : ProgramTree) → Spells ts p → Derives Program (classes ts)
spelled_derives ts p h = (seen h.tree, h.tree_of, yield-seen h.tree ∙ ap classes h.tokens)

pub derives_spelled : (ts : List Token) → Derives Program (classes ts) → (p : ProgramTree) × Spells ts p
derives_spelled ts d =
    let h = lift d.0 ts [] (sym d.2 ∙ sym (append-nil (yield d.0))) in
    let P : Tree Class → Type 0 = IsOf (item (OfRule Program)) in
    (program_of h.tree, record { tree = h.tree; tree_of = subst P (sym h.alike) d.1; tokens = sym (append-nil (yield h.tree)) ∙ ap (λ z. yield h.tree ++ z) (sym (no_classes h.rest h.left)) ∙ sym h.tokens; is = refl })

-- the grammar's law of one tree
abbrev pub HasOneTree : Type 0
HasOneTree = (r : Rule) (t u : Tree Class) → IsOf (item (OfRule r)) t → IsOf (item (OfRule r)) u → yield t ≡ yield u → t ≡ u

-- by it, tokens have one tree
pub one_over_tokens : HasOneTree → (r : Rule) (t u : Tree Token) → IsOf (item (OfRule r)) (seen t) → IsOf (item (OfRule r)) (seen u) → yield t ≡ yield u → t ≡ u
one_over_tokens law r t u h k e =
    let yields : yield (seen t) ≡ yield (seen u) = yield-seen t ∙ ap classes e ∙ sym (yield-seen u) in
    (seen_alike t u [] [] (law r (seen t) (seen u) h k yields) (ap (λ z. z ++ []) e)).trees

pub one_spelled : HasOneTree → (ts : List Token) (p q : ProgramTree) → Spells ts p → Spells ts q → p ≡ q
one_spelled law ts p q h k = sym h.is ∙ ap program_of (one_over_tokens law Program h.tree k.tree h.tree_of k.tree_of (h.tokens ∙ sym k.tokens)) ∙ k.is

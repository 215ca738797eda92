-- Types, kinds and the operators of builders have no names, no numbers and no `=` in them.
use Rattle.std.proofs.Common.{◌≡◌, refl, ℕ, Bool, true, false, ◌&&◌, List, [], ◌∷◌, ap, ◌∙◌, Option, None}
use Rattle.weld_grammar.specs.declared.terminals.symbol.Symbol.TheVariants.{Equals}
use Rattle.weld_grammar.specs.declared.terminals.token.Token.{Token}
use Rattle.weld_grammar.specs.declared.terminal.Terminal.{Terminal}
use Rattle.weld_grammar.specs.declared.terminal.Terminal.TheVariants.{Sign, Fixed}
use Rattle.weld_grammar.specs.declared.rule.Rule.{Rule}
use Rattle.weld_grammar.specs.declared.rule.Rule.TheVariants as r
use Rattle.weld_grammar.specs.declared.item.Item.{Item}
use Rattle.weld_grammar.specs.declared.item.Item.TheVariants.{One, Part as OfRule, Optional, Repeated}
use Rattle.weld_grammar.specs.Grammar.{Part, item, all_of, one_of, body}
use Rattle.weld_grammar.specs.Derivation.{Tree, leaf, node, pair, here, there}
use Rattle.weld_spell.specs.Names.{Refused, or_else, misnamed, misnamed_token, none, binding_of}

abbrev pub is_nameless : Rule → Bool
is_nameless r.Note = true
is_nameless r.ListBuild = true
is_nameless r.KeyedBuild = true
is_nameless r.GroupsBuild = true
is_nameless r.AnyType = true
is_nameless r.VecType = true
is_nameless r.StructType = true
is_nameless r.NextType = true
is_nameless r.DictType = true
is_nameless r.ListType = true
is_nameless r.TotalType = true
is_nameless r.KeyedType = true
is_nameless r.CellsType = true
is_nameless r.GroupsType = true
is_nameless r.ListWord = true
is_nameless r.GroupsWord = true
is_nameless r.MergeOp = true
is_nameless r.Kind = true
is_nameless r.IntKind = true
is_nameless _ = false

abbrev pub nameless_terminal : Terminal → Bool
nameless_terminal (Sign Equals) = false
nameless_terminal (Sign s) = true
nameless_terminal (Fixed w) = true
nameless_terminal _ = false

abbrev pub nameless_item : Item → Bool
nameless_item (One a) = nameless_terminal a
nameless_item (OfRule q) = is_nameless q
nameless_item (Optional q) = is_nameless q
nameless_item (Repeated q) = is_nameless q

abbrev pub nameless_items : List Item → Bool
nameless_items [] = true
nameless_items (i ∷ is) = nameless_item i && nameless_items is

abbrev pub nameless_part : Part → Bool
nameless_part (item i) = nameless_item i
nameless_part (all_of is) = nameless_items is
nameless_part (one_of is) = nameless_items is

pub table : (q : Rule) → is_nameless q ≡ true → nameless_part (body q) ≡ true
table r.Note e = refl
table r.ListBuild e = refl
table r.KeyedBuild e = refl
table r.GroupsBuild e = refl
table r.AnyType e = refl
table r.VecType e = refl
table r.StructType e = refl
table r.NextType e = refl
table r.DictType e = refl
table r.ListType e = refl
table r.TotalType e = refl
table r.KeyedType e = refl
table r.CellsType e = refl
table r.GroupsType e = refl
table r.ListWord e = refl
table r.GroupsWord e = refl
table r.MergeOp e = refl
table r.Kind e = refl
table r.IntKind e = refl
table _ e = absurd (cc)

binds_none : (q : Rule) → is_nameless q ≡ true → binding_of q ≡ none
binds_none r.Let e = absurd (cc)
binds_none r.For e = absurd (cc)
binds_none r.Iterate e = absurd (cc)
binds_none r.WithParams e = absurd (cc)
binds_none _ e = refl

pub both_left : (a b : Bool) → a && b ≡ true → a ≡ true
both_left true b e = refl
both_left false b e = absurd (cc)

pub both_right : (a b : Bool) → a && b ≡ true → b ≡ true
both_right true b e = e
both_right false b e = absurd (cc)

neither : (a b : Option Refused) → a ≡ None → b ≡ None → or_else a b ≡ None
neither a b e f = ap (λ z. or_else z b) e ∙ f

silent_token : (a : Terminal) (t : Token) (scope : List (List ℕ)) → nameless_terminal a ≡ true → misnamed_token a t scope ≡ None
silent_token (Sign Equals) t scope e = absurd (cc)
silent_token (Sign s) t scope e = refl
silent_token (Fixed w) t scope e = refl
silent_token _ t scope e = absurd (cc)

pub silent : (p : Part) (t : Tree Token) (scope : List (List ℕ)) → nameless_part p ≡ true → misnamed none p t scope ≡ None
silent (all_of (i ∷ rest)) (pair t u) scope e = neither _ _ (silent (item i) t scope (both_left (nameless_item i) (nameless_items rest) e)) (silent (all_of rest) u scope (both_right (nameless_item i) (nameless_items rest) e))
silent (item (One a)) (leaf t) scope e = silent_token a t scope e
silent (item (OfRule q)) (node t) scope e = ap (λ z. misnamed z (body q) t scope) (binds_none q e) ∙ silent (body q) t scope (table q e)
silent (item (Optional q)) (here t) scope e = silent (item (OfRule q)) t scope e
silent (item (Repeated q)) (pair t u) scope e = neither _ _ (silent (item (OfRule q)) t scope e) (silent (item (Repeated q)) u scope e)
silent (one_of (i ∷ rest)) (here t) scope e = silent (item i) t scope (both_left (nameless_item i) (nameless_items rest) e)
silent (one_of (i ∷ rest)) (there t) scope e = silent (one_of rest) t scope (both_right (nameless_item i) (nameless_items rest) e)
silent p t scope e = refl

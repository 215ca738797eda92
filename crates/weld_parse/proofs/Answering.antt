-- What is answered of a text, from what is found in it.
use Rattle.std.proofs.Common.{◌≡◌, ◌⊎◌, inl, inr, refl, ℕ, ◌≤◌, Bool, true, false, List, length, Option, Some, None, Result, Ok, Err, IfOk, IfErr, ap, sym, subst, ◌∙◌}
use Rattle.std.proofs.lemmas.Bool.{ltb-false}
use Rattle.weld_tree.specs.declared.place.Place.{Place}
use Rattle.weld_tree.specs.declared.code.Code.{Code}
use Rattle.weld_tree.specs.declared.code.Code.TheVariants.{X1, X2, X3, M3}
use Rattle.weld_tree.specs.declared.refusal.Refusal.{Refusal}
use Rattle.weld_tree.specs.declared.refusal.Refusal.TheVariants.{At, Size, Memory}
use Rattle.weld_tree.specs.ExprTree.{ExprTree}
use Rattle.weld_tree.specs.Program.{ProgramTree, IsProgram}
use Rattle.weld_tree.specs.declared.binder.Binder.{Binder}
use Rattle.weld_grammar.specs.declared.terminals.class.Class.{Class}
use Rattle.weld_grammar.specs.declared.terminals.token.Token.{Token}
use Rattle.weld_tokens.specs.declared.order.Findings.{Findings}
use Rattle.weld_tokens.specs.Tokens.{AreTokens, end_of}
use Rattle.weld_tokens.specs.Tokens.{IsRefused as RefusedTokens}
use Rattle.weld_tokens.specs.TokenLimits.{has_too_many_bytes, has_too_many_tokens}
use Rattle.weld_tokens.specs.Order.{first_refusal, first_number_out_of_range}
use Rattle.weld_grammar.specs.declared.rule.Rule.{Rule}
use Rattle.weld_grammar.specs.declared.rule.Rule.TheVariants.{Program}
use Rattle.weld_grammar.specs.declared.item.Item.TheVariants.{Part as OfRule}
use Rattle.weld_grammar.specs.Grammar.{item}
use Rattle.weld_grammar.specs.Derivation.{Tree, yield, IsOf}
use Rattle.weld_grammar.specs.Breaks.{Derives, BreaksAt}
use Rattle.weld_grammar.specs.Classes.{classes}
use Rattle.weld_spell.specs.Seen.{seen}
use Rattle.weld_spell.specs.ProgramOf.{program_of}
use Rattle.weld_spell.specs.Spells.{Spells}
use Rattle.weld_spell.specs.Ranges.{number_out_of_range}
use Rattle.weld_tokens.specs.Depth.{first_deep_node}
use Rattle.weld_tokens.specs.Lets.{has_too_many_lets}
use Rattle.weld_tokens.specs.Lists.{first_type_too_large, first_parameter_too_many, first_field_too_many}
use Rattle.weld_spell.specs.Measures.{type_too_large, parameter_too_many, field_too_many}
use Rattle.weld_spell.specs.Names.{first_misnamed}
use Rattle.weld_accept.specs.declared.stop.Stop.{Stop}
use Rattle.weld_accept.specs.declared.stop.Stop.TheVariants.{Break}
use Rattle.weld_accept.specs.Stops.{StopsAt}
use Rattle.weld_reduce.specs.Programs.{IsRead}
use Rattle.weld_parse.specs.Findings.{place_at, broken_at, IsTreeOf, found_in, Finds, broken, derived}
use Rattle.weld_parse.specs.Parses.{Parses, IsRefused, no_token, by_rule}
use Rattle.weld_parse.specs.declared.program.Unread.{Unread}
use Rattle.weld_parse.specs.declared.program.Unread.TheVariants.{Broken, OutOfRange}
use Rattle.weld_parse.specs.Unread.{WhyUnread}
use Rattle.weld_parse.specs.Judged.{IsAccepted, IsRefusedTree}
use Rattle.weld_parse.proofs.Order.{clean, few_tokens, too_many, broken_first, ranged_first}

-- the laws below: a rule derives tokens or is broken, and derived tokens spell a program
abbrev pub AreDecided : Type 0
AreDecided = (r : Rule) (xs : List Class) → Derives r xs ⊎ ((n : ℕ) × BreaksAt r xs n)

abbrev pub AreSpelled : Type 0
AreSpelled = (ts : List Token) → Derives Program (classes ts) → (p : ProgramTree) × Spells ts p

-- what the grammar finds in tokens, with the program where there is one
pub data Found (text : List ℕ) (tokens : List Token) : Type 0 where
  at_break : (n : ℕ) → BreaksAt Program (classes tokens) n → Found text tokens
  at_tree : (p : ProgramTree) (tree : Tree Token) → IsTreeOf tokens tree → program_of tree ≡ p → Found text tokens

pub find : AreDecided → AreSpelled → (text : List ℕ) (tokens : List Token) → Found text tokens
find decided spelled text tokens =
    elim (decided Program (classes tokens)) as (λ _. Found text tokens) [
      | inl d ↦ let s = spelled tokens d in at_tree s.0 s.1.tree (record { tree_of = s.1.tree_of; yields = s.1.tokens }) s.1.is
      | inr b ↦ at_break b.0 b.1
    ]

some_found : (text : List ℕ) (tokens : List Token) → Found text tokens → (found : Findings) × Finds text tokens found
some_found text tokens (at_break n b) = (broken_at (place_at tokens n (end_of text)), broken n b refl)
some_found text tokens (at_tree p tree is e) = (found_in tree, derived tree is refl)

pub by_size : AreDecided → AreSpelled → (text : List ℕ) (tokens : List Token) → has_too_many_bytes text ≡ false → AreTokens text tokens → has_too_many_tokens tokens ≡ true → IsRefused text (Size M3)
by_size decided spelled text tokens fits of many =
    let f = some_found text tokens (find decided spelled text tokens) in
    by_rule tokens f.0 (record { fits = fits; tokens_of = of; finds = f.1 }) (too_many tokens f.0 many)

-- what is refused of a text's bytes, but for want of memory
pub by_token : (text : List ℕ) (refusal : Refusal) → has_too_many_bytes text ≡ false → RefusedTokens text refusal → (refusal ≡ Memory → ⊥) → IsRefused text refusal
by_token text (At X1 place) fits h n = no_token place fits h refl
by_token text Memory fits h n = absurd (n refl)
by_token text _ fits h n = absurd h

pub within_limit : (text : List ℕ) → has_too_many_bytes text ≡ false → length text ≤ 262144
within_limit text e = ltb-false 262144 (length text) e

pub by_break : (text : List ℕ) (tokens : List Token) (n : ℕ) (place : Place) → has_too_many_bytes text ≡ false → AreTokens text tokens → has_too_many_tokens tokens ≡ false → BreaksAt Program (classes tokens) n
    → place ≡ place_at tokens n (end_of text) → IsRefused text (At X2 place)
by_break text tokens n place fits of few b e =
    let P : Place → Type 0 = λ p. IsRefused text (At X2 p) in
    subst P (sym e) (by_rule tokens (broken_at (place_at tokens n (end_of text))) (record { fits = fits; tokens_of = of; finds = broken n b refl }) (broken_first tokens (place_at tokens n (end_of text)) few))

pub by_tree : (text : List ℕ) (tokens : List Token) (refusal : Refusal) → has_too_many_bytes text ≡ false → AreTokens text tokens → IsRefusedTree tokens refusal → IsRefused text refusal
by_tree text tokens refusal fits of h = by_rule tokens (found_in h.tree) (record { fits = fits; tokens_of = of; finds = derived h.tree h.tree_of refl }) h.refused

pub accepted : (text : List ℕ) (tokens : List Token) (p : ProgramTree) → has_too_many_bytes text ≡ false → AreTokens text tokens → IsAccepted tokens p → Parses text p
accepted text tokens p fits of h = record {
  tokens = tokens;
  found = found_in h.tree;
  reads = record { fits = fits; tokens_of = of; finds = derived h.tree h.tree_of refl };
  unrefused = h.unrefused;
  spells = record { tree = h.tree; tree_of = h.tree_of.tree_of; tokens = h.tree_of.yields; is = h.spelled };
}

-- ---- what is read of tokens

-- the law of numbers
abbrev pub NumbersByTree : Type 0
NumbersByTree = (tree : Tree Token) → IsOf (item (OfRule Program)) (seen tree) → first_number_out_of_range (yield tree) ≡ number_out_of_range tree

-- the laws of limits
pub record Measured : Type 0 where
  pub parameters : (tree : Tree Token) → IsOf (item (OfRule Program)) (seen tree) → first_parameter_too_many (yield tree) ≡ parameter_too_many (program_of tree).params
  pub fields : (tree : Tree Token) → IsOf (item (OfRule Program)) (seen tree) → first_field_too_many (yield tree) ≡ field_too_many tree
  pub types : (tree : Tree Token) → IsOf (item (OfRule Program)) (seen tree) → first_type_too_large (yield tree) ≡ type_too_large tree

same_findings : (a : Option Place) (b b' : Option Place) (c c' : Option Place) (d d' : Bool) (e e' f f' g g' : Option Place) (h h' : Option (Code × Place)) (found : Findings)
    → found.ungrammatical ≡ a → found.out_of_range ≡ b → found.too_deep ≡ c → found.too_many_lets ≡ d → found.too_large_type ≡ e → found.too_many_parameters ≡ f → found.too_many_fields ≡ g → found.misnamed ≡ h
    → b ≡ b' → c ≡ c' → d ≡ d' → e ≡ e' → f ≡ f' → g ≡ g' → h ≡ h'
    → found ≡ record { ungrammatical = a; out_of_range = b'; too_deep = c'; too_many_lets = d'; too_large_type = e'; too_many_parameters = f'; too_many_fields = g'; misnamed = h' }
same_findings a b b' c c' d d' e e' f f' g g' h h' found p0 p1 p2 p3 p4 p5 p6 p7 q1 q2 q3 q4 q5 q6 q7 =
    let make : Option Place → Option Place → Option Place → Bool → Option Place → Option Place → Option Place → Option (Code × Place) → Findings =
    λ x0 x1 x2 x3 x4 x5 x6 x7. record { ungrammatical = x0; out_of_range = x1; too_deep = x2; too_many_lets = x3; too_large_type = x4; too_many_parameters = x5; too_many_fields = x6; misnamed = x7 } in
    ap (λ (z : Option Place). make z found.out_of_range found.too_deep found.too_many_lets found.too_large_type found.too_many_parameters found.too_many_fields found.misnamed) p0
    ∙ ap (λ (z : Option Place). make a z found.too_deep found.too_many_lets found.too_large_type found.too_many_parameters found.too_many_fields found.misnamed) (p1 ∙ q1)
    ∙ ap (λ (z : Option Place). make a b' z found.too_many_lets found.too_large_type found.too_many_parameters found.too_many_fields found.misnamed) (p2 ∙ q2)
    ∙ ap (λ (z : Bool). make a b' c' z found.too_large_type found.too_many_parameters found.too_many_fields found.misnamed) (p3 ∙ q3)
    ∙ ap (λ (z : Option Place). make a b' c' d' z found.too_many_parameters found.too_many_fields found.misnamed) (p4 ∙ q4)
    ∙ ap (λ (z : Option Place). make a b' c' d' e' z found.too_many_fields found.misnamed) (p5 ∙ q5)
    ∙ ap (λ (z : Option Place). make a b' c' d' e' f' z found.misnamed) (p6 ∙ q6)
    ∙ ap (λ (z : Option (Code × Place)). make a b' c' d' e' f' g' z) (p7 ∙ q7)

-- what is found by the tokens and by what is read of them
pub record FoundBy (tokens : List Token) (body : ExprTree) (misnamed : Option (Code × Place)) (found : Findings) : Type 0 where
  pub ungrammatical : found.ungrammatical ≡ None
  pub out_of_range : found.out_of_range ≡ first_number_out_of_range tokens
  pub too_deep : found.too_deep ≡ first_deep_node body
  pub too_many_lets : found.too_many_lets ≡ has_too_many_lets body
  pub too_large_type : found.too_large_type ≡ first_type_too_large tokens
  pub too_many_parameters : found.too_many_parameters ≡ first_parameter_too_many tokens
  pub too_many_fields : found.too_many_fields ≡ first_field_too_many tokens
  pub misnamed_is : found.misnamed ≡ misnamed

found_is : NumbersByTree → Measured → (tokens : List Token) (params : List Binder) (body : ExprTree) (misnamed : Option (Code × Place)) (r : IsRead tokens params body misnamed) (found : Findings) → FoundBy tokens body misnamed found → found ≡ found_in r.tree
found_is law limits tokens params body misnamed r found f =
    let same_body : body ≡ (program_of r.tree).body = ap (λ (p : ProgramTree). p.body) (sym r.program) in
    let numbers : first_number_out_of_range tokens ≡ number_out_of_range r.tree = ap first_number_out_of_range (sym r.tokens) ∙ law r.tree r.tree_of in
    same_findings None _ _ _ _ _ _ _ _ _ _ _ _ _ _ found f.ungrammatical f.out_of_range f.too_deep f.too_many_lets f.too_large_type f.too_many_parameters f.too_many_fields f.misnamed_is
    numbers (ap first_deep_node same_body) (ap has_too_many_lets same_body)
    (ap first_type_too_large (sym r.tokens) ∙ limits.types r.tree r.tree_of)
    (ap first_parameter_too_many (sym r.tokens) ∙ limits.parameters r.tree r.tree_of)
    (ap first_field_too_many (sym r.tokens) ∙ limits.fields r.tree r.tree_of)
    (sym r.misnamed)

pub ranged_refused : NumbersByTree → AreSpelled → (tokens : List Token) (place : Place) → has_too_many_tokens tokens ≡ false → Derives Program (classes tokens) → first_number_out_of_range tokens ≡ Some place → IsRefusedTree tokens (At X3 place)
ranged_refused law spelled tokens place few d e =
    let s = spelled tokens d in
    let tree = s.1.tree in
    let by_tree_is : number_out_of_range tree ≡ Some place = sym (law tree s.1.tree_of) ∙ ap first_number_out_of_range s.1.tokens ∙ e in
    record {
      tree = tree;
      tree_of = record { tree_of = s.1.tree_of; yields = s.1.tokens };
      refused = ranged_first tokens (found_in tree) place few refl by_tree_is;
    }

pub judged_refused : NumbersByTree → Measured → (tokens : List Token) (params : List Binder) (body : ExprTree) (misnamed : Option (Code × Place)) (r : IsRead tokens params body misnamed) (found : Findings) → FoundBy tokens body misnamed found → (refusal : Refusal) → first_refusal tokens found ≡ Some refusal → IsRefusedTree tokens refusal
judged_refused law limits tokens params body misnamed r found f refusal e = record {
  tree = r.tree;
  tree_of = record { tree_of = r.tree_of; yields = r.tokens };
  refused = ap (first_refusal tokens) (sym (found_is law limits tokens params body misnamed r found f)) ∙ e;
}

pub judged_accepted : NumbersByTree → Measured → (tokens : List Token) (params : List Binder) (body : ExprTree) (misnamed : Option (Code × Place)) (r : IsRead tokens params body misnamed) (found : Findings) → FoundBy tokens body misnamed found → first_refusal tokens found ≡ None
    → IsAccepted tokens (record { params = params; body = body })
judged_accepted law limits tokens params body misnamed r found f e = record {
  tree = r.tree;
  tree_of = record { tree_of = r.tree_of; yields = r.tokens };
  unrefused = ap (first_refusal tokens) (sym (found_is law limits tokens params body misnamed r found f)) ∙ e;
  spelled = r.program;
}

-- the law of spelled programs
abbrev pub SpellPrograms : Type 0
SpellPrograms = (tree : Tree Token) → IsOf (item (OfRule Program)) (seen tree) → number_out_of_range tree ≡ None → first_misnamed tree ≡ None → length (yield tree) ≤ 16384 → IsProgram (program_of tree).params (program_of tree).body

pub judged_program : NumbersByTree → Measured → SpellPrograms → (tokens : List Token) (params : List Binder) (body : ExprTree) (misnamed : Option (Code × Place)) (r : IsRead tokens params body misnamed) (found : Findings) → FoundBy tokens body misnamed found → first_refusal tokens found ≡ None
    → IsProgram params body
judged_program numbers limits law tokens params body misnamed r found f e =
    let c = clean tokens found e in
    let same = found_is numbers limits tokens params body misnamed r found f in
    let ranged : number_out_of_range r.tree ≡ None = ap (λ (g : Findings). g.out_of_range) (sym same) ∙ c.ranged in
    let well_named : first_misnamed r.tree ≡ None = ap (λ (g : Findings). g.misnamed) (sym same) ∙ c.well_named in
    let Few : List Token → Type 0 = λ ts. length ts ≤ 16384 in
    let P : ProgramTree → Type 0 = λ p. IsProgram p.params p.body in
    subst P r.program (law r.tree r.tree_of ranged well_named (subst Few (sym r.tokens) (few_tokens tokens c.few)))

-- ---- results

pub stops_at : (stop : Stop) (n : ℕ) (xs : List Class) → stop ≡ Break n → StopsAt Program xs stop → BreaksAt Program xs n
stops_at stop n xs e h = subst (StopsAt Program xs) e h

if_ok : {T E : Type 0} (o : Result T E) (P Q : T → Type 0) → ((x : T) → P x → Q x) → IfOk o P → IfOk o Q
if_ok (Ok x) P Q f h = f x h
if_ok (Err e) P Q f h = h

if_err : {T E : Type 0} (o : Result T E) (P Q : E → Type 0) → ((x : E) → P x → Q x) → IfErr o P → IfErr o Q
if_err (Ok x) P Q f h = h
if_err (Err e) P Q f h = f e h

pub ok_program : (o : Result ProgramTree Refusal) (text : List ℕ) (tokens : List Token) → has_too_many_bytes text ≡ false → AreTokens text tokens → IfOk o (λ p. IsAccepted tokens p) → IfOk o (λ p. Parses text p)
ok_program o text tokens fits of h = if_ok o (λ p. IsAccepted tokens p) (λ p. Parses text p) (λ p a. accepted text tokens p fits of a) h

pub err_judged : (o : Result ProgramTree Refusal) (text : List ℕ) (tokens : List Token) → has_too_many_bytes text ≡ false → AreTokens text tokens
    → IfErr o (λ r. IsRefusedTree tokens r) → IfErr o (λ r. (r ≡ Memory → ⊥) → IsRefused text r)
err_judged o text tokens fits of h = if_err o (λ r. IsRefusedTree tokens r) (λ r. (r ≡ Memory → ⊥) → IsRefused text r) (λ r a n. by_tree text tokens r fits of a) h

pub unread_broken : (why : Unread) (n : ℕ) (tokens : List Token) → why ≡ Broken n → WhyUnread tokens why → BreaksAt Program (classes tokens) n
unread_broken why n tokens e h = subst (WhyUnread tokens) e h

pub unread_range : (why : Unread) (place : Place) (tokens : List Token) → why ≡ OutOfRange place → WhyUnread tokens why → Derives Program (classes tokens) × (first_number_out_of_range tokens ≡ Some place)
unread_range why place tokens e h = subst (WhyUnread tokens) e h

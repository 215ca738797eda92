-- The printed text of a program reads as it, up to places and numbers.
use Rattle.std.proofs.Common.{◌≡◌, ◌≢◌, ℕ, suc, ◌+◌, ◌<◌, ◌^◌, Option, Some, None, IsSome, All, List, [], ◌∷◌, ◌++◌, map, length, refl, sym, ap, subst, ◌∙◌, append_assoc, append-nil, arith, inl, inr, ◌⊎◌, codes}
use Rattle.std.proofs.lemmas.Bool.{cases_eq, false≢true}
use Rattle.std.proofs.lemmas.List.{length-append}
use Rattle.std.specs.List.{AllByRecursion}
use Rattle.weld_tree.specs.declared.place.Place.{Place}
use Rattle.weld_tree.specs.declared.binder.Binder.{Binder}
use Rattle.weld_tree.specs.TypeTree.{TypeTree}
use Rattle.weld_tree.specs.ExprTree.{ExprTree}
use Rattle.weld_tree.specs.Program.{ProgramTree, IsProgram, IsOneOf, AreDistinct, IsScoped, bound, syms_of}
use Rattle.weld_tree.specs.Blank.{AreSame, bare, blank_binder, distance}
use Rattle.weld_grammar.specs.declared.terminals.class.Class.TheVariants as classes
use Rattle.weld_grammar.specs.declared.terminals.symbol.Symbol.TheVariants.{Comma, Colon, Bar}
use Rattle.weld_grammar.specs.declared.terminals.token.Token.{Token}
use Rattle.weld_tokens.specs.Tokens.{start, next_place}
use Rattle.weld_grammar.specs.declared.rule.Rule.TheVariants as r
use Rattle.weld_grammar.specs.declared.item.Item.TheVariants.{Part as OfRule, Repeated}
use Rattle.weld_grammar.specs.Grammar.{item}
use Rattle.weld_grammar.specs.Derivation.{Tree, leaf, node, empty, pair, here, there, yield, IsOf}
use Rattle.weld_spell.specs.TypeOf.{type_of}
use Rattle.weld_spell.specs.Seen.{seen}
use Rattle.weld_spell.specs.ProgramOf.{Bound, number_in, expr_of, next_params_of, params_scope, params_behind, program_of}
use Rattle.weld_print.specs.TypeText.{type_text}
use Rattle.weld_print.specs.PrintText.{name_text, binder_text, note_text, binders_text, program_text, expr_text}
use Rattle.std.specs.Prelude.{bytes_eq, ◌||◌, true, false}
use Rattle.weld_spell.specs.Names.{none as no_binding, bears, with_params as with_names}
use Rattle.weld_print.proofs.Checked.{Checked, checked}
use Rattle.weld_print.proofs.Sound.{Sound, words, type_sound}
use Rattle.weld_print.specs.Spellable.{HasNoEmptyStruct, NoteIsSpellable, IsSpellableProgram}
use Rattle.weld_print.specs.Texts.{TextSpellsSoundly}
use Rattle.weld_print.proofs.Lexemes.{Stops, name_lexeme}
use Rattle.weld_print.proofs.Symbols.{comma, colon, bar}
use Rattle.weld_print.proofs.Reading.{Run, none, token, OneToken, one_token, one_spaced, join, tokens_spaced}
use Rattle.weld_print.proofs.ReadsBackTypes.{type_reads}
use Rattle.weld_print.proofs.Scenes.{Scene, Agrees, borne_here, borne_there, names_apart, number_here, number_there, distance_here, distance_there}
use Rattle.weld_print.proofs.Forms.{Reads, expr_spaced}
use Rattle.weld_print.proofs.Binding.{AreSmall, small_left, small_right, AreApart}
use Rattle.weld_print.proofs.Exprs.{reads}

-- ---- parameters in scope: unlike other names, the first stands first

distance_more : (xs ys : List ℕ) (s : ℕ) → distance xs s < length xs → distance (xs ++ ys) s ≡ distance xs s
distance_more [] ys s h = absurd (omega arith)
distance_more (x ∷ xs) ys s h = by_first (distance_more xs ys s) (cases_eq x s)
  where
    by_first : (distance xs s < length xs → distance (xs ++ ys) s ≡ distance xs s) → (x ≡ s) ⊎ (x ≢ s) → distance (x ∷ (xs ++ ys)) s ≡ distance (x ∷ xs) s
    by_first further (inl e) = distance_here x s (xs ++ ys) e ∙ sym (distance_here x s xs e)
    by_first further (inr ne) =
        let e : distance (x ∷ xs) s ≡ suc (distance xs s) = distance_there x s xs ne in
        distance_there x s (xs ++ ys) ne ∙ ap (λ (k : ℕ). suc k) (further (omega arith)) ∙ sym e

distance_last : (xs : List ℕ) (s : ℕ) → (IsOneOf xs s → ⊥) → distance (xs ++ (s ∷ [])) s ≡ length xs
distance_last [] s away = distance_here s s [] refl
distance_last (x ∷ xs) s away =
    let ne : x ≢ s = λ e. away (inl (sym e)) in
    distance_there x s (xs ++ (s ∷ [])) ne ∙ ap (λ (k : ℕ). suc k) (distance_last xs s (λ i. away (inr i)))

one_of_more : (xs : List ℕ) (t u : ℕ) → IsOneOf (xs ++ (t ∷ [])) u → IsOneOf xs u ⊎ (u ≡ t)
one_of_more [] t u (inl e) = inr e
one_of_more [] t u (inr i) = absurd i
one_of_more (x ∷ xs) t u (inl e) = inl (inl e)
one_of_more (x ∷ xs) t u (inr i) = by_rest (one_of_more xs t u i)
  where
    by_rest : IsOneOf xs u ⊎ (u ≡ t) → IsOneOf (x ∷ xs) u ⊎ (u ≡ t)
    by_rest (inl j) = inl (inr j)
    by_rest (inr e) = inr e

-- what holds behind some parameters
record Behind (names : List ℕ) (s : Scene) (n : ℕ) : Type 0 where
  agrees : Agrees names s n
  lengths : length s.scope ≡ length s.numbers
  near : (u : ℕ) → IsOneOf s.scope u → distance s.scope u < length s.scope
  fewer : (m : ℕ) → IsOneOf s.numbers m → m < n

-- one parameter more
abbrev add : List ℕ → Scene → ℕ → ℕ → Scene
add names s t n = record { scope = s.scope ++ (t ∷ []); numbers = s.numbers ++ (n ∷ []); bounds = (record { bytes = name_text names t; number = n }) ∷ s.bounds }

-- a name in scope, or the last parameter
record Found (names : List ℕ) (s : Scene) (t n u : ℕ) : Type 0 where
  found : distance (s.numbers ++ (n ∷ [])) (number_in ((record { bytes = name_text names t; number = n }) ∷ s.bounds) (name_text names u)) ≡ distance (s.scope ++ (t ∷ [])) u
  below : number_in ((record { bytes = name_text names t; number = n }) ∷ s.bounds) (name_text names u) < n + 1
  small : distance names u < 2 ^ 64
  borne : (bytes_eq (name_text names t) (name_text names u) || bears (words s.bounds) (name_text names u)) ≡ true
  near : distance (s.scope ++ (t ∷ [])) u < length s.scope + 1

found_last : (names : List ℕ) (s : Scene) (t n u : ℕ) → distance names t < 2 ^ 64 → (IsOneOf s.scope t → ⊥) → Behind names s n → u ≡ t → Found names s t n u
found_last names s t n u small fresh b e =
    let bound : Bound = record { bytes = name_text names t; number = n } in
    let m : number_in (bound ∷ s.bounds) (name_text names u) ≡ n = number_here bound s.bounds (name_text names u) (ap (name_text names) (sym e)) in
    let away : IsOneOf s.numbers n → ⊥ = λ i. let h = b.fewer n i in omega arith in
    let last : distance (s.numbers ++ (n ∷ [])) n ≡ length s.numbers = distance_last s.numbers n away in
    let own : distance (s.scope ++ (t ∷ [])) t ≡ length s.scope = distance_last s.scope t fresh in
    let mine : distance (s.scope ++ (t ∷ [])) u ≡ length s.scope = ap (distance (s.scope ++ (t ∷ []))) e ∙ own in
    record {
      found = ap (distance (s.numbers ++ (n ∷ []))) m ∙ last ∙ sym b.lengths ∙ sym mine;
      below = omega (arith, m);
      small = subst (λ (k : ℕ). distance names k < 2 ^ 64) (sym e) small;
      borne = borne_here (name_text names t) (name_text names u) (words s.bounds) (ap (name_text names) (sym e));
      near = omega (arith, mine);
    }

found_before : (names : List ℕ) (s : Scene) (t n u : ℕ) → AreApart names → distance names t < 2 ^ 64 → (IsOneOf s.scope t → ⊥) → Behind names s n → IsOneOf s.scope u → Found names s t n u
found_before names s t n u apart small fresh b i =
    let bound : Bound = record { bytes = name_text names t; number = n } in
    let ne : t ≢ u = λ e. fresh (subst (λ (k : ℕ). IsOneOf s.scope k) (sym e) i) in
    let m : number_in (bound ∷ s.bounds) (name_text names u) ≡ number_in s.bounds (name_text names u) = number_there bound s.bounds (name_text names u) (λ e. ne (names_apart names t u apart small (b.agrees.small u i) e)) in
    let less : number_in s.bounds (name_text names u) < n = b.agrees.below u i in
    let at : distance s.numbers (number_in s.bounds (name_text names u)) ≡ distance s.scope u = b.agrees.found u i in
    let near : distance s.scope u < length s.scope = b.near u i in
    let wide : distance s.numbers (number_in s.bounds (name_text names u)) < length s.numbers = omega (arith, at, near, b.lengths) in
    let kept : distance (s.scope ++ (t ∷ [])) u ≡ distance s.scope u = distance_more s.scope (t ∷ []) u near in
    record {
      found = ap (distance (s.numbers ++ (n ∷ []))) m ∙ distance_more s.numbers (n ∷ []) (number_in s.bounds (name_text names u)) wide ∙ at ∙ sym kept;
      below = omega (arith, m, less);
      small = b.agrees.small u i;
      borne = borne_there (name_text names t) (name_text names u) (words s.bounds) (b.agrees.borne u i);
      near = omega (arith, kept, near);
    }

add_behind : (names : List ℕ) (s : Scene) (t n : ℕ) → AreApart names → distance names t < 2 ^ 64 → (IsOneOf s.scope t → ⊥) → Behind names s n → Behind names (add names s t n) (n + 1)
add_behind names s t n apart small fresh b = record {
  agrees = record { found = λ u i. (all u i).found; below = λ u i. (all u i).below; small = λ u i. (all u i).small; borne = λ u i. (all u i).borne };
  lengths = length-append s.scope (t ∷ []) ∙ ap (λ (k : ℕ). k + 1) b.lengths ∙ sym (length-append s.numbers (n ∷ []));
  near = λ u i. let f = all u i in let h = f.near in let size : length (s.scope ++ (t ∷ [])) ≡ length s.scope + 1 = length-append s.scope (t ∷ []) in omega (arith, size, h);
  fewer = λ m i. by_number m (one_of_more s.numbers n m i);
}
  where
    by_name : (u : ℕ) → IsOneOf s.scope u ⊎ (u ≡ t) → Found names s t n u
    by_name u (inl i) = found_before names s t n u apart small fresh b i
    by_name u (inr e) = found_last names s t n u small fresh b e

    all : (u : ℕ) → IsOneOf (s.scope ++ (t ∷ [])) u → Found names s t n u
    all u i = by_name u (one_of_more s.scope t u i)

    by_number : (m : ℕ) → IsOneOf s.numbers m ⊎ (m ≡ n) → m < n + 1
    by_number m (inl i) = let h = b.fewer m i in omega arith
    by_number m (inr e) = omega arith

-- ---- parameters

-- each parameter has its type, with no empty struct
abbrev AreReady : List Binder → Type 0
AreReady [] = Unit {0}
AreReady (b ∷ bs) = IsSome b.note × NoteIsSpellable b.note × AreReady bs

-- each is new
abbrev AreFresh : List ℕ → List ℕ → Type 0
AreFresh scope [] = Unit {0}
AreFresh scope (t ∷ ts) = (IsOneOf scope t → ⊥) × AreFresh (scope ++ (t ∷ [])) ts

noted : (o : Option TypeTree) → IsSome o → NoteIsSpellable o → (t : TypeTree) × (o ≡ Some t) × HasNoEmptyStruct t
noted None some h = absurd (false≢true some)
noted (Some t) some h = (t, refl, h)

record ParamRead (names : List ℕ) (b : Binder) (place : Place) (text rest : List ℕ) : Type 0 where
  at : Place
  colon : Place
  to : Place
  tree : Tree Token
  is_of : IsOf (item (OfRule r.AnyType)) (seen tree)
  value : Some (type_of tree) ≡ b.note
  begins : Run place text (token (name_text names b.sym.0) classes.Name at ∷ token (58 ∷ []) (classes.Symbol Colon) colon ∷ yield tree) to rest

param_by : (names : List ℕ) (b : Binder) (t : TypeTree) → b.note ≡ Some t → HasNoEmptyStruct t → (place : Place) (text rest : List ℕ) → Stops rest → OneToken place (name_text names b.sym.0) classes.Name text (58 ∷ 32 ∷ (type_text t ++ rest)) → ParamRead names b place text rest
param_by names b t e h place text rest st k =
    let behind = type_text t ++ rest in
    let c = one_token k.here (colon (32 ∷ behind)) in
    let x = type_reads t h (next_place c.here 32) rest st in
    let y = tokens_spaced c.here behind (yield x.tree) x.here rest x.some x.begins in
    record {
      at = k.at;
      colon = c.at;
      to = x.here;
      tree = x.tree;
      is_of = x.is_of;
      value = ap (λ (u : TypeTree). Some u) x.value ∙ sym e;
      begins = join place text _ _ k.here (58 ∷ 32 ∷ behind) x.here rest k.begins (join k.here (58 ∷ 32 ∷ behind) _ (yield x.tree) c.here (32 ∷ behind) x.here rest c.begins y);
    }

note_is : (o : Option TypeTree) (t : TypeTree) → o ≡ Some t → note_text o ≡ 58 ∷ 32 ∷ type_text t
note_is o t e = ap note_text e

param_text : (names : List ℕ) (b : Binder) (t : TypeTree) (rest : List ℕ) → b.note ≡ Some t → binder_text names b ++ rest ≡ name_text names b.sym.0 ++ (58 ∷ 32 ∷ (type_text t ++ rest))
param_text names b t rest e = append_assoc (name_text names b.sym.0) (note_text b.note) rest ∙ ap (λ (x : List ℕ). name_text names b.sym.0 ++ (x ++ rest)) (note_is b.note t e)

param_read : (names : List ℕ) (b : Binder) → IsSome b.note → NoteIsSpellable b.note → distance names b.sym.0 < 2 ^ 64 → (place : Place) (rest : List ℕ) → Stops rest → ParamRead names b place (binder_text names b ++ rest) rest
param_read names b some h small place rest st =
    let n = noted b.note some h in
    subst (λ (x : List ℕ). ParamRead names b place x rest) (sym (param_text names b n.0 rest n.1))
    (param_by names b n.0 n.1 n.2 place _ rest st (one_token place (name_lexeme (distance names b.sym.0) (58 ∷ 32 ∷ (type_text n.0 ++ rest)) small refl)))

param_spaced : (names : List ℕ) (b : Binder) → IsSome b.note → NoteIsSpellable b.note → distance names b.sym.0 < 2 ^ 64 → (place : Place) (rest : List ℕ) → Stops rest → ParamRead names b place (32 ∷ (binder_text names b ++ rest)) rest
param_spaced names b some h small place rest st =
    let n = noted b.note some h in
    subst (λ (x : List ℕ). ParamRead names b place (32 ∷ x) rest) (sym (param_text names b n.0 rest n.1))
    (param_by names b n.0 n.1 n.2 place _ rest st (one_spaced place (name_lexeme (distance names b.sym.0) (58 ∷ 32 ∷ (type_text n.0 ++ rest)) small refl)))

same_param : (b : Binder) (o : Option TypeTree) (n : ℕ) (p q : Place) → o ≡ b.note → blank_binder (record { sym = record { 0 = n }; place = p; note = o; note_place = q }) ≡ blank_binder b
same_param b o n p q e = ap (λ (x : Option TypeTree). record { sym = record { 0 = 0 }; place = record { line = 0; column = 0 }; note = x; note_place = record { line = 0; column = 0 } }) e

record ParamsRead (names : List ℕ) (bs : List Binder) (s : Scene) (n : ℕ) (place : Place) (text rest : List ℕ) : Type 0 where
  tree : Tree Token
  to : Place
  is_of : (zs : List (List ℕ)) → Sound false no_binding (item (Repeated r.NextParam)) tree zs
  begins : Run place text (yield tree) to rest
  last : Scene
  next : ℕ
  behind : Behind names last next
  bounds : params_scope tree s.bounds n ≡ last.bounds
  words_are : with_names tree (words s.bounds) ≡ words last.bounds
  count : params_behind tree n ≡ next
  scope : last.scope ≡ s.scope ++ syms_of bs
  numbers : last.numbers ≡ s.numbers ++ syms_of (next_params_of tree n)
  same : map blank_binder (next_params_of tree n) ≡ map blank_binder bs

param_tokens : (c w k : Token) (ts us : List Token) → (c ∷ w ∷ k ∷ ts) ++ us ≡ (c ∷ ((w ∷ k ∷ (ts ++ [])) ++ [])) ++ us
param_tokens c w k ts us = ap (λ (x : List Token). (c ∷ w ∷ k ∷ x) ++ us) (sym (append-nil ts)) ∙ ap (λ (x : List Token). (c ∷ w ∷ k ∷ x) ++ us) (sym (append-nil (ts ++ [])))

params_stop : (names : List ℕ) (bs : List Binder) (rest : List ℕ) → Stops rest → Stops (binders_text names (44 ∷ 32 ∷ []) bs ++ rest)
params_stop names [] rest st = st
params_stop names (b ∷ bs) rest st = refl

params_text_is : (names : List ℕ) (lead : List ℕ) (b : Binder) (bs : List Binder) (rest : List ℕ) → binders_text names lead (b ∷ bs) ++ rest ≡ lead ++ (binder_text names b ++ (binders_text names (44 ∷ 32 ∷ []) bs ++ rest))
params_text_is names lead b bs rest =
    append_assoc (lead ++ binder_text names b) (binders_text names (44 ∷ 32 ∷ []) bs) rest ∙ append_assoc lead (binder_text names b) (binders_text names (44 ∷ 32 ∷ []) bs ++ rest)

params_read : (names : List ℕ) → AreApart names → (bs : List Binder) → AreReady bs → AreSmall names (syms_of bs) → (s : Scene) (n : ℕ) → AreFresh s.scope (syms_of bs) → Behind names s n → (place : Place) (rest : List ℕ) → Stops rest
    → ParamsRead names bs s n place (binders_text names (44 ∷ 32 ∷ []) bs ++ rest) rest
params_read names apart [] h k s n f b0 place rest st = record {
  tree = empty;
  to = place;
  is_of = λ zs. tt;
  words_are = refl;
  begins = none;
  last = s;
  next = n;
  behind = b0;
  bounds = refl;
  count = refl;
  scope = sym (append-nil s.scope);
  numbers = sym (append-nil s.numbers);
  same = refl;
}
params_read names apart (b ∷ bs) h k s n f b0 place rest st =
    let further = binders_text names (44 ∷ 32 ∷ []) bs ++ rest in
    let text = 44 ∷ 32 ∷ (binder_text names b ++ further) in
    let c = one_token place (comma (32 ∷ (binder_text names b ++ further))) in
    let x = param_spaced names b h.0 h.1 k.0 c.here further (params_stop names bs rest st) in
    let s1 = add names s b.sym.0 n in
    let y = params_read names apart bs h.2 k.1 s1 (n + 1) f.1 (add_behind names s b.sym.0 n apart k.0 f.0 b0) x.to rest st in
    let all = join place text _ _ c.here _ y.to rest c.begins (join c.here _ _ (yield y.tree) x.to further y.to rest x.begins y.begins) in
    let tokens = param_tokens (token (44 ∷ []) (classes.Symbol Comma) c.at) (token (name_text names b.sym.0) classes.Name x.at) (token (58 ∷ []) (classes.Symbol Colon) x.colon) (yield x.tree) (yield y.tree) in
    let run : Run place text (yield (pair (node (pair (leaf (token (44 ∷ []) (classes.Symbol Comma) c.at)) (pair (node (pair (leaf (token (name_text names b.sym.0) classes.Name x.at)) (pair (leaf (token (58 ∷ []) (classes.Symbol Colon) x.colon)) (pair (x.tree) empty)))) empty))) y.tree)) y.to rest = subst (λ (ts : List Token). Run place text ts y.to rest) tokens all in
    record {
      tree = pair (node (pair (leaf (token (44 ∷ []) (classes.Symbol Comma) c.at)) (pair (node (pair (leaf (token (name_text names b.sym.0) classes.Name x.at)) (pair (leaf (token (58 ∷ []) (classes.Symbol Colon) x.colon)) (pair (x.tree) empty)))) empty))) y.tree;
      to = y.to;
      is_of = λ zs. ((refl, ((refl, (refl, (type_sound x.tree zs x.is_of, tt))), tt)), y.is_of zs);
      words_are = y.words_are;
      begins = subst (λ (z : List ℕ). Run place z (yield (pair (node (pair (leaf (token (44 ∷ []) (classes.Symbol Comma) c.at)) (pair (node (pair (leaf (token (name_text names b.sym.0) classes.Name x.at)) (pair (leaf (token (58 ∷ []) (classes.Symbol Colon) x.colon)) (pair (x.tree) empty)))) empty))) y.tree)) y.to rest) (sym (params_text_is names (44 ∷ 32 ∷ []) b bs rest)) run;
      last = y.last;
      next = y.next;
      behind = y.behind;
      bounds = y.bounds;
      count = y.count;
      scope = y.scope ∙ append_assoc s.scope (b.sym.0 ∷ []) (syms_of bs);
      numbers = y.numbers ∙ append_assoc s.numbers (n ∷ []) (syms_of (next_params_of y.tree (n + 1)));
      same = (λ i. same_param b (Some (type_of x.tree)) n x.at x.at x.value i ∷ y.same i);
    }

-- ---- programs

pub record PrintedReads (p : ProgramTree) : Type 0 where
  pub program : ProgramTree
  pub spells : TextSpellsSoundly (program_text p) program
  pub same : AreSame p program

no_names : (names : List ℕ) → Agrees names (record { scope = []; numbers = []; bounds = [] }) 0
no_names names = record { found = λ u i. absurd i; below = λ u i. absurd i; small = λ u i. absurd i; borne = λ u i. absurd i }

-- a program without parameters
without_params : (body : ExprTree) → Reads (bound body) body → IsScoped body [] → PrintedReads (record { params = []; body = body })
without_params body x i =
    let t = x.expr (record { scope = []; numbers = []; bounds = [] }) 0 (no_names (bound body)) i start [] tt in
    let run : Run start (expr_text (bound body) body) (yield t.tree) t.here [] = subst (λ (z : List ℕ). Run start z (yield t.tree) t.here []) (append-nil (expr_text (bound body) body)) t.begins in
    let tree = node (there (there (here t.tree))) in
    let k : Checked false no_binding (item (OfRule r.Program)) tree [] = checked false (item (OfRule r.Program)) tree [] ((t.is_of, t.opens.bar), t.opens.bars) in
    record {
      program = record { params = []; body = (expr_of t.tree [] 0).expr };
      spells = record {
        tokens = yield t.tree;
        are_tokens = record { here = t.here; rest = []; begins = run.is; over = refl };
        spells = record { tree = tree; tree_of = k.of; tokens = refl; is = refl };
        named = k.named;
        ranged = k.ranged;
      };
      same = (λ j. record { params = []; body = sym t.same j });
    }

program_tokens : (a w k : Token) (ts ys : List Token) (d : Token) (es : List Token) → (a ∷ []) ++ ((w ∷ k ∷ ts) ++ (ys ++ ((d ∷ []) ++ es))) ≡ a ∷ ((w ∷ k ∷ (ts ++ [])) ++ (ys ++ (d ∷ (es ++ []))))
program_tokens a w k ts ys d es = (λ j. a ∷ ((w ∷ k ∷ sym (append-nil ts) j) ++ (ys ++ (d ∷ sym (append-nil es) j))))

-- a program with parameters
with_params : (b : Binder) (bs : List Binder) (body : ExprTree) → AreApart (syms_of (b ∷ bs) ++ bound body) → AreReady (b ∷ bs) → AreSmall (syms_of (b ∷ bs) ++ bound body) (syms_of (b ∷ bs)) → AreFresh (b.sym.0 ∷ []) (syms_of bs)
    → Reads (syms_of (b ∷ bs) ++ bound body) body → IsScoped body (syms_of (b ∷ bs)) → PrintedReads (record { params = b ∷ bs; body = body })
with_params b bs body apart h k f rd i =
    let names = syms_of (b ∷ bs) ++ bound body in
    let body_text = expr_text names body ++ [] in
    let bars = 124 ∷ 32 ∷ body_text in
    let further = binders_text names (44 ∷ 32 ∷ []) bs ++ bars in
    let text = 124 ∷ (binder_text names b ++ further) in
    let s0 : Scene = record { scope = []; numbers = []; bounds = [] } in
    let b0 : Behind names s0 0 = record { agrees = no_names names; lengths = refl; near = λ u j. absurd j; fewer = λ m j. absurd j } in
    let s1 : Scene = record { scope = b.sym.0 ∷ []; numbers = 0 ∷ []; bounds = (record { bytes = name_text names b.sym.0; number = 0 }) ∷ [] } in
    let b1 : Behind names s1 1 = add_behind names s0 b.sym.0 0 apart k.0 (λ j. j) b0 in
    let c = one_token start (bar (binder_text names b ++ further) refl) in
    let x = param_read names b h.0 h.1 k.0 c.here further (params_stop names bs bars refl) in
    let y = params_read names apart bs h.2 k.1 s1 1 f b1 x.to bars refl in
    let d = one_token y.to (bar (32 ∷ body_text) refl) in
    let scoped : IsScoped body y.last.scope = subst (λ (z : List ℕ). IsScoped body z) (sym y.scope) i in
    let t = expr_spaced (rd.expr y.last y.next y.behind.agrees scoped (next_place d.here 32) [] tt) in
    let all = join start text _ _ c.here _ t.here [] c.begins (join c.here _ _ _ x.to further t.here [] x.begins (join x.to further (yield y.tree) _ y.to bars t.here [] y.begins (join y.to bars _ (yield t.tree) d.here (32 ∷ body_text) t.here [] d.begins t.begins))) in
    let tokens = program_tokens (token (124 ∷ []) (classes.Symbol Bar) c.at) (token (name_text names b.sym.0) classes.Name x.at) (token (58 ∷ []) (classes.Symbol Colon) x.colon) (yield x.tree) (yield y.tree) (token (124 ∷ []) (classes.Symbol Bar) d.at) (yield t.tree) in
    let tree = node (there (here (node (pair (leaf (token (124 ∷ []) (classes.Symbol Bar) c.at)) (pair (node (pair (leaf (token (name_text names b.sym.0) classes.Name x.at)) (pair (leaf (token (58 ∷ []) (classes.Symbol Colon) x.colon)) (pair (x.tree) empty)))) (pair (y.tree) (pair (leaf (token (124 ∷ []) (classes.Symbol Bar) d.at)) (pair (t.tree) empty)))))))) in
    let moved : Run start text (yield tree) t.here [] = subst (λ (ts : List Token). Run start text ts t.here []) tokens all in
    let e1 : program_text (record { params = b ∷ bs; body = body }) ≡ text =
    append_assoc (binders_text names (codes "|") (b ∷ bs)) (codes "| ") (expr_text names body) ∙ params_text_is names (124 ∷ []) b bs (124 ∷ 32 ∷ expr_text names body) ∙ ap (λ (z : List ℕ). 124 ∷ (binder_text names b ++ (binders_text names (44 ∷ 32 ∷ []) bs ++ (124 ∷ 32 ∷ z)))) (sym (append-nil (expr_text names body))) in
    let run : Run start (program_text (record { params = b ∷ bs; body = body })) (yield tree) t.here [] = subst (λ (z : List ℕ). Run start z (yield tree) t.here []) (sym e1) moved in
    let body_same : bare body (syms_of (b ∷ bs)) ≡ bare (expr_of t.tree (params_scope y.tree s1.bounds 1) (params_behind y.tree 1)).expr (0 ∷ syms_of (next_params_of y.tree 1)) =
    ap (bare body) (sym y.scope) ∙ sym t.same ∙ (λ j. bare (expr_of t.tree (sym y.bounds j) (sym y.count j)).expr (y.numbers j)) in
    let inner : Sound false no_binding (item (OfRule r.Expr)) t.tree (with_names y.tree (name_text names b.sym.0 ∷ [])) = subst (λ (zs : List (List ℕ)). Sound false no_binding (item (OfRule r.Expr)) t.tree zs) (sym y.words_are) t.is_of in
    let k : Checked false no_binding (item (OfRule r.Program)) tree [] = checked false (item (OfRule r.Program)) tree [] ((refl, ((refl, (refl, (type_sound x.tree [] x.is_of, tt))), (y.is_of [], (refl, (inner, tt))))), refl) in
    record {
      program = program_of tree;
      spells = record {
        tokens = yield tree;
        are_tokens = record { here = t.here; rest = []; begins = run.is; over = refl };
        spells = record { tree = tree; tree_of = k.of; tokens = refl; is = refl };
        named = k.named;
        ranged = k.ranged;
      };
      same = (λ j. record { params = sym (same_param b (Some (type_of x.tree)) 0 x.at x.at x.value) j ∷ sym y.same j; body = body_same j });
    }

-- ---- what every program keeps

all_small : (names xs : List ℕ) → ((u : ℕ) → IsOneOf xs u → distance names u < 2 ^ 64) → AreSmall names xs
all_small names [] h = tt
all_small names (x ∷ xs) h = (h x (inl refl), all_small names xs (λ u i. h u (inr i)))

all_ready : (bs : List Binder) → All (λ b. IsSome b.note) bs → AllByRecursion (λ b. NoteIsSpellable b.note) bs → AreReady bs
all_ready [] h k = tt
all_ready (b ∷ bs) h k = (h 0 b (omega arith), k.0, all_ready bs (λ j d l. h (suc j) d (omega arith)) k.1)

one_of_left : (xs ys : List ℕ) (u : ℕ) → IsOneOf xs u → IsOneOf (xs ++ ys) u
one_of_left [] ys u i = absurd i
one_of_left (x ∷ xs) ys u (inl e) = inl e
one_of_left (x ∷ xs) ys u (inr i) = inr (one_of_left xs ys u i)

all_fresh : (scope ts rest : List ℕ) → AreDistinct (ts ++ rest) → ((u : ℕ) → IsOneOf scope u → IsOneOf ts u → ⊥) → AreFresh scope ts
all_fresh scope [] rest d h = tt
all_fresh scope (t ∷ ts) rest d h =
    ((λ i. h t i (inl refl)), all_fresh (scope ++ (t ∷ [])) ts rest d.1 (λ u i j. apart u j (one_of_more scope t u i)))
  where
    apart : (u : ℕ) → IsOneOf ts u → IsOneOf scope u ⊎ (u ≡ t) → ⊥
    apart u j (inl i) = h u i (inr j)
    apart u j (inr e) = d.0 (one_of_left ts rest t (subst (λ (k : ℕ). IsOneOf ts k) e j))

-- the law of distances
abbrev pub AreAllApart : Type 0
AreAllApart = (scope : List ℕ) (s t : ℕ) → distance scope s ≡ distance scope t → s ≡ t

abbrev pub BoundAreNear : Type 0
BoundAreNear = (scope : List ℕ) (s : ℕ) → IsOneOf scope s → distance scope s < length scope

program_reads : AreAllApart → BoundAreNear → (params : List Binder) (body : ExprTree) → IsProgram params body → IsSpellableProgram (record { params = params; body = body }) → PrintedReads (record { params = params; body = body })
program_reads apart near [] body h k =
    let names = bound body in
    let few : length (bound body) < 4294967295 = h.few in
    let small = all_small names names (λ u i. let n : distance (bound body) u < length (bound body) = near (bound body) u i in omega arith) in
    without_params body (reads names (apart names) body h.well_made k.body small) h.scoped
program_reads apart near (b ∷ bs) body h k =
    let names = syms_of (b ∷ bs) ++ bound body in
    let few : length (syms_of (b ∷ bs) ++ bound body) < 4294967295 = h.few in
    let small = all_small names names (λ u i. let n : distance (syms_of (b ∷ bs) ++ bound body) u < length (syms_of (b ∷ bs) ++ bound body) = near (syms_of (b ∷ bs) ++ bound body) u i in omega arith) in
    let fresh = all_fresh (b.sym.0 ∷ []) (syms_of bs) (bound body) h.distinct.1 (λ u i j. h.distinct.0 (by_first u i j)) in
    with_params b bs body (apart names) (all_ready (b ∷ bs) h.noted k.params) (small_left names (syms_of (b ∷ bs)) (bound body) small) fresh
    (reads names (apart names) body h.well_made k.body (small_right names (syms_of (b ∷ bs)) (bound body) small)) h.scoped
  where
    by_first : (u : ℕ) → IsOneOf (b.sym.0 ∷ []) u → IsOneOf (syms_of bs) u → IsOneOf (syms_of bs ++ bound body) b.sym.0
    by_first u (inl e) j = one_of_left (syms_of bs) (bound body) b.sym.0 (subst (λ (k : ℕ). IsOneOf (syms_of bs) k) e j)
    by_first u (inr i) j = absurd i

pub program_reads_back : AreAllApart → BoundAreNear → (p : ProgramTree) → IsProgram p.params p.body → IsSpellableProgram p → (q : ProgramTree) × TextSpellsSoundly (program_text p) q × AreSame p q
program_reads_back apart near p h k = let x = program_reads apart near p.params p.body h k in (x.program, x.spells, x.same)

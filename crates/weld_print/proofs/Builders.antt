-- Builders and the other forms without parts, read from their printed text.
use Rattle.std.proofs.Common.{◌≡◌, ℕ, ℤ, pos, negsuc, neg_ℤ, suc, ◌<◌, ◌^◌, Bool, true, false, not, List, [], ◌∷◌, ◌++◌, refl, sym, ap, subst, ◌∙◌, append_assoc, append-nil, arith, length}
use Rattle.std.specs.Fmt.{decimal}
use Rattle.std.proofs.lemmas.Fmt.{decimal_nonempty}
use Rattle.weld_data.specs.declared.kind.Kind.{Kind}
use Rattle.weld_data.specs.declared.kind.Kind.TheVariants as kinds
use Rattle.weld_data.specs.Kind.{InRange}
use Rattle.weld_tree.specs.TypeTree.{TypeTree, BuildTree, list, total, keyed, cells, groups}
use Rattle.weld_tree.specs.ExprTree.{ExprTree, At, leaf as leaf_at, one, int, truth, chars, name, fresh, started}
use Rattle.weld_tree.specs.Blank.{blank_at, distance}
use Rattle.weld_grammar.specs.declared.terminals.class.Class.TheVariants as classes
use Rattle.weld_grammar.specs.declared.terminals.symbol.Symbol.TheVariants.{LeftParen, RightParen, LeftBracket, RightBracket, Comma, Minus}
use Rattle.weld_grammar.specs.declared.terminals.reserved.Reserved.TheVariants as w
use Rattle.weld_grammar.specs.declared.terminals.token.Token.{Token}
use Rattle.weld_grammar.specs.ReservedWords.{reserved_text}
use Rattle.weld_tokens.specs.Bytes.{is_digit, all_of}
use Rattle.weld_grammar.specs.declared.rule.Rule.TheVariants as r
use Rattle.weld_grammar.specs.Derivation.{leaf, node, empty, pair, here, there, yield}
use Rattle.weld_spell.specs.ProgramOf.{primary_of}
use Rattle.weld_print.specs.TypeText.{type_text, build_text}
use Rattle.weld_print.specs.PrintText.{name_text, expr_text}
use Rattle.weld_print.proofs.Sound.{type_sound, op_sound, words}
use Rattle.weld_print.specs.Spellable.{BuildHasNoEmptyStruct, AreBytes}
use Rattle.weld_print.proofs.Lexemes.{reserved_lexeme, name_lexeme, int_lexeme, long_lexeme, value_of_decimal, value_of_long, digits_of_decimal}
use Rattle.weld_print.proofs.Symbols.{Follows, right_paren, right_bracket, minus}
use Rattle.weld_print.proofs.Strings.{string_word, string_lexeme, string_back}
use Rattle.weld_print.proofs.Reading.{Run, token, join, one_token}
use Rattle.weld_print.proofs.ReadsBackTypes.{type_reads, in_brackets, opened, op_at_end, behind_comma}
use Rattle.weld_print.proofs.Levels.{Plain, Read}
use Rattle.weld_print.proofs.Forms.{AsUnary, AsPost, Reads, of_post, of_unary, reunary, repost, primary_as_post, first_arg}
use Rattle.weld_tree.specs.Program.{MayBeFresh, MayBeStarted}
use Rattle.weld_print.specs.TypeText.{op_text}
use Rattle.std.proofs.lemmas.Int.{ints}
use Rattle.std.proofs.lemmas.Bool.{and_parts}
use Rattle.std.proofs.lemmas.Bool.Decides.{nat_tests}
use Rattle.std.specs.Prelude.{int_lt, ◌==◌, ◌&&◌, ◌≤◌, nat_le}
use Rattle.weld_print.specs.Spellable.{IsWritten}

-- ---- builders

-- the tokens of a starting value in one row with those before it
start_group : (os zs : List Token) (b p c : Token) → (os ++ (b ∷ [])) ++ (p ∷ (zs ++ (c ∷ []))) ≡ os ++ (b ∷ ((p ∷ (zs ++ (c ∷ []))) ++ []))
start_group os zs b p c = append_assoc os (b ∷ []) (p ∷ (zs ++ (c ∷ []))) ∙ ap (λ (t : List Token). os ++ (b ∷ t)) (sym (append-nil (p ∷ (zs ++ (c ∷ [])))))

pub fresh_reads : (names : List ℕ) (a : At) (b : BuildTree) → MayBeFresh b → BuildHasNoEmptyStruct b → AsPost names (leaf_at a (fresh b))
fresh_reads names a (list t) m h s n g i place rest st =
    let x = in_brackets w.Vecbuilder t (type_reads t h) place rest in
    let q : build_text (list t) ++ rest ≡ reserved_text w.Vecbuilder ++ (91 ∷ (type_text t ++ (93 ∷ rest))) = simp append_assoc in
    let whole : Read r.Primary primary_of Plain (leaf_at a (fresh (list t))) s n place (reserved_text w.Vecbuilder ++ (91 ∷ (type_text t ++ (93 ∷ rest)))) rest = record {
      tree = node (there (there (there (there (there (there (there (there (there (there (there (there (there (there (there (there (there (there (there (here (node (here (node (pair (node (here (leaf (token (reserved_text w.Vecbuilder) (classes.Reserved w.Vecbuilder) x.at)))) (pair (leaf (token (91 ∷ []) (classes.Symbol LeftBracket) x.opens)) (pair (x.tree) (pair (leaf (token (93 ∷ []) (classes.Symbol RightBracket) x.closes)) empty)))))))))))))))))))))))))));
      here = x.here;
      is_of = ((((((((((((((((((((refl, (refl, (type_sound x.tree (words s.bounds) x.is_of, (refl, tt)))), refl), refl), refl), refl), refl), refl), refl), refl), refl), refl), refl), refl), refl), refl), refl), refl), refl), refl), refl);
      begins = x.begins;
      same = ap (λ (u : TypeTree). leaf_at blank_at (fresh (list u))) x.value;
      grows = (omega arith);
      opens = (record { unlet = record { fair = record { iter = refl; zip = refl; bars = refl; bar = refl }; unlet = refl }; minus = refl; bang = refl });
    } in
    repost q (primary_as_post whole (λ h. refl) refl)
fresh_reads names a (total t op) m h s n g i place rest st =
    let last = 44 ∷ (op_text op ++ (93 ∷ rest)) in
    let x = opened w.Merger t (type_reads t h) place last refl in
    let y = op_at_end op x.here rest in
    let q : build_text (total t op) ++ rest ≡ reserved_text w.Merger ++ (91 ∷ (type_text t ++ (44 ∷ (op_text op ++ (93 ∷ rest))))) = simp append_assoc in
    let whole : Read r.Primary primary_of Plain (leaf_at a (fresh (total t op))) s n place (reserved_text w.Merger ++ (91 ∷ (type_text t ++ (44 ∷ (op_text op ++ (93 ∷ rest)))))) rest = record {
      tree = node (there (there (there (there (there (there (there (there (there (there (there (there (there (there (there (there (there (there (there (here (node (there (here (node (pair (leaf (token (reserved_text w.Merger) (classes.Reserved w.Merger) x.at)) (pair (leaf (token (91 ∷ []) (classes.Symbol LeftBracket) x.opens)) (pair (x.tree) (pair (leaf (token (44 ∷ []) (classes.Symbol Comma) y.at)) (pair (y.tree) (pair (leaf (token (93 ∷ []) (classes.Symbol RightBracket) y.closes)) (pair (empty) empty)))))))))))))))))))))))))))))));
      here = y.here;
      is_of = (((((((((((((((((((((refl, (refl, (type_sound x.tree (words s.bounds) x.is_of, (refl, (op_sound y.tree (words s.bounds) y.is_of, (refl, (tt, tt))))))), refl), refl), refl), refl), refl), refl), refl), refl), refl), refl), refl), refl), refl), refl), refl), refl), refl), refl), refl), refl);
      begins = join place _ _ _ x.here last y.here rest x.begins y.begins;
      same = (λ j. leaf_at blank_at (fresh (total (x.value j) (y.value j))));
      grows = (omega arith);
      opens = (record { unlet = record { fair = record { iter = refl; zip = refl; bars = refl; bar = refl }; unlet = refl }; minus = refl; bang = refl });
    } in
    repost q (primary_as_post whole (λ h. refl) refl)
fresh_reads names a (keyed k v op) m h s n g i place rest st =
    let end = 44 ∷ (op_text op ++ (93 ∷ rest)) in
    let last = 44 ∷ (type_text v ++ end) in
    let x = opened w.Dictmerger k (type_reads k h.0) place last refl in
    let y = behind_comma v (type_reads v h.1) x.here end refl in
    let z = op_at_end op y.here rest in
    let q : build_text (keyed k v op) ++ rest ≡ reserved_text w.Dictmerger ++ (91 ∷ (type_text k ++ (44 ∷ (type_text v ++ (44 ∷ (op_text op ++ (93 ∷ rest))))))) = simp append_assoc in
    let whole : Read r.Primary primary_of Plain (leaf_at a (fresh (keyed k v op))) s n place (reserved_text w.Dictmerger ++ (91 ∷ (type_text k ++ (44 ∷ (type_text v ++ (44 ∷ (op_text op ++ (93 ∷ rest)))))))) rest = record {
      tree = node (there (there (there (there (there (there (there (there (there (there (there (there (there (there (there (there (there (there (there (here (node (there (there (here (node (pair (leaf (token (reserved_text w.Dictmerger) (classes.Reserved w.Dictmerger) x.at)) (pair (leaf (token (91 ∷ []) (classes.Symbol LeftBracket) x.opens)) (pair (x.tree) (pair (leaf (token (44 ∷ []) (classes.Symbol Comma) y.at)) (pair (y.tree) (pair (leaf (token (44 ∷ []) (classes.Symbol Comma) z.at)) (pair (z.tree) (pair (leaf (token (93 ∷ []) (classes.Symbol RightBracket) z.closes)) empty)))))))))))))))))))))))))))))))));
      here = z.here;
      is_of = ((((((((((((((((((((((refl, (refl, (type_sound x.tree (words s.bounds) x.is_of, (refl, (type_sound y.tree (words s.bounds) y.is_of, (refl, (op_sound z.tree (words s.bounds) z.is_of, (refl, tt)))))))), refl), refl), refl), refl), refl), refl), refl), refl), refl), refl), refl), refl), refl), refl), refl), refl), refl), refl), refl), refl), refl);
      begins = join place _ _ _ x.here last z.here rest x.begins (join x.here last _ _ y.here end z.here rest y.begins z.begins);
      same = (λ j. leaf_at blank_at (fresh (keyed (x.value j) (y.value j) (z.value j))));
      grows = (omega arith);
      opens = (record { unlet = record { fair = record { iter = refl; zip = refl; bars = refl; bar = refl }; unlet = refl }; minus = refl; bang = refl });
    } in
    repost q (primary_as_post whole (λ h. refl) refl)
fresh_reads names a (cells t op) m h s n g i place rest st = absurd m
fresh_reads names a (groups k v) m h s n g i place rest st =
    let last = 44 ∷ (type_text v ++ (93 ∷ rest)) in
    let x = opened w.Groupbuilder k (type_reads k h.0) place last refl in
    let y = behind_comma v (type_reads v h.1) x.here (93 ∷ rest) refl in
    let z = one_token y.here (right_bracket rest) in
    let q : build_text (groups k v) ++ rest ≡ reserved_text w.Groupbuilder ++ (91 ∷ (type_text k ++ (44 ∷ (type_text v ++ (93 ∷ rest))))) = simp append_assoc in
    let whole : Read r.Primary primary_of Plain (leaf_at a (fresh (groups k v))) s n place (reserved_text w.Groupbuilder ++ (91 ∷ (type_text k ++ (44 ∷ (type_text v ++ (93 ∷ rest)))))) rest = record {
      tree = node (there (there (there (there (there (there (there (there (there (there (there (there (there (there (there (there (there (there (there (here (node (there (there (there (there (here (node (pair (node (here (leaf (token (reserved_text w.Groupbuilder) (classes.Reserved w.Groupbuilder) x.at)))) (pair (leaf (token (91 ∷ []) (classes.Symbol LeftBracket) x.opens)) (pair (x.tree) (pair (leaf (token (44 ∷ []) (classes.Symbol Comma) y.at)) (pair (y.tree) (pair (leaf (token (93 ∷ []) (classes.Symbol RightBracket) z.at)) empty)))))))))))))))))))))))))))))))));
      here = z.here;
      is_of = ((((((((((((((((((((((((refl, (refl, (type_sound x.tree (words s.bounds) x.is_of, (refl, (type_sound y.tree (words s.bounds) y.is_of, (refl, tt)))))), refl), refl), refl), refl), refl), refl), refl), refl), refl), refl), refl), refl), refl), refl), refl), refl), refl), refl), refl), refl), refl), refl), refl);
      begins = join place _ _ _ x.here last z.here rest x.begins (join x.here last _ _ y.here (93 ∷ rest) z.here rest y.begins z.begins);
      same = (λ j. leaf_at blank_at (fresh (groups (x.value j) (y.value j))));
      grows = (omega arith);
      opens = (record { unlet = record { fair = record { iter = refl; zip = refl; bars = refl; bar = refl }; unlet = refl }; minus = refl; bang = refl });
    } in
    repost q (primary_as_post whole (λ h. refl) refl)

pub started_reads : (names : List ℕ) (a : At) (b : BuildTree) (e : ExprTree) → MayBeStarted b → BuildHasNoEmptyStruct b → Reads names e → AsPost names (one a (started b) e)
started_reads names a (list t) e m h reads s n g i place rest st = absurd m
started_reads names a (keyed k v op) e m h reads s n g i place rest st = absurd m
started_reads names a (groups k v) e m h reads s n g i place rest st = absurd m
started_reads names a (total t op) e m h reads s n g i place rest st =
    let tail = 40 ∷ (expr_text names e ++ (41 ∷ rest)) in
    let last = 44 ∷ (op_text op ++ (93 ∷ tail)) in
    let x = opened w.Merger t (type_reads t h) place last refl in
    let y = op_at_end op x.here tail in
    let z = first_arg names e reads s n g i y.here (41 ∷ rest) refl in
    let c = one_token z.here (right_paren rest) in
    let q : expr_text names (one a (started (total t op)) e) ++ rest ≡ reserved_text w.Merger ++ (91 ∷ (type_text t ++ (44 ∷ (op_text op ++ (93 ∷ (40 ∷ (expr_text names e ++ (41 ∷ rest)))))))) = simp append_assoc in
    let row = start_group (yield y.tree) (yield z.tree) (token (93 ∷ []) (classes.Symbol RightBracket) y.closes) (token (40 ∷ []) (classes.Symbol LeftParen) z.at) (token (41 ∷ []) (classes.Symbol RightParen) c.at) in
    let more = join x.here last _ _ y.here tail c.here rest y.begins (join y.here tail _ _ z.here (41 ∷ rest) c.here rest z.begins c.begins) in
    let all = join place _ _ _ x.here last c.here rest x.begins (subst (λ (ts : List Token). Run x.here last (token (44 ∷ []) (classes.Symbol Comma) y.at ∷ ts) c.here rest) row more) in
    let whole : Read r.Primary primary_of Plain (one a (started (total t op)) e) s n place (reserved_text w.Merger ++ (91 ∷ (type_text t ++ (44 ∷ (op_text op ++ (93 ∷ (40 ∷ (expr_text names e ++ (41 ∷ rest))))))))) rest = record {
      tree = node (there (there (there (there (there (there (there (there (there (there (there (there (there (there (there (there (there (there (there (here (node (there (here (node (pair (leaf (token (reserved_text w.Merger) (classes.Reserved w.Merger) x.at)) (pair (leaf (token (91 ∷ []) (classes.Symbol LeftBracket) x.opens)) (pair (x.tree) (pair (leaf (token (44 ∷ []) (classes.Symbol Comma) y.at)) (pair (y.tree) (pair (leaf (token (93 ∷ []) (classes.Symbol RightBracket) y.closes)) (pair (here (node (pair (leaf (token (40 ∷ []) (classes.Symbol LeftParen) z.at)) (pair (z.tree) (pair (leaf (token (41 ∷ []) (classes.Symbol RightParen) c.at)) empty))))) empty)))))))))))))))))))))))))))))));
      here = c.here;
      is_of = (((((((((((((((((((((refl, (refl, (type_sound x.tree (words s.bounds) x.is_of, (refl, (op_sound y.tree (words s.bounds) y.is_of, (refl, ((refl, (z.is_of, (refl, tt))), tt))))))), refl), refl), refl), refl), refl), refl), refl), refl), refl), refl), refl), refl), refl), refl), refl), refl), refl), refl), refl), refl);
      begins = all;
      same = (λ j. one blank_at (started (total (x.value j) (y.value j))) (z.same j));
      grows = z.grows;
      opens = (record { unlet = record { fair = record { iter = refl; zip = refl; bars = refl; bar = refl }; unlet = refl }; minus = refl; bang = refl });
    } in
    repost q (primary_as_post whole (λ h. refl) refl)
started_reads names a (cells t op) e m h reads s n g i place rest st =
    let tail = 40 ∷ (expr_text names e ++ (41 ∷ rest)) in
    let last = 44 ∷ (op_text op ++ (93 ∷ tail)) in
    let x = opened w.Vecmerger t (type_reads t h) place last refl in
    let y = op_at_end op x.here tail in
    let z = first_arg names e reads s n g i y.here (41 ∷ rest) refl in
    let c = one_token z.here (right_paren rest) in
    let q : expr_text names (one a (started (cells t op)) e) ++ rest ≡ reserved_text w.Vecmerger ++ (91 ∷ (type_text t ++ (44 ∷ (op_text op ++ (93 ∷ (40 ∷ (expr_text names e ++ (41 ∷ rest)))))))) = simp append_assoc in
    let row = start_group (yield y.tree) (yield z.tree) (token (93 ∷ []) (classes.Symbol RightBracket) y.closes) (token (40 ∷ []) (classes.Symbol LeftParen) z.at) (token (41 ∷ []) (classes.Symbol RightParen) c.at) in
    let more = join x.here last _ _ y.here tail c.here rest y.begins (join y.here tail _ _ z.here (41 ∷ rest) c.here rest z.begins c.begins) in
    let all = join place _ _ _ x.here last c.here rest x.begins (subst (λ (ts : List Token). Run x.here last (token (44 ∷ []) (classes.Symbol Comma) y.at ∷ ts) c.here rest) row more) in
    let whole : Read r.Primary primary_of Plain (one a (started (cells t op)) e) s n place (reserved_text w.Vecmerger ++ (91 ∷ (type_text t ++ (44 ∷ (op_text op ++ (93 ∷ (40 ∷ (expr_text names e ++ (41 ∷ rest))))))))) rest = record {
      tree = node (there (there (there (there (there (there (there (there (there (there (there (there (there (there (there (there (there (there (there (here (node (there (there (there (here (node (pair (leaf (token (reserved_text w.Vecmerger) (classes.Reserved w.Vecmerger) x.at)) (pair (leaf (token (91 ∷ []) (classes.Symbol LeftBracket) x.opens)) (pair (x.tree) (pair (leaf (token (44 ∷ []) (classes.Symbol Comma) y.at)) (pair (y.tree) (pair (leaf (token (93 ∷ []) (classes.Symbol RightBracket) y.closes)) (pair (node (pair (leaf (token (40 ∷ []) (classes.Symbol LeftParen) z.at)) (pair (z.tree) (pair (leaf (token (41 ∷ []) (classes.Symbol RightParen) c.at)) empty)))) empty)))))))))))))))))))))))))))))))));
      here = c.here;
      is_of = (((((((((((((((((((((((refl, (refl, (type_sound x.tree (words s.bounds) x.is_of, (refl, (op_sound y.tree (words s.bounds) y.is_of, (refl, ((refl, (z.is_of, (refl, tt))), tt))))))), refl), refl), refl), refl), refl), refl), refl), refl), refl), refl), refl), refl), refl), refl), refl), refl), refl), refl), refl), refl), refl), refl);
      begins = all;
      same = (λ j. one blank_at (started (cells (x.value j) (y.value j))) (z.same j));
      grows = z.grows;
      opens = (record { unlet = record { fair = record { iter = refl; zip = refl; bars = refl; bar = refl }; unlet = refl }; minus = refl; bang = refl });
    } in
    repost q (primary_as_post whole (λ h. refl) refl)

-- ---- names and literals

name_fine : {b : Bool} → b ≡ true → (b && true) ≡ true
name_fine e = ap (λ (t : Bool). t && true) e

pub name_reads : (names : List ℕ) (a : At) (u : ℕ) → AsPost names (leaf_at a (name u))
name_reads names a u s n g i place rest st =
    let t = one_token place (name_lexeme (distance names u) rest (g.small u i) st) in
    let whole : Read r.Primary primary_of Plain (leaf_at a (name u)) s n place (name_text names u ++ rest) rest = record {
      tree = node (there (there (there (there (here (leaf (token (name_text names u) classes.Name t.at)))))));
      here = t.here;
      is_of = ((((name_fine (g.borne u i), refl), refl), refl), refl);
      begins = t.begins;
      same = ap (λ (v : ℕ). leaf_at blank_at (name v)) (g.found u i);
      grows = omega arith;
      opens = (record { unlet = record { fair = record { iter = refl; zip = refl; bars = refl; bar = refl }; unlet = refl }; minus = refl; bang = refl });
    } in
    primary_as_post whole (λ h. refl) refl

pub truth_reads : (names : List ℕ) (a : At) (b : Bool) → AsPost names (leaf_at a (truth b))
truth_reads names a true s n g i place rest st =
    let t = one_token place (reserved_lexeme w.True rest st) in
    let whole : Read r.Primary primary_of Plain (leaf_at a (truth true)) s n place (reserved_text w.True ++ rest) rest = record {
      tree = node (there (there (here (leaf (token (reserved_text w.True) (classes.Reserved w.True) t.at)))));
      here = t.here;
      is_of = ((refl, refl), refl);
      begins = t.begins;
      same = refl;
      grows = omega arith;
      opens = (record { unlet = record { fair = record { iter = refl; zip = refl; bars = refl; bar = refl }; unlet = refl }; minus = refl; bang = refl });
    } in
    primary_as_post whole (λ h. refl) refl
truth_reads names a false s n g i place rest st =
    let t = one_token place (reserved_lexeme w.False rest st) in
    let whole : Read r.Primary primary_of Plain (leaf_at a (truth false)) s n place (reserved_text w.False ++ rest) rest = record {
      tree = node (there (there (there (here (leaf (token (reserved_text w.False) (classes.Reserved w.False) t.at))))));
      here = t.here;
      is_of = (((refl, refl), refl), refl);
      begins = t.begins;
      same = refl;
      grows = omega arith;
      opens = (record { unlet = record { fair = record { iter = refl; zip = refl; bars = refl; bar = refl }; unlet = refl }; minus = refl; bang = refl });
    } in
    primary_as_post whole (λ h. refl) refl

pub chars_reads : (names : List ℕ) (a : At) (bs : List ℕ) → AreBytes bs → AsPost names (leaf_at a (chars bs))
chars_reads names a bs h s n g i place rest st =
    let t = one_token place (string_lexeme bs rest h) in
    let whole : Read r.Primary primary_of Plain (leaf_at a (chars bs)) s n place (string_word bs ++ rest) rest = record {
      tree = node (there (here (leaf (token (string_word bs) classes.Chars t.at))));
      here = t.here;
      is_of = (refl, refl);
      begins = t.begins;
      same = ap (λ (v : List ℕ). leaf_at blank_at (chars v)) (string_back bs h);
      grows = omega arith;
      opens = (record { unlet = record { fair = record { iter = refl; zip = refl; bars = refl; bar = refl }; unlet = refl }; minus = refl; bang = refl });
    } in
    primary_as_post whole (λ h. refl) refl

-- ---- numbers

digit_clear : (ds rest : List ℕ) → 0 < length ds → all_of is_digit ds ≡ true → Follows 33 (ds ++ rest)
digit_clear [] rest some h = absurd (omega arith)
digit_clear (d ∷ ds) rest some h =
    let p = and_parts (is_digit d) (all_of is_digit ds) h in
    let no : (d == 61) ≡ false = grind (arith, nat_tests) in
    rw no refl

natural_is : (m : ℕ) → int_lt (pos m) (pos 0) ≡ false
natural_is m = grind (arith, ints)

negative_is : (m : ℕ) → int_lt (negsuc m) (pos 0) ≡ true
negative_is m = grind (arith, ints)

never_natural : (m : ℕ) (P : Type 0) → not (int_lt (pos m) (pos 0)) ≡ false → P
never_natural m P h = absurd (let bad : true ≡ false = sym (ap not (natural_is m)) ∙ h in cc)

-- a number within its limit is in its range
fits : (v m top : ℕ) → v ≡ m → m ≤ top → not (not (nat_le v top)) ≡ true
fits v m top e h = let k : v ≤ top = omega (arith, e) in let t : nat_le v top ≡ true = grind (arith, nat_tests) in rw t refl

pub natural_reads : (names : List ℕ) (a : At) (k : Kind) (m : ℕ) → IsWritten k → InRange k (pos m) → m < 2 ^ 64 → AsPost names (leaf_at a (int k (pos m)))
natural_reads names a kinds.Bool m h range small s n g i place rest st = absurd h
natural_reads names a kinds.I8 m h range small s n g i place rest st = absurd h
natural_reads names a kinds.I16 m h range small s n g i place rest st = absurd h
natural_reads names a kinds.U8 m h range small s n g i place rest st = absurd h
natural_reads names a kinds.U16 m h range small s n g i place rest st = absurd h
natural_reads names a kinds.U32 m h range small s n g i place rest st = absurd h
natural_reads names a kinds.U64 m h range small s n g i place rest st = absurd h
natural_reads names a kinds.I32 m h range small s n g i place rest st =
    let t = one_token place (int_lexeme m rest small st) in
    let q : (decimal m ++ []) ++ rest ≡ decimal m ++ rest = ap (λ (x : List ℕ). x ++ rest) (append-nil (decimal m)) in
    let whole : Read r.Primary primary_of Plain (leaf_at a (int kinds.I32 (pos m))) s n place (decimal m ++ rest) rest = record {
      tree = node (here (leaf (token (decimal m) classes.Int t.at)));
      here = t.here;
      is_of = fits _ m 2147483647 (value_of_decimal m small) (omega (arith, ints, range.high));
      begins = t.begins;
      same = ap (λ (v : ℕ). leaf_at blank_at (int kinds.I32 (pos v))) (value_of_decimal m small);
      grows = omega arith;
      opens = (record { unlet = record { fair = record { iter = refl; zip = refl; bars = refl; bar = refl }; unlet = refl }; minus = refl; bang = refl });
    } in
    repost q (primary_as_post whole (λ h. never_natural m _ h) (digit_clear (decimal m) rest (decimal_nonempty m small) (digits_of_decimal m small)))
natural_reads names a kinds.I64 m h range small s n g i place rest st =
    let t = one_token place (long_lexeme m rest small st) in
    let whole : Read r.Primary primary_of Plain (leaf_at a (int kinds.I64 (pos m))) s n place ((decimal m ++ (76 ∷ [])) ++ rest) rest = record {
      tree = node (here (leaf (token (decimal m ++ (76 ∷ [])) classes.Long t.at)));
      here = t.here;
      is_of = fits _ m 9223372036854775807 (value_of_long m small) (omega (arith, ints, range.high));
      begins = t.begins;
      same = ap (λ (v : ℕ). leaf_at blank_at (int kinds.I64 (pos v))) (value_of_long m small);
      grows = omega arith;
      opens = (record { unlet = record { fair = record { iter = refl; zip = refl; bars = refl; bar = refl }; unlet = refl }; minus = refl; bang = refl });
    } in
    primary_as_post whole (λ h. never_natural m _ h) (subst (Follows 33) (sym (append_assoc (decimal m) (76 ∷ []) rest)) (digit_clear (decimal m) (76 ∷ rest) (decimal_nonempty m small) (digits_of_decimal m small)))

negative_value : (m v : ℕ) → v ≡ suc m → neg_ℤ (pos v) ≡ negsuc m
negative_value m v e = ap (λ (x : ℕ). neg_ℤ (pos x)) e

pub negative_reads : (names : List ℕ) (a : At) (k : Kind) (m : ℕ) → IsWritten k → InRange k (negsuc m) → suc m < 2 ^ 64 → AsUnary names (leaf_at a (int k (negsuc m)))
negative_reads names a kinds.Bool m h range small s n g i place rest st = absurd h
negative_reads names a kinds.I8 m h range small s n g i place rest st = absurd h
negative_reads names a kinds.I16 m h range small s n g i place rest st = absurd h
negative_reads names a kinds.U8 m h range small s n g i place rest st = absurd h
negative_reads names a kinds.U16 m h range small s n g i place rest st = absurd h
negative_reads names a kinds.U32 m h range small s n g i place rest st = absurd h
negative_reads names a kinds.U64 m h range small s n g i place rest st = absurd h
negative_reads names a kinds.I32 m h range small s n g i place rest st =
    let word = decimal (suc m) in
    let o = one_token place (minus (word ++ rest)) in
    let t = one_token o.here (int_lexeme (suc m) rest small st) in
    let q : ((45 ∷ word) ++ []) ++ rest ≡ 45 ∷ (word ++ rest) = ap (λ (x : List ℕ). x ++ rest) (append-nil (45 ∷ word)) in
    reunary q (record {
      tree = node (here (node (pair (leaf (token (45 ∷ []) (classes.Symbol Minus) o.at)) (pair (node (here (leaf (token word classes.Int t.at)))) empty))));
      here = t.here;
      is_of = (refl, (fits _ (suc m) 2147483648 (value_of_decimal (suc m) small) (omega (arith, ints, range.low)), tt));
      begins = join place (45 ∷ (word ++ rest)) _ _ o.here (word ++ rest) t.here rest o.begins t.begins;
      same = ap (λ (z : ℤ). leaf_at blank_at (int kinds.I32 z)) (negative_value m _ (value_of_decimal (suc m) small));
      grows = omega arith;
      opens = (record { fair = record { iter = refl; zip = refl; bars = refl; bar = refl }; unlet = refl });
    })
negative_reads names a kinds.I64 m h range small s n g i place rest st =
    let word = decimal (suc m) ++ (76 ∷ []) in
    let o = one_token place (minus (word ++ rest)) in
    let t = one_token o.here (long_lexeme (suc m) rest small st) in
    record {
      tree = node (here (node (pair (leaf (token (45 ∷ []) (classes.Symbol Minus) o.at)) (pair (node (here (leaf (token word classes.Long t.at)))) empty))));
      here = t.here;
      is_of = (refl, (fits _ (suc m) 9223372036854775808 (value_of_long (suc m) small) (omega (arith, ints, range.low)), tt));
      begins = join place (45 ∷ (word ++ rest)) _ _ o.here (word ++ rest) t.here rest o.begins t.begins;
      same = ap (λ (z : ℤ). leaf_at blank_at (int kinds.I64 z)) (negative_value m _ (value_of_long (suc m) small));
      grows = omega arith;
      opens = (record { fair = record { iter = refl; zip = refl; bars = refl; bar = refl }; unlet = refl });
    }

natural_small : (k : Kind) (m : ℕ) → IsWritten k → InRange k (pos m) → m < 2 ^ 64
natural_small kinds.Bool m h x = absurd h
natural_small kinds.I8 m h x = absurd h
natural_small kinds.I16 m h x = absurd h
natural_small kinds.I32 m h x = omega (arith, ints, x.high)
natural_small kinds.I64 m h x = omega (arith, ints, x.high)
natural_small kinds.U8 m h x = absurd h
natural_small kinds.U16 m h x = absurd h
natural_small kinds.U32 m h x = absurd h
natural_small kinds.U64 m h x = absurd h

negative_small : (k : Kind) (m : ℕ) → IsWritten k → InRange k (negsuc m) → suc m < 2 ^ 64
negative_small kinds.Bool m h x = absurd h
negative_small kinds.I8 m h x = absurd h
negative_small kinds.I16 m h x = absurd h
negative_small kinds.I32 m h x = omega (arith, ints, x.low)
negative_small kinds.I64 m h x = omega (arith, ints, x.low)
negative_small kinds.U8 m h x = absurd h
negative_small kinds.U16 m h x = absurd h
negative_small kinds.U32 m h x = absurd h
negative_small kinds.U64 m h x = absurd h

pub int_reads : (names : List ℕ) (a : At) (k : Kind) (x : ℤ) → IsWritten k → InRange k x → Reads names (leaf_at a (int k x))
int_reads names a k (pos m) h x = of_post names _ (natural_reads names a k m h x (natural_small k m h x))
int_reads names a k (negsuc m) h x = of_unary names _ (negative_is m) (negative_reads names a k m h x (negative_small k m h x))

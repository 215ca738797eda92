-- The printed text of a type reads as it.
use Rattle.std.proofs.Common.{◌≡◌, ℕ, ◌++◌, List, [], ◌∷◌, refl, sym, ap, subst, append_assoc, append-nil}
use Rattle.weld_data.specs.declared.kind.Kind.{Kind}
use Rattle.weld_data.specs.declared.kind.Kind.TheVariants as kinds
use Rattle.weld_data.specs.declared.op.MergeOp.{MergeOp}
use Rattle.weld_data.specs.declared.op.MergeOp.TheVariants as ops
use Rattle.weld_tree.specs.declared.place.Place.{Place}
use Rattle.weld_tree.specs.TypeTree.{TypeTree, BuildTree, TypeTrees, scalar, vec, struct, dict, build, list, total, keyed, cells, groups, no_types, more_types}
use Rattle.weld_grammar.specs.declared.terminals.symbol.Symbol.TheVariants.{LeftBracket, RightBracket, LeftBrace, RightBrace, Comma, Plus, Star}
use Rattle.weld_grammar.specs.declared.terminals.reserved.Reserved.{Reserved}
use Rattle.weld_grammar.specs.declared.terminals.reserved.Reserved.TheVariants as w
use Rattle.weld_grammar.specs.declared.terminals.class.Class.TheVariants as classes
use Rattle.weld_grammar.specs.declared.terminals.token.Token.{Token}
use Rattle.weld_grammar.specs.ReservedWords.{reserved_text}
use Rattle.weld_tokens.specs.Tokens.{start, place_behind}
use Rattle.weld_grammar.specs.declared.rule.Rule.TheVariants.{AnyType, MergeOp as OfMergeOp, NextType}
use Rattle.weld_grammar.specs.declared.item.Item.TheVariants.{Part as OfRule, Repeated}
use Rattle.weld_grammar.specs.Grammar.{item}
use Rattle.weld_grammar.specs.Derivation.{Tree, leaf, node, empty, pair, here, there, yield, IsOf}
use Rattle.weld_spell.specs.TypeOf.{type_of, next_types_of, merge_op_of}
use Rattle.weld_spell.specs.Seen.{seen}
use Rattle.weld_print.specs.TypeText.{op_text, type_text, build_text, fields_text}
use Rattle.weld_print.specs.Spellable.{HasNoEmptyStruct, BuildHasNoEmptyStruct, HaveNoEmptyStruct}
use Rattle.weld_print.specs.Texts.{TextSpellsType}
use Rattle.weld_print.proofs.Lexemes.{Stops, reserved_lexeme}
use Rattle.weld_print.proofs.Symbols.{left_bracket, right_bracket, left_brace, right_brace, comma, plus, star}
use Rattle.weld_print.proofs.Reading.{Run, none, AreSome, took, token, step, join, one_token}

-- a text that stands at a place begins with tokens that derive the type, and these bytes follow them
pub record TypeRead (t : TypeTree) (place : Place) (text rest : List ℕ) : Type 0 where
  pub tree : Tree Token
  pub some : AreSome (yield tree)
  pub here : Place
  pub is_of : IsOf (item (OfRule AnyType)) (seen tree)
  pub value : type_of tree ≡ t
  pub begins : Run place text (yield tree) here rest

-- the same for an operator of a builder
pub record OpRead (op : MergeOp) (place : Place) (text rest : List ℕ) : Type 0 where
  pub tree : Tree Token
  pub here : Place
  pub is_of : IsOf (item (OfRule OfMergeOp)) (seen tree)
  pub value : merge_op_of tree ≡ op
  pub begins : Run place text (yield tree) here rest

-- and for further fields of a struct
record NextRead (ts : TypeTrees) (place : Place) (text rest : List ℕ) : Type 0 where
  tree : Tree Token
  here : Place
  is_of : IsOf (item (Repeated NextType)) (seen tree)
  value : next_types_of tree ≡ ts
  begins : Run place text (yield tree) here rest

retext : (t : TypeTree) (place : Place) (text other rest : List ℕ) → text ≡ other → TypeRead t place other rest → TypeRead t place text rest
retext t place text other rest e r = subst (λ (x : List ℕ). TypeRead t place x rest) (sym e) r

retext_next : (ts : TypeTrees) (place : Place) (text other rest : List ℕ) → text ≡ other → NextRead ts place other rest → NextRead ts place text rest
retext_next ts place text other rest e r = subst (λ (x : List ℕ). NextRead ts place x rest) (sym e) r

-- nothing at the end of some tokens
begins_nil : (place : Place) (text : List ℕ) (ts us : List Token) (here : Place) (rest : List ℕ) → Run place text (ts ++ us) here rest → Run place text ((ts ++ []) ++ us) here rest
begins_nil place text ts us to rest b = subst (λ (x : List Token). Run place text (x ++ us) to rest) (sym (append-nil ts)) b

-- the printed text of the type reads as it
abbrev pub Reads : TypeTree → Type 0
Reads t = (place : Place) (rest : List ℕ) → Stops rest → TypeRead t place (type_text t ++ rest) rest

pub reads_op : (op : MergeOp) (place : Place) (rest : List ℕ) → Stops rest → OpRead op place (op_text op ++ rest) rest
reads_op ops.Add place rest s = let t = one_token place (plus rest) in record { tree = node (here (leaf (token (43 ∷ []) (classes.Symbol Plus) t.at))); here = t.here; is_of = refl; value = refl; begins = t.begins }
reads_op ops.Mul place rest s = let t = one_token place (star rest) in record { tree = node (there (here (leaf (token (42 ∷ []) (classes.Symbol Star) t.at)))); here = t.here; is_of = (refl, refl); value = refl; begins = t.begins }
reads_op ops.Min place rest s = let t = one_token place (reserved_lexeme w.Min rest s) in record { tree = node (there (there (here (leaf (token (reserved_text w.Min) (classes.Reserved w.Min) t.at))))); here = t.here; is_of = ((refl, refl), refl); value = refl; begins = t.begins }
reads_op ops.Max place rest s = let t = one_token place (reserved_lexeme w.Max rest s) in record { tree = node (there (there (there (here (leaf (token (reserved_text w.Max) (classes.Reserved w.Max) t.at)))))); here = t.here; is_of = (((refl, refl), refl), refl); value = refl; begins = t.begins }

reads_kind : (k : Kind) → Reads (scalar k)
reads_kind kinds.Bool place rest s = let t = one_token place (reserved_lexeme w.Bool rest s) in record { tree = node (here (node (here (leaf (token (reserved_text w.Bool) (classes.Reserved w.Bool) t.at))))); some = tt; here = t.here; is_of = refl; value = refl; begins = t.begins }
reads_kind kinds.I8 place rest s = let t = one_token place (reserved_lexeme w.I8 rest s) in record { tree = node (here (node (there (here (node (here (leaf (token (reserved_text w.I8) (classes.Reserved w.I8) t.at)))))))); some = tt; here = t.here; is_of = (refl, refl); value = refl; begins = t.begins }
reads_kind kinds.I16 place rest s = let t = one_token place (reserved_lexeme w.I16 rest s) in record { tree = node (here (node (there (here (node (there (here (leaf (token (reserved_text w.I16) (classes.Reserved w.I16) t.at))))))))); some = tt; here = t.here; is_of = ((refl, refl), refl); value = refl; begins = t.begins }
reads_kind kinds.I32 place rest s = let t = one_token place (reserved_lexeme w.I32 rest s) in record { tree = node (here (node (there (here (node (there (there (here (leaf (token (reserved_text w.I32) (classes.Reserved w.I32) t.at)))))))))); some = tt; here = t.here; is_of = (((refl, refl), refl), refl); value = refl; begins = t.begins }
reads_kind kinds.I64 place rest s = let t = one_token place (reserved_lexeme w.I64 rest s) in record { tree = node (here (node (there (here (node (there (there (there (here (leaf (token (reserved_text w.I64) (classes.Reserved w.I64) t.at))))))))))); some = tt; here = t.here; is_of = ((((refl, refl), refl), refl), refl); value = refl; begins = t.begins }
reads_kind kinds.U8 place rest s = let t = one_token place (reserved_lexeme w.U8 rest s) in record { tree = node (here (node (there (here (node (there (there (there (there (here (leaf (token (reserved_text w.U8) (classes.Reserved w.U8) t.at)))))))))))); some = tt; here = t.here; is_of = (((((refl, refl), refl), refl), refl), refl); value = refl; begins = t.begins }
reads_kind kinds.U16 place rest s = let t = one_token place (reserved_lexeme w.U16 rest s) in record { tree = node (here (node (there (here (node (there (there (there (there (there (here (leaf (token (reserved_text w.U16) (classes.Reserved w.U16) t.at))))))))))))); some = tt; here = t.here; is_of = ((((((refl, refl), refl), refl), refl), refl), refl); value = refl; begins = t.begins }
reads_kind kinds.U32 place rest s = let t = one_token place (reserved_lexeme w.U32 rest s) in record { tree = node (here (node (there (here (node (there (there (there (there (there (there (here (leaf (token (reserved_text w.U32) (classes.Reserved w.U32) t.at)))))))))))))); some = tt; here = t.here; is_of = (((((((refl, refl), refl), refl), refl), refl), refl), refl); value = refl; begins = t.begins }
reads_kind kinds.U64 place rest s = let t = one_token place (reserved_lexeme w.U64 rest s) in record { tree = node (here (node (there (here (node (there (there (there (there (there (there (there (here (leaf (token (reserved_text w.U64) (classes.Reserved w.U64) t.at))))))))))))))); some = tt; here = t.here; is_of = ((((((((refl, refl), refl), refl), refl), refl), refl), refl), refl); value = refl; begins = t.begins }

-- a word and a type in brackets
pub record InBrackets (word : Reserved) (t : TypeTree) (place : Place) (text rest : List ℕ) : Type 0 where
  pub at : Place
  pub opens : Place
  pub closes : Place
  pub here : Place
  pub tree : Tree Token
  pub is_of : IsOf (item (OfRule AnyType)) (seen tree)
  pub value : type_of tree ≡ t
  pub begins : Run place text (token (reserved_text word) (classes.Reserved word) at ∷ token (91 ∷ []) (classes.Symbol LeftBracket) opens ∷ (yield tree ++ (token (93 ∷ []) (classes.Symbol RightBracket) closes ∷ []))) here rest

pub in_brackets : (word : Reserved) (t : TypeTree) → Reads t → (place : Place) (rest : List ℕ) → InBrackets word t place (reserved_text word ++ (91 ∷ (type_text t ++ (93 ∷ rest)))) rest
in_brackets word t reads place rest =
    let behind = type_text t ++ (93 ∷ rest) in
    let text = reserved_text word ++ (91 ∷ behind) in
    let a = took place (reserved_lexeme word (91 ∷ behind) refl) in
    let b = took (place_behind place text) (left_bracket behind) in
    let r = reads (place_behind (place_behind place text) (91 ∷ behind)) (93 ∷ rest) refl in
    let c = one_token r.here (right_bracket rest) in
    let closed = join _ behind (yield r.tree) _ r.here (93 ∷ rest) c.here rest r.begins c.begins in
    let opened = step _ (91 ∷ behind) (91 ∷ []) (classes.Symbol LeftBracket) behind _ c.here rest b closed in
    record {
      at = a.at;
      opens = b.at;
      closes = c.at;
      here = c.here;
      tree = r.tree;
      is_of = r.is_of;
      value = r.value;
      begins = step place text (reserved_text word) (classes.Reserved word) (91 ∷ behind) _ c.here rest a opened;
    }

-- a comma, an operator and a closing bracket
pub record OpAtEnd (op : MergeOp) (place : Place) (text rest : List ℕ) : Type 0 where
  pub at : Place
  pub closes : Place
  pub here : Place
  pub tree : Tree Token
  pub is_of : IsOf (item (OfRule OfMergeOp)) (seen tree)
  pub value : merge_op_of tree ≡ op
  pub begins : Run place text (token (44 ∷ []) (classes.Symbol Comma) at ∷ (yield tree ++ (token (93 ∷ []) (classes.Symbol RightBracket) closes ∷ []))) here rest

pub op_at_end : (op : MergeOp) (place : Place) (rest : List ℕ) → OpAtEnd op place (44 ∷ (op_text op ++ (93 ∷ rest))) rest
op_at_end op place rest =
    let behind = op_text op ++ (93 ∷ rest) in
    let a = took place (comma behind) in
    let r = reads_op op (place_behind place (44 ∷ behind)) (93 ∷ rest) refl in
    let c = one_token r.here (right_bracket rest) in
    let closed = join _ behind (yield r.tree) _ r.here (93 ∷ rest) c.here rest r.begins c.begins in
    record {
      at = a.at;
      closes = c.at;
      here = c.here;
      tree = r.tree;
      is_of = r.is_of;
      value = r.value;
      begins = step place (44 ∷ behind) (44 ∷ []) (classes.Symbol Comma) behind _ c.here rest a closed;
    }

-- a word, an opening bracket and a type
pub record Opened (word : Reserved) (t : TypeTree) (place : Place) (text rest : List ℕ) : Type 0 where
  pub at : Place
  pub opens : Place
  pub here : Place
  pub tree : Tree Token
  pub is_of : IsOf (item (OfRule AnyType)) (seen tree)
  pub value : type_of tree ≡ t
  pub begins : Run place text (token (reserved_text word) (classes.Reserved word) at ∷ token (91 ∷ []) (classes.Symbol LeftBracket) opens ∷ yield tree) here rest

pub opened : (word : Reserved) (t : TypeTree) → Reads t → (place : Place) (rest : List ℕ) → Stops rest → Opened word t place (reserved_text word ++ (91 ∷ (type_text t ++ rest))) rest
opened word t reads place rest s =
    let behind = type_text t ++ rest in
    let text = reserved_text word ++ (91 ∷ behind) in
    let a = took place (reserved_lexeme word (91 ∷ behind) refl) in
    let b = took (place_behind place text) (left_bracket behind) in
    let r = reads (place_behind (place_behind place text) (91 ∷ behind)) rest s in
    let inner = step _ (91 ∷ behind) (91 ∷ []) (classes.Symbol LeftBracket) behind _ r.here rest b r.begins in
    record {
      at = a.at;
      opens = b.at;
      here = r.here;
      tree = r.tree;
      is_of = r.is_of;
      value = r.value;
      begins = step place text (reserved_text word) (classes.Reserved word) (91 ∷ behind) _ r.here rest a inner;
    }

-- a comma and a type
pub record BehindComma (t : TypeTree) (place : Place) (text rest : List ℕ) : Type 0 where
  pub at : Place
  pub here : Place
  pub tree : Tree Token
  pub is_of : IsOf (item (OfRule AnyType)) (seen tree)
  pub value : type_of tree ≡ t
  pub begins : Run place text (token (44 ∷ []) (classes.Symbol Comma) at ∷ yield tree) here rest

pub behind_comma : (t : TypeTree) → Reads t → (place : Place) (rest : List ℕ) → Stops rest → BehindComma t place (44 ∷ (type_text t ++ rest)) rest
behind_comma t reads place rest s =
    let behind = type_text t ++ rest in
    let a = took place (comma behind) in
    let r = reads (place_behind place (44 ∷ behind)) rest s in
    record {
      at = a.at;
      here = r.here;
      tree = r.tree;
      is_of = r.is_of;
      value = r.value;
      begins = step place (44 ∷ behind) (44 ∷ []) (classes.Symbol Comma) behind _ r.here rest a r.begins;
    }

-- a byte that ends what stands before it
fields_stop : (ts : TypeTrees) (rest : List ℕ) → Stops rest → Stops (fields_text 44 ts ++ rest)
fields_stop no_types rest s = s
fields_stop (more_types t ts) rest s = refl

mutual
  pub type_reads : (t : TypeTree) → HasNoEmptyStruct t → Reads t
  type_reads (scalar k) h place rest s = reads_kind k place rest s
  type_reads (vec t) h place rest s =
      let r = in_brackets w.Vec t (type_reads t h) place rest in
      let e : type_text (vec t) ++ rest ≡ reserved_text w.Vec ++ (91 ∷ (type_text t ++ (93 ∷ rest))) = simp append_assoc in
      retext _ place _ _ rest e (record {
        tree = node (there (here (node (pair (leaf (token (reserved_text w.Vec) (classes.Reserved w.Vec) r.at)) (pair (leaf (token (91 ∷ []) (classes.Symbol LeftBracket) r.opens)) (pair (r.tree) (pair (leaf (token (93 ∷ []) (classes.Symbol RightBracket) r.closes)) empty)))))));
        some = tt;
        here = r.here;
        is_of = ((refl, (refl, (r.is_of, (refl, tt)))), refl);
        value = ap vec r.value;
        begins = r.begins;
      })
  type_reads (struct no_types) h place rest s = absurd h.0
  type_reads (struct (more_types t ts)) h place rest s =
      let further = fields_text 44 ts ++ (125 ∷ rest) in
      let behind = type_text t ++ further in
      let a = took place (left_brace behind) in
      let r = type_reads t h.1.0 (place_behind place (123 ∷ behind)) further (fields_stop ts (125 ∷ rest) refl) in
      let n = next_reads ts h.1.1 r.here (125 ∷ rest) refl in
      let c = one_token n.here (right_brace rest) in
      let more = join r.here further (yield n.tree) _ n.here (125 ∷ rest) c.here rest n.begins c.begins in
      let all = join _ behind (yield r.tree) _ r.here further c.here rest r.begins more in
      let e : type_text (struct (more_types t ts)) ++ rest ≡ 123 ∷ (type_text t ++ (fields_text 44 ts ++ (125 ∷ rest))) = simp append_assoc in
      retext _ place _ _ rest e (record {
        tree = node (there (there (here (node (pair (leaf (token (123 ∷ []) (classes.Symbol LeftBrace) a.at)) (pair (r.tree) (pair (n.tree) (pair (leaf (token (125 ∷ []) (classes.Symbol RightBrace) c.at)) empty))))))));
        some = tt;
        here = c.here;
        is_of = (((refl, (r.is_of, (n.is_of, (refl, tt)))), refl), refl);
        value = (λ i. struct (more_types (r.value i) (n.value i)));
        begins = step place (123 ∷ behind) (123 ∷ []) (classes.Symbol LeftBrace) behind _ c.here rest a all;
      })
  type_reads (dict k v) h place rest s =
      let last = 44 ∷ (type_text v ++ (93 ∷ rest)) in
      let a = opened w.Dict k (type_reads k h.0) place last refl in
      let b = behind_comma v (type_reads v h.1) a.here (93 ∷ rest) refl in
      let c = one_token b.here (right_bracket rest) in
      let more = join a.here last _ _ b.here (93 ∷ rest) c.here rest b.begins c.begins in
      let all = join place _ _ _ a.here last c.here rest a.begins more in
      let e : type_text (dict k v) ++ rest ≡ reserved_text w.Dict ++ (91 ∷ (type_text k ++ (44 ∷ (type_text v ++ (93 ∷ rest))))) = simp append_assoc in
      retext _ place _ _ rest e (record {
        tree = node (there (there (there (here (node (pair (leaf (token (reserved_text w.Dict) (classes.Reserved w.Dict) a.at)) (pair (leaf (token (91 ∷ []) (classes.Symbol LeftBracket) a.opens)) (pair (a.tree) (pair (leaf (token (44 ∷ []) (classes.Symbol Comma) b.at)) (pair (b.tree) (pair (leaf (token (93 ∷ []) (classes.Symbol RightBracket) c.at)) empty)))))))))));
        some = tt;
        here = c.here;
        is_of = ((((refl, (refl, (a.is_of, (refl, (b.is_of, (refl, tt)))))), refl), refl), refl);
        value = (λ i. dict (a.value i) (b.value i));
        begins = all;
      })
  type_reads (build b) h place rest s = build_reads b h place rest s

  pub build_reads : (b : BuildTree) → BuildHasNoEmptyStruct b → Reads (build b)
  build_reads (list t) h place rest s =
      let r = in_brackets w.Vecbuilder t (type_reads t h) place rest in
      let e : build_text (list t) ++ rest ≡ reserved_text w.Vecbuilder ++ (91 ∷ (type_text t ++ (93 ∷ rest))) = simp append_assoc in
      retext _ place _ _ rest e (record {
        tree = node (there (there (there (there (here (node (pair (node (here (leaf (token (reserved_text w.Vecbuilder) (classes.Reserved w.Vecbuilder) r.at)))) (pair (leaf (token (91 ∷ []) (classes.Symbol LeftBracket) r.opens)) (pair (r.tree) (pair (leaf (token (93 ∷ []) (classes.Symbol RightBracket) r.closes)) empty))))))))));
        some = tt;
        here = r.here;
        is_of = (((((refl, (refl, (r.is_of, (refl, tt)))), refl), refl), refl), refl);
        value = ap (λ (u : TypeTree). build (list u)) r.value;
        begins = r.begins;
      })
  build_reads (total t op) h place rest s =
      let last = 44 ∷ (op_text op ++ (93 ∷ rest)) in
      let a = opened w.Merger t (type_reads t h) place last refl in
      let b = op_at_end op a.here rest in
      let all = join place _ _ _ a.here last b.here rest a.begins b.begins in
      let e : build_text (total t op) ++ rest ≡ reserved_text w.Merger ++ (91 ∷ (type_text t ++ (44 ∷ (op_text op ++ (93 ∷ rest))))) = simp append_assoc in
      retext _ place _ _ rest e (record {
        tree = node (there (there (there (there (there (here (node (pair (leaf (token (reserved_text w.Merger) (classes.Reserved w.Merger) a.at)) (pair (leaf (token (91 ∷ []) (classes.Symbol LeftBracket) a.opens)) (pair (a.tree) (pair (leaf (token (44 ∷ []) (classes.Symbol Comma) b.at)) (pair (b.tree) (pair (leaf (token (93 ∷ []) (classes.Symbol RightBracket) b.closes)) empty)))))))))))));
        some = tt;
        here = b.here;
        is_of = ((((((refl, (refl, (a.is_of, (refl, (b.is_of, (refl, tt)))))), refl), refl), refl), refl), refl);
        value = (λ i. build (total (a.value i) (b.value i)));
        begins = all;
      })
  build_reads (keyed k v op) h place rest s =
      let end = 44 ∷ (op_text op ++ (93 ∷ rest)) in
      let last = 44 ∷ (type_text v ++ end) in
      let a = opened w.Dictmerger k (type_reads k h.0) place last refl in
      let b = behind_comma v (type_reads v h.1) a.here end refl in
      let c = op_at_end op b.here rest in
      let more = join a.here last _ _ b.here end c.here rest b.begins c.begins in
      let all = join place _ _ _ a.here last c.here rest a.begins more in
      let e : build_text (keyed k v op) ++ rest ≡ reserved_text w.Dictmerger ++ (91 ∷ (type_text k ++ (44 ∷ (type_text v ++ (44 ∷ (op_text op ++ (93 ∷ rest))))))) = simp append_assoc in
      retext _ place _ _ rest e (record {
        tree = node (there (there (there (there (there (there (here (node (pair (leaf (token (reserved_text w.Dictmerger) (classes.Reserved w.Dictmerger) a.at)) (pair (leaf (token (91 ∷ []) (classes.Symbol LeftBracket) a.opens)) (pair (a.tree) (pair (leaf (token (44 ∷ []) (classes.Symbol Comma) b.at)) (pair (b.tree) (pair (leaf (token (44 ∷ []) (classes.Symbol Comma) c.at)) (pair (c.tree) (pair (leaf (token (93 ∷ []) (classes.Symbol RightBracket) c.closes)) empty))))))))))))))));
        some = tt;
        here = c.here;
        is_of = (((((((refl, (refl, (a.is_of, (refl, (b.is_of, (refl, (c.is_of, (refl, tt)))))))), refl), refl), refl), refl), refl), refl);
        value = (λ i. build (keyed (a.value i) (b.value i) (c.value i)));
        begins = all;
      })
  build_reads (cells t op) h place rest s =
      let last = 44 ∷ (op_text op ++ (93 ∷ rest)) in
      let a = opened w.Vecmerger t (type_reads t h) place last refl in
      let b = op_at_end op a.here rest in
      let all = join place _ _ _ a.here last b.here rest a.begins b.begins in
      let e : build_text (cells t op) ++ rest ≡ reserved_text w.Vecmerger ++ (91 ∷ (type_text t ++ (44 ∷ (op_text op ++ (93 ∷ rest))))) = simp append_assoc in
      retext _ place _ _ rest e (record {
        tree = node (there (there (there (there (there (there (there (here (node (pair (leaf (token (reserved_text w.Vecmerger) (classes.Reserved w.Vecmerger) a.at)) (pair (leaf (token (91 ∷ []) (classes.Symbol LeftBracket) a.opens)) (pair (a.tree) (pair (leaf (token (44 ∷ []) (classes.Symbol Comma) b.at)) (pair (b.tree) (pair (leaf (token (93 ∷ []) (classes.Symbol RightBracket) b.closes)) empty)))))))))))))));
        some = tt;
        here = b.here;
        is_of = ((((((((refl, (refl, (a.is_of, (refl, (b.is_of, (refl, tt)))))), refl), refl), refl), refl), refl), refl), refl);
        value = (λ i. build (cells (a.value i) (b.value i)));
        begins = all;
      })
  build_reads (groups k v) h place rest s =
      let last = 44 ∷ (type_text v ++ (93 ∷ rest)) in
      let a = opened w.Groupbuilder k (type_reads k h.0) place last refl in
      let b = behind_comma v (type_reads v h.1) a.here (93 ∷ rest) refl in
      let c = one_token b.here (right_bracket rest) in
      let more = join a.here last _ _ b.here (93 ∷ rest) c.here rest b.begins c.begins in
      let all = join place _ _ _ a.here last c.here rest a.begins more in
      let e : build_text (groups k v) ++ rest ≡ reserved_text w.Groupbuilder ++ (91 ∷ (type_text k ++ (44 ∷ (type_text v ++ (93 ∷ rest))))) = simp append_assoc in
      retext _ place _ _ rest e (record {
        tree = node (there (there (there (there (there (there (there (there (here (node (pair (node (here (leaf (token (reserved_text w.Groupbuilder) (classes.Reserved w.Groupbuilder) a.at)))) (pair (leaf (token (91 ∷ []) (classes.Symbol LeftBracket) a.opens)) (pair (a.tree) (pair (leaf (token (44 ∷ []) (classes.Symbol Comma) b.at)) (pair (b.tree) (pair (leaf (token (93 ∷ []) (classes.Symbol RightBracket) c.at)) empty))))))))))))))));
        some = tt;
        here = c.here;
        is_of = (((((((((refl, (refl, (a.is_of, (refl, (b.is_of, (refl, tt)))))), refl), refl), refl), refl), refl), refl), refl), refl);
        value = (λ i. build (groups (a.value i) (b.value i)));
        begins = all;
      })

  next_reads : (ts : TypeTrees) → HaveNoEmptyStruct ts → (place : Place) (rest : List ℕ) → Stops rest → NextRead ts place (fields_text 44 ts ++ rest) rest
  next_reads no_types h place rest s = record { tree = empty; here = place; is_of = tt; value = refl; begins = none }
  next_reads (more_types t ts) h place rest s =
      let further = fields_text 44 ts ++ rest in
      let a = behind_comma t (type_reads t h.0) place further (fields_stop ts rest s) in
      let n = next_reads ts h.1 a.here rest s in
      let all = join place _ _ _ a.here further n.here rest a.begins n.begins in
      let e : fields_text 44 (more_types t ts) ++ rest ≡ 44 ∷ (type_text t ++ (fields_text 44 ts ++ rest)) = simp append_assoc in
      retext_next _ place _ _ rest e (record {
        tree = pair (node (pair (leaf (token (44 ∷ []) (classes.Symbol Comma) a.at)) (pair (a.tree) empty))) n.tree;
        here = n.here;
        is_of = ((refl, (a.is_of, tt)), n.is_of);
        value = (λ i. more_types (a.value i) (n.value i));
        begins = begins_nil place (44 ∷ (type_text t ++ further)) (token (44 ∷ []) (classes.Symbol Comma) a.at ∷ yield a.tree) (yield n.tree) n.here rest all;
      })

-- the whole text
pub type_reads_back : (t : TypeTree) → HasNoEmptyStruct t → TextSpellsType (type_text t) t
type_reads_back t h =
    let r = type_reads t h start [] tt in
    let run : Run start (type_text t) (yield r.tree) r.here [] = subst (λ (x : List ℕ). Run start x (yield r.tree) r.here []) (append-nil (type_text t)) r.begins in
    record {
      tokens = yield r.tree;
      are_tokens = record { here = r.here; rest = []; begins = run.is; over = refl };
      spells = record { tree = r.tree; tree_of = r.is_of; tokens = refl; value = r.value };
    }

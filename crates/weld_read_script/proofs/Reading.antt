-- Parts read one after another.
use Rattle.std.proofs.Common.{◌≡◌, ℕ, ◌+◌, ◌<◌, ◌≤◌, List, [], ◌∷◌, ◌++◌, length, drop, get_or, map, Option, Some, None, Bor, refl, sym, ap, ◌∙◌}
use Rattle.std.proofs.lemmas.List.{drop_more, drop_all, append_assoc, append-nil}
use Rattle.weld_grammar.specs.declared.terminals.token.Token.{Token}
use Rattle.weld_read_script.specs.Parts.{all_read, both}

-- what is read of further parts, behind what was read
abbrev pub behind : {A : Type 0} → List A → Option (List A) → Option (List A)
behind done None = None
behind done (Some more) = Some (done ++ more)

abbrev pub lent_read : {A : Type 0} → (List Token → Option A) → List (Bor (List Token)) → Option (List A)
lent_read read ps = all_read read (map (λ x. x.now) ps)

pub behind_nothing : {A : Type 0} (r : Option (List A)) → r ≡ behind [] r
behind_nothing None = refl
behind_nothing (Some xs) = refl

behind_both : {A : Type 0} (done : List A) (x : A) (r : Option (List A)) → behind done (both (Some x) r) ≡ behind (done ++ x ∷ []) r
behind_both done x None = refl
behind_both done x (Some xs) = ap Some (sym (append_assoc done (x ∷ []) xs))

behind_unread : {A : Type 0} (done : List A) (r : Option (List A)) → behind done (both None r) ≡ None
behind_unread done None = refl
behind_unread done (Some xs) = refl

-- the part at i, and those behind it
lent_at : {A : Type 0} (read : List Token → Option A) (ps : List (Bor (List Token))) (i : ℕ) (p : Bor (List Token)) → i < length ps → p ≡ get_or ps i p
    → lent_read read (drop i ps) ≡ both (read p.now) (lent_read read (drop (i + 1) ps))
lent_at read ps i p below is =
    ap (lent_read read) (drop_more ps i p below) ∙ ap (λ q. both (read q.now) (lent_read read (drop (i + 1) ps))) (sym is)

-- one part more
pub read_more : {A : Type 0} (read : List Token → Option A) (ps : List (Bor (List Token))) (i : ℕ) (p : Bor (List Token)) (x : A) (done after : List A)
    → i < length ps → p ≡ get_or ps i p → Some x ≡ read p.now → after ≡ done ++ x ∷ [] → lent_read read ps ≡ behind done (lent_read read (drop i ps))
    → lent_read read ps ≡ behind after (lent_read read (drop (i + 1) ps))
read_more read ps i p x done after below is read_so after_is so_far =
    so_far ∙ ap (behind done) (lent_at read ps i p below is)
    ∙ ap (λ r. behind done (both r (lent_read read (drop (i + 1) ps)))) (sym read_so)
    ∙ behind_both done x (lent_read read (drop (i + 1) ps)) ∙ ap (λ xs. behind xs (lent_read read (drop (i + 1) ps))) (sym after_is)

-- one that isn't read
pub read_none : {A : Type 0} (read : List Token → Option A) (ps : List (Bor (List Token))) (i : ℕ) (p : Bor (List Token)) (done : List A)
    → i < length ps → p ≡ get_or ps i p → None ≡ read p.now → lent_read read ps ≡ behind done (lent_read read (drop i ps))
    → None ≡ lent_read read ps
read_none read ps i p done below is read_so so_far =
    sym (so_far ∙ ap (behind done) (lent_at read ps i p below is)
    ∙ ap (λ r. behind done (both r (lent_read read (drop (i + 1) ps)))) (sym read_so)
    ∙ behind_unread done (lent_read read (drop (i + 1) ps)))

-- all are read
pub read_all : {A : Type 0} (read : List Token → Option A) (ps : List (Bor (List Token))) (i : ℕ) (done : List A)
    → length ps ≤ i → lent_read read ps ≡ behind done (lent_read read (drop i ps)) → Some done ≡ lent_read read ps
read_all read ps i done past so_far =
    sym (so_far ∙ ap (λ qs. behind done (lent_read read qs)) (drop_all i ps past) ∙ ap Some (append-nil done))

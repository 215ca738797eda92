-- What the moves of the machine keep.
use Rattle.std.proofs.Common.{◌≡◌, refl, Bool, true, false, cond, ◌&&◌, ◌||◌, Some, None, List, [], ◌∷◌, ◌++◌, ap, sym, ◌∙◌, subst, append_assoc}
use Rattle.std.proofs.lemmas.List.{append-nil}
use Rattle.std.proofs.lemmas.Bool.{false≢true, cond-true, cond-false}
use Rattle.weld_grammar.specs.declared.terminals.class.Class.{Class}
use Rattle.weld_grammar.specs.declared.terminal.Terminal.{Terminal}
use Rattle.weld_grammar.specs.declared.rule.Rule.{Rule}
use Rattle.weld_grammar.specs.declared.item.Item.{Item}
use Rattle.weld_grammar.specs.declared.item.Item.TheVariants.{One, Part as OfRule, Optional, Repeated}
use Rattle.weld_grammar.specs.Grammar.{Part, item, all_of, one_of, body, is_of}
use Rattle.weld_grammar.specs.Begins.{begins, nullable}
use Rattle.weld_grammar.specs.Pending.{first_begun, behind, depth, step, can_end}
use Rattle.weld_grammar.specs.Apart.{any_begins}
use Rattle.weld_grammar.specs.Derivation.{Tree, leaf, node, empty, pair, here, there, yield, IsOf, Unbegun}
use Rattle.weld_accept.specs.declared.step.Step.{Step}
use Rattle.weld_accept.specs.declared.step.Step.TheVariants.{Shift, Reduce}
use Rattle.weld_accept.specs.declared.entry.Entry.{Entry}
use Rattle.weld_accept.specs.declared.entry.Entry.TheVariants.{Due, End}
use Rattle.weld_accept.specs.Derived.{steps, IsDerivation}
use Rattle.weld_accept.specs.Machine.{due, items_of, Makes, Opened, Moves, Opens}

-- ---- what is opened

-- a token that is the terminal
pub opened_one : (a : Terminal) (x : Class) (s : List Entry) (ss : List Step) (ys : List Class) → is_of a x ≡ true → Makes s ss ys → Opened (item (One a)) x s (Shift a ∷ ss) ys
opened_one a x s ss ys h m = record { tree = leaf x; tree_of = h; others = []; begun = refl; rest = ss; behind = ys; is = refl; tokens = refl; made = m }

opened_optional : (q : Rule) (x : Class) (s : List Entry) (ss : List Step) (ys : List Class) → Opened (item (OfRule q)) x s ss ys → Opened (item (Optional q)) x s ss ys
opened_optional q x s ss ys o = record { tree = here o.tree; tree_of = o.tree_of; others = o.others; begun = o.begun; rest = o.rest; behind = o.behind; is = o.is; tokens = o.tokens; made = o.made }

opened_repeated : (q : Rule) (x : Class) (s : List Entry) (ss : List Step) (ys : List Class) → Opened (item (OfRule q)) x (Due (Repeated q) ∷ s) ss ys → Opened (item (Repeated q)) x s ss ys
opened_repeated q x s ss ys o =
    let u = o.made.0 in
    record {
      tree = pair o.tree u;
      tree_of = (o.tree_of, o.made.3);
      others = o.others ++ yield u;
      begun = ap (λ z. z ++ yield u) o.begun;
      rest = o.made.1;
      behind = o.made.2;
      is = o.is ∙ ap (λ z. steps (item (OfRule q)) o.tree ++ z) o.made.4 ∙ sym (append_assoc (steps (item (OfRule q)) o.tree) (steps (item (Repeated q)) u) o.made.1);
      tokens = o.tokens ∙ ap (λ z. o.others ++ z) o.made.5 ∙ sym (append_assoc o.others (yield u) o.made.2);
      made = o.made.6;
    }

-- a tree of these items in a row, and what the entries behind them come to
record Row (items : List Item) (s : List Entry) (ss : List Step) (ys : List Class) : Type 0 where
  pub tree : Tree Class
  pub tree_of : IsOf (all_of items) tree
  pub rest : List Step
  pub behind : List Class
  pub is : ss ≡ steps (all_of items) tree ++ rest
  pub tokens : ys ≡ yield tree ++ behind
  pub made : Makes s rest behind

row_of : (items : List Item) (s : List Entry) (ss : List Step) (ys : List Class) → Makes (due items ++ s) ss ys → Row items s ss ys
row_of [] s ss ys m = record { tree = empty; tree_of = tt; rest = ss; behind = ys; is = refl; tokens = refl; made = m }
row_of (i ∷ items) s ss ys m =
    let t = m.0 in
    let row = row_of items s m.1 m.2 m.6 in
    record {
      tree = pair t row.tree;
      tree_of = (m.3, row.tree_of);
      rest = row.rest;
      behind = row.behind;
      is = m.4 ∙ ap (λ z. steps (item i) t ++ z) row.is ∙ sym (append_assoc (steps (item i) t) (steps (all_of items) row.tree) row.rest);
      tokens = m.5 ∙ ap (λ z. yield t ++ z) row.tokens ∙ sym (append_assoc (yield t) (yield row.tree) row.behind);
      made = row.made;
    }

opened_row : (i : Item) (items : List Item) (x : Class) (s : List Entry) (ss : List Step) (ys : List Class) → Opened (item i) x (due items ++ s) ss ys → Opened (all_of (i ∷ items)) x s ss ys
opened_row i items x s ss ys o =
    let row = row_of items s o.rest o.behind o.made in
    record {
      tree = pair o.tree row.tree;
      tree_of = (o.tree_of, row.tree_of);
      others = o.others ++ yield row.tree;
      begun = ap (λ z. z ++ yield row.tree) o.begun;
      rest = row.rest;
      behind = row.behind;
      is = o.is ∙ ap (λ z. steps (item i) o.tree ++ z) row.is ∙ sym (append_assoc (steps (item i) o.tree) (steps (all_of items) row.tree) row.rest);
      tokens = o.tokens ∙ ap (λ z. o.others ++ z) row.tokens ∙ sym (append_assoc o.others (yield row.tree) row.behind);
      made = row.made;
    }

opened_here : (i : Item) (rest : List Item) (x : Class) (s : List Entry) (ss : List Step) (ys : List Class) → Opened (item i) x s ss ys → Opened (one_of (i ∷ rest)) x s ss ys
opened_here i rest x s ss ys o = record { tree = here o.tree; tree_of = o.tree_of; others = o.others; begun = o.begun; rest = o.rest; behind = o.behind; is = o.is; tokens = o.tokens; made = o.made }

unbegun_front : (i : Item) (x : Class) (ys zs : List Class) → zs ≡ x ∷ ys → begins i x ≡ false → Unbegun i zs
unbegun_front i x ys zs e h = let P : List Class → Type 0 = Unbegun i in subst P (sym e) h

opened_there : (i : Item) (rest : List Item) (x : Class) (s : List Entry) (ss : List Step) (ys : List Class) → begins i x ≡ false → Opened (one_of rest) x s ss ys → Opened (one_of (i ∷ rest)) x s ss ys
opened_there i rest x s ss ys h o = record { tree = there o.tree; tree_of = (o.tree_of, unbegun_front i x o.others (yield o.tree) o.begun h); others = o.others; begun = o.begun; rest = o.rest; behind = o.behind; is = o.is; tokens = o.tokens; made = o.made }

opened_choice : (choices : List Item) (x : Class) (s : List Entry) (ss : List Step) (ys : List Class) → any_begins choices x ≡ true → Opened (item (first_begun choices x)) x s ss ys → Opened (one_of choices) x s ss ys
opened_choice [] x s ss ys h o = absurd (false≢true h)
opened_choice (i ∷ rest) x s ss ys h o = cases (begins i x) refl (opened_choice rest x s ss ys)
  where
    cases : (b : Bool) → begins i x ≡ b → (any_begins rest x ≡ true → Opened (item (first_begun rest x)) x s ss ys → Opened (one_of rest) x s ss ys) → Opened (one_of (i ∷ rest)) x s ss ys
    cases true e ih = let P : Item → Type 0 = λ j. Opened (item j) x s ss ys in opened_here i rest x s ss ys (subst P (cond-true (begins i x) i (first_begun rest x) e) o)
    cases false e ih = let P : Item → Type 0 = λ j. Opened (item j) x s ss ys in opened_there i rest x s ss ys e (ih (sym (ap (λ b. b || any_begins rest x) e) ∙ h) (subst P (cond-false (begins i x) i (first_begun rest x) e) o))

-- a rule's tree has its body's, and then the rule ends
opened_body : (q : Rule) (x : Class) (s : List Entry) (ss : List Step) (ys : List Class) → Opened (body q) x (End q ∷ s) ss ys → Opened (item (OfRule q)) x s ss ys
opened_body q x s ss ys o =
    record {
      tree = node o.tree;
      tree_of = o.tree_of;
      others = o.others;
      begun = o.begun;
      rest = o.made.0;
      behind = o.behind;
      is = o.is ∙ ap (λ z. steps (body q) o.tree ++ z) o.made.1 ∙ sym (append_assoc (steps (body q) o.tree) (Reduce q ∷ []) o.made.0);
      tokens = o.tokens;
      made = o.made.2;
    }

opened_rule : (p : Part) (q : Rule) (x : Class) (s : List Entry) (ss : List Step) (ys : List Class) → p ≡ body q → Opened p x (End q ∷ s) ss ys → Opened (item (OfRule q)) x s ss ys
opened_rule p q x s ss ys e o = let P : Part → Type 0 = λ z. Opened z x (End q ∷ s) ss ys in opened_body q x s ss ys (subst P e o)

-- ---- the ways to open

pub opens_one : (a : Terminal) (x : Class) (s : List Entry) (old new : List Step) → is_of a x ≡ true → new ≡ old ++ Shift a ∷ [] → Opens (One a) x s old s new
opens_one a x s old new h e = record { taken = Shift a ∷ []; is = e; opened = λ ss ys m. opened_one a x s ss ys h m }

pub opens_optional : (q : Rule) (x : Class) (s : List Entry) (old : List Step) (t : List Entry) (new : List Step) → Opens (OfRule q) x s old t new → Opens (Optional q) x s old t new
opens_optional q x s old t new o = record { taken = o.taken; is = o.is; opened = λ ss ys m. opened_optional q x s (o.taken ++ ss) ys (o.opened ss ys m) }

pub opens_repeated : (q : Rule) (x : Class) (s : List Entry) (old : List Step) (t : List Entry) (new : List Step) → Opens (OfRule q) x (Due (Repeated q) ∷ s) old t new → Opens (Repeated q) x s old t new
opens_repeated q x s old t new o = record { taken = o.taken; is = o.is; opened = λ ss ys m. opened_repeated q x s (o.taken ++ ss) ys (o.opened ss ys m) }

pub opens_choice : (q : Rule) (choices : List Item) (x : Class) (s : List Entry) (old : List Step) (t : List Entry) (new : List Step) → one_of choices ≡ body q → any_begins choices x ≡ true → Opens (first_begun choices x) x (End q ∷ s) old t new → Opens (OfRule q) x s old t new
opens_choice q choices x s old t new e h o = record { taken = o.taken; is = o.is; opened = λ ss ys m. opened_rule (one_of choices) q x s (o.taken ++ ss) ys e (opened_choice choices x (End q ∷ s) (o.taken ++ ss) ys h (o.opened ss ys m)) }

pub opens_row : (q : Rule) (i : Item) (items : List Item) (x : Class) (s : List Entry) (old : List Step) (t : List Entry) (new : List Step) → all_of (i ∷ items) ≡ body q → Opens i x (due items ++ End q ∷ s) old t new → Opens (OfRule q) x s old t new
opens_row q i items x s old t new e o = record { taken = o.taken; is = o.is; opened = λ ss ys m. opened_rule (all_of (i ∷ items)) q x s (o.taken ++ ss) ys e (opened_row i items x (End q ∷ s) (o.taken ++ ss) ys (o.opened ss ys m)) }

-- ---- moves

pub stays : (s : List Entry) (old : List Step) → Moves s old [] s old
stays s old = record { taken = []; is = sym (append-nil old); made = λ ss ys m. m }

-- one move behind others
pub onward : (s t u : List Entry) (old mid new : List Step) (xs ys : List Class) → Moves s old xs t mid → Moves t mid ys u new → Moves s old (xs ++ ys) u new
onward s t u old mid new xs ys a b = record {
  taken = a.taken ++ b.taken;
  is = b.is ∙ ap (λ z. z ++ b.taken) a.is ∙ append_assoc old a.taken b.taken;
  made = λ ss zs m.
      let P : List Step → Type 0 = λ z. Makes s z ((xs ++ ys) ++ zs) in
      let Q : List Class → Type 0 = λ z. Makes s (a.taken ++ (b.taken ++ ss)) z in
      subst P (sym (append_assoc a.taken b.taken ss)) (subst Q (sym (append_assoc xs ys zs)) (a.made (b.taken ++ ss) (ys ++ zs) (b.made ss zs m)));
}

-- a rule ends
pub ends : (q : Rule) (s : List Entry) (old new : List Step) → new ≡ old ++ Reduce q ∷ [] → Moves (End q ∷ s) old [] s new
ends q s old new e = record { taken = Reduce q ∷ []; is = e; made = λ ss ys m. (ss, refl, m) }

nothing : (i : Item) → nullable i ≡ true → (t : Tree Class) × IsOf (item i) t × (yield t ≡ []) × (steps (item i) t ≡ [])
nothing (One a) h = absurd (false≢true h)
nothing (OfRule q) h = absurd (false≢true h)
nothing (Optional q) h = (empty, tt, refl, refl)
nothing (Repeated q) h = (empty, tt, refl, refl)

-- an item that can be empty is left out
pub skips : (i : Item) (s : List Entry) (old : List Step) → nullable i ≡ true → Moves (Due i ∷ s) old [] s old
skips i s old h =
    let none = nothing i h in
    record {
      taken = [];
      is = sym (append-nil old);
      made = λ ss ys m. (none.0, ss, ys, none.1, ap (λ z. z ++ ss) (sym none.3), ap (λ z. z ++ ys) (sym none.2), m);
    }

-- an item is opened
pub begins_so : (i : Item) (x : Class) (s : List Entry) (old : List Step) (t : List Entry) (new : List Step) → Opens i x s old t new → Moves (Due i ∷ s) old (x ∷ []) t new
begins_so i x s old t new o = record {
  taken = o.taken;
  is = o.is;
  made = λ ss ys m.
      let p = o.opened ss ys m in
      (p.tree, p.rest, p.behind, p.tree_of, p.is, ap (λ z. x ∷ z) p.tokens ∙ ap (λ z. z ++ p.behind) (sym p.begun), p.made);
}

-- where all that was pending has ended, the steps are those of a tree
pub derived : (q : Rule) (xs : List Class) (new : List Step) → Moves (Due (OfRule q) ∷ []) [] xs [] new → IsDerivation q xs new
derived q xs new m =
    let p = m.made [] [] (refl, refl) in
    record {
      tree = p.0;
      tree_of = p.3;
      tokens = sym (append-nil (yield p.0)) ∙ ap (λ z. yield p.0 ++ z) (sym p.6.1) ∙ sym p.5 ∙ append-nil xs;
      is = sym (append-nil (steps (item (OfRule q)) p.0)) ∙ ap (λ z. steps (item (OfRule q)) p.0 ++ z) (sym p.6.0) ∙ sym p.4 ∙ append-nil m.taken ∙ sym m.is;
    }

pub opens_same : (i j : Item) (x : Class) (s u : List Entry) (old : List Step) (t : List Entry) (new : List Step) → i ≡ j → s ≡ u → Opens i x s old t new → Opens j x u old t new
opens_same i j x s u old t new e k o =
    let P : Item → Type 0 = λ z. Opens z x u old t new in
    let Q : List Entry → Type 0 = λ z. Opens i x z old t new in
    subst P e (subst Q k o)

-- an item in front that can be empty is left out
pub skipped : (s u t : List Entry) (i : Item) (old new : List Step) → u ≡ Due i ∷ t → nullable i ≡ true → Moves s old [] u new → Moves s old [] t new
skipped s u t i old new e h m =
    let P : List Entry → Type 0 = λ z. Moves s old [] z new in
    onward s (Due i ∷ t) t old new new [] [] (subst P e m) (skips i t new h)

-- what is pending then, at a token that doesn't begin the item
pub skipped_step : (u t : List Entry) (i : Item) (x : Class) → u ≡ Due i ∷ t → begins i x ≡ false → nullable i ≡ true → step (items_of t) x ≡ step (items_of u) x
skipped_step u t i x e b h = sym (ap (λ z. step (items_of z) x) e ∙ cond-false (begins i x) (Some (behind depth (item i) x (items_of t))) (cond (nullable i) (step (items_of t) x) None) b ∙ cond-true (nullable i) (step (items_of t) x) None h)

-- whether all that is pending then can be empty
pub skipped_end : (u t : List Entry) (i : Item) → u ≡ Due i ∷ t → nullable i ≡ true → can_end (items_of t) ≡ can_end (items_of u)
skipped_end u t i e h = sym (ap (λ z. can_end (items_of z)) e ∙ ap (λ b. b && can_end (items_of t)) h)

-- one move behind others, where the tokens are known by another name
pub onward_over : (s t u : List Entry) (old mid new : List Step) (xs ys zs : List Class) → zs ≡ xs ++ ys → Moves s old xs t mid → Moves t mid ys u new → Moves s old zs u new
onward_over s t u old mid new xs ys zs e a b = let P : List Class → Type 0 = λ z. Moves s old z u new in subst P (sym e) (onward s t u old mid new xs ys a b)

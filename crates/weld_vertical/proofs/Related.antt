-- What an expression is in its place it is in each place where its free names stand for the same; and a `let` in its place.
use Rattle.std.proofs.Common.{◌≡◌, ◌≢◌, ℕ, ◌||◌, ◌∷◌, ap, sym, subst}
use Rattle.weld_tree.specs.declared.binder.Binder.{Binder}
use Rattle.weld_tree.specs.declared.known.Known.TheVariants.{Is}
use Rattle.weld_tree.specs.TypeTree.{TypeTree}
use Rattle.weld_tree.specs.ExprTree.{At, ExprTree, let_in}
use Rattle.weld_meaning.specs.Environment.{Named}
use Rattle.weld_meaning.specs.Typing.{Types, AreFormed, NoteFits, HasType}
use Rattle.weld_meaning.specs.Origin.{Path, Origin, origin}
use Rattle.weld_meaning.specs.Linear.{Keeps}
use Rattle.weld_meaning.specs.Available.{Apart, TakesAll, takes, without, Splits}
use Rattle.weld_meaning.specs.Names.{IsFree, AgreeOn}
use Rattle.weld_meaning.proofs.FreeNames.{type_free, keeps_free, splits_free}
use Rattle.weld_meaning.specs.Forms.{NamesHaveForms}
use Rattle.weld_rewriting.specs.Placed.{IsPlaced}
use Rattle.weld_substitution.proofs.PutTypes.{noted_free}

-- a binder of the producer's body that gets in nobody's way: it isn't the producer's builder or row number, the consumer's builder
-- or row number, and isn't free in the consumer's body
abbrev pub IsAside : ℕ → ℕ → ℕ → ℕ → ExprTree → ℕ → Type 0
IsAside d b i n f z = (z ≢ d) × (z ≢ b) × (z ≢ i) × (z ≢ n) × (IsFree f z → ⊥)

-- names other than both builders
abbrev pub IsElse : ℕ → ℕ → ℕ → Type 0
IsElse d b t = (t ≢ d) × (t ≢ b)

-- the names that the consumer's body has from around its row and row number
abbrev pub IsBehind : ExprTree → ℕ → ℕ → ℕ → Type 0
IsBehind f x n t = IsFree f t × (t ≢ x) × (t ≢ n)

pub placed_free : (e : ExprTree) (h k : Types) (p q : Named Origin) (t : TypeTree) → AgreeOn (IsFree e) h k → AgreeOn (IsFree e) p q → AreFormed k → NamesHaveForms q k → IsPlaced e h p t → IsPlaced e k q t
placed_free e h k p q t a b w n r = record {
  formed = w;
  forms = n;
  typed = type_free e h k t a r.typed;
  keeps = keeps_free e p q b r.keeps;
  splits = splits_free e p q b r.splits;
  noted = noted_free e h k a r.noted;
}

-- a `let` in its place, by its value and its body in theirs
pub let_placed : (a : At) (z : Binder) (v g : ExprTree) (h : Types) (p : Named Origin) (u t : TypeTree) (o : Origin) → origin v p ≡ o → a.ty ≡ Is t → NoteFits z.note u → IsPlaced v h p u → IsPlaced g ((z.sym.0, u) ∷ h) ((z.sym.0, o) ∷ p) t → Apart (takes v p) (without z.sym.0 (takes g ((z.sym.0, o) ∷ p))) → TakesAll z.sym.0 o (takes g ((z.sym.0, o) ∷ p)) → IsPlaced (let_in a z v g) h p t
let_placed a z v g h p u t o from note fits r w apart all =
    let typed : HasType (let_in a z v g) h t = (u, r.typed, fits, w.typed) in
    record {
      formed = r.formed;
      forms = r.forms;
      typed = typed;
      keeps = (r.keeps, subst (λ y. Keeps g ((z.sym.0, y) ∷ p)) (sym from) w.keeps);
      splits = (
        r.splits,
        subst (λ y. Splits g ((z.sym.0, y) ∷ p)) (sym from) w.splits,
        subst (λ y. Apart (takes v p) (without z.sym.0 (takes g ((z.sym.0, y) ∷ p)))) (sym from) apart,
        subst (λ y. TakesAll z.sym.0 y (takes g ((z.sym.0, y) ∷ p))) (sym from) all,
      );
      noted = (r.noted, (u, r.typed, w.noted), (t, note, typed));
    }

-- what it takes
pub let_taken : (a : At) (z : Binder) (v g : ExprTree) (p : Named Origin) (o : Origin) → origin v p ≡ o → (s : ℕ) (q : Path) → takes (let_in a z v g) p s q ≡ (takes v p s q || without z.sym.0 (takes g ((z.sym.0, o) ∷ p)) s q)
let_taken a z v g p o from s q = ap (λ y. takes v p s q || without z.sym.0 (takes g ((z.sym.0, y) ∷ p)) s q) from

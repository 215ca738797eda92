-- A plain value of builder-free type, put in a name's place: nothing is taken otherwise, and the rules are kept.
use Rattle.std.proofs.Common.{◌≡◌, ◌≢◌, ℕ, if◌then◌else◌, Bool, true, false, [], ◌∷◌, Option, Some, option_map, None, refl, ap, sym, subst, ◌∙◌, eq-eqb, ne_eqb}
use Rattle.weld_tree.specs.declared.binder.Binder.{Binder}
use Rattle.weld_tree.specs.ExprTree.{At, ExprTree, leaf, one, name, field}
use Rattle.weld_meaning.specs.Environment.{Named, look_for}
use Rattle.weld_meaning.specs.Origin.{Path, Origin, value, known_origin, origin_of_name, origin, own_paths, from_within, outside, in_body, in_turn, by_name, named_below}
use Rattle.weld_meaning.specs.Linear.{IsSeen, Keeps}
use Rattle.weld_meaning.specs.Available.{chain_of_one, chain_of, chain_takes, takes, Splits}
use Rattle.weld_meaning.specs.Names.{IsFree, put, Binds, IsClear}
use Rattle.weld_meaning.proofs.Before.{origin_outside}
use Rattle.weld_rewriting.proofs.Forms.{chain_field, chain_takes_none, takes_chain}
use Rattle.weld_substitution.specs.Redex.{is_plain}
use Rattle.weld_substitution.proofs.Bindings.{Binding, binding_behind, binding_outside, binding_by_name, look_for-by_name}
use Rattle.weld_substitution.proofs.PutOrigins.{origin_put}
use Rattle.weld_substitution.proofs.Chains.{chain_by, chain_named, chain_origin, chain_keeps, chain_apart, plain_by}

-- ---- a value whose free names are values

pub record Idle (v : ExprTree) (g : Named Origin) : Type 0 where
  pub idle : (t : ℕ) → IsFree v t → origin_of_name t g ≡ value

pub record IsIdle (v : ExprTree) : Type 0 where
  pub from : (g : Named Origin) → Idle v g → origin v g ≡ value
  pub none : (g : Named Origin) → Idle v g → (s : ℕ) (q : Path) → takes v g s q ≡ false
  pub keeps : (g : Named Origin) → Idle v g → Keeps v g
  pub splits : (g : Named Origin) → Idle v g → Splits v g

seen_value : (o : Origin) → o ≡ value → IsSeen o
seen_value o e = subst IsSeen (sym e) tt

pub plain_idle : (v : ExprTree) → is_plain v ≡ true → IsIdle v
plain_idle v h =
    plain_by IsIdle
    (λ a k x. record { from = λ g i. refl; none = λ g i s q. refl; keeps = λ g i. tt; splits = λ g i. tt })
    (λ a b. record { from = λ g i. refl; none = λ g i s q. refl; keeps = λ g i. tt; splits = λ g i. tt })
    (λ w c e. record {
      from = λ g i. chain_origin g w c e (i.idle c.0 (chain_named w c e));
      none = λ g i s q. takes_chain w c g s q false e ∙ chain_takes_none c g s q false (i.idle c.0 (chain_named w c e));
      keeps = λ g i. chain_keeps g w c e (seen_value (origin_of_name c.0 g) (i.idle c.0 (chain_named w c e)));
      splits = λ g i. chain_apart g w c e;
    })
    v h

-- the name stands for a value, and so does that of the value that is put there
pub record Still (s : ℕ) (v : ExprTree) (g h : Named Origin) : Type 0 where
  pub binding : Binding s value g h
  pub idle : Idle v g

pub look_behind : (x b : ℕ) (y : Origin) (g : Named Origin) → x ≢ b → origin_of_name x ((b, y) ∷ g) ≡ origin_of_name x g
look_behind x b y g ne = rw (ne_eqb x b ne) refl

idle_behind : (v : ExprTree) (b : ℕ) (y : Origin) (g : Named Origin) → ¬ (IsFree v b) → Idle v g → Idle v ((b, y) ∷ g)
idle_behind v b y g nf i = record { idle = λ t f. look_behind t b y g (λ k. nf (subst (IsFree v) k f)) ∙ i.idle t f }

pub still_behind : (s : ℕ) (v : ExprTree) (g h : Named Origin) (b : ℕ) (y : Origin) → IsClear s v b → Still s v g h → Still s v ((b, y) ∷ g) ((b, y) ∷ h)
still_behind s v g h b y c r = record { binding = binding_behind s value g h b y c.0 r.binding; idle = idle_behind v b y g c.1 r.idle }

pub still_outside : (s : ℕ) (v : ExprTree) (g h : Named Origin) → Still s v g h → Still s v (outside g) (outside h)
still_outside s v g h r = record {
  binding = binding_outside s value g h r.binding;
  idle = record { idle = λ t f. origin_outside t g ∙ ap from_within (r.idle.idle t f) };
}

named_value : (x : ℕ) (m : Option Origin) → known_origin m ≡ value → known_origin (option_map (named_below x []) m) ≡ value
named_value x (Some o) e = ap (named_below x []) e
named_value x None e = refl

pub still_by_name : (s : ℕ) (v : ExprTree) (g h : Named Origin) → Still s v g h → Still s v (by_name g) (by_name h)
still_by_name s v g h r = record {
  binding = binding_by_name s value g h r.binding;
  idle = record { idle = λ t f. ap known_origin (look_for-by_name t g) ∙ named_value t (look_for t g) (r.idle.idle t f) };
}

pub still_in_body : (s : ℕ) (v : ExprTree) (g h : Named Origin) (b n x : Binder) (o : Origin) → IsClear s v b.sym.0 → IsClear s v n.sym.0 → IsClear s v x.sym.0 → Still s v g h → Still s v (in_body b n x o g) (in_body b n x o h)
still_in_body s v g h b n x o cb cn cx r =
    still_behind s v _ _ x.sym.0 value cx (still_behind s v _ _ n.sym.0 value cn (still_behind s v _ _ b.sym.0 (own_paths o) cb (still_outside s v g h r)))

pub still_in_turn : (s : ℕ) (v : ExprTree) (g h : Named Origin) (b : Binder) → IsClear s v b.sym.0 → Still s v g h → Still s v (in_turn b g) (in_turn b h)
still_in_turn s v g h b cb r = still_behind s v _ _ b.sym.0 value cb (still_outside s v g h r)

pub from_still : (s : ℕ) (v : ExprTree) → IsIdle v → (e : ExprTree) (g h : Named Origin) → Binds (IsClear s v) e → Still s v g h → origin (put s v e) g ≡ origin e h
from_still s v w e g h c r = origin_put e s v value g h c r.binding (w.from g r.idle)

-- ---- what is taken

-- a chain on the name takes none, before and after
pub chain_after : (s : ℕ) (v : ExprTree) → IsIdle v → (g : Named Origin) → Idle v g → (e : ExprTree) (c : ℕ × Path) → chain_of e ≡ Some c → s ≡ c.0 → ((d : ℕ × Path) → chain_of (put s v e) ≡ Some d → origin_of_name d.0 g ≡ value) × ((t : ℕ) (q : Path) → takes (put s v e) g t q ≡ false)
chain_after s v w g i e c k = chain_by P at_name at_field e c k
  where
    P : ExprTree → ℕ × Path → Type 0
    P x y = s ≡ y.0 → ((d : ℕ × Path) → chain_of (put s v x) ≡ Some d → origin_of_name d.0 g ≡ value) × ((t : ℕ) (q : Path) → takes (put s v x) g t q ≡ false)

    at_name : (a : At) (x : ℕ) → s ≡ x → ((d : ℕ × Path) → chain_of (put s v (leaf a (name x))) ≡ Some d → origin_of_name d.0 g ≡ value) × ((t : ℕ) (q : Path) → takes (put s v (leaf a (name x))) g t q ≡ false)
    at_name a x e = (
      (λ d f. i.idle d.0 (chain_named v d (subst (λ b. chain_of (if b then v else leaf a (name x)) ≡ Some d) (eq-eqb s x e) f))),
      (λ t q. ap (λ b. takes (if b then v else leaf a (name x)) g t q) (eq-eqb s x e) ∙ w.none g i t q),
    )

    field_none : (n : ℕ) (m : Option (ℕ × Path)) (t : ℕ) (q : Path) (part : Bool) → ((d : ℕ × Path) → m ≡ Some d → origin_of_name d.0 g ≡ value) → part ≡ false → chain_takes (chain_of_one (field n) m) g t q part ≡ false
    field_none n (Some d) t q part f p = chain_takes_none (d.0, n ∷ d.1) g t q part (f d refl)
    field_none n None t q part f p = p

    field_name : (n : ℕ) (m : Option (ℕ × Path)) (d : ℕ × Path) → chain_of_one (field n) m ≡ Some d → ((y : ℕ × Path) → m ≡ Some y → origin_of_name y.0 g ≡ value) → origin_of_name d.0 g ≡ value
    field_name n m d p f = let k = chain_field n m d p in subst (λ (y : ℕ × Path). origin_of_name y.0 g ≡ value) (sym k.2) (f k.0 k.1)

    at_field : (a : At) (n : ℕ) (x : ExprTree) (y : ℕ × Path) → chain_of x ≡ Some y → P x y → P (one a (field n) x) (y.0, n ∷ y.1)
    at_field a n x y m f e = (
      (λ d p. field_name n (chain_of (put s v x)) d p (f e).0),
      (λ t q. field_none n (chain_of (put s v x)) t q (takes (put s v x) g t q) (f e).0 ((f e).1 t q)),
    )

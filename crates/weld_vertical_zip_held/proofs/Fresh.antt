-- What isn't bound again within is none of its binders.
use Rattle.std.proofs.Common.{◌≡◌, ◌≢◌, ℕ, ◌==◌, Bool, true, false, ◌||◌, eq-eqb, refl, ◌∙◌, sym}
use Rattle.weld_tree.specs.ExprTree.{ExprTree, leaf, one, two, three, many, let_in, loop, iterate, ExprTrees, no_exprs, more_exprs, LegTree, whole, strided, LegTrees, no_legs, more_legs}
use Rattle.weld_meaning.specs.Names.{Binds, AllBind, LegBinds, LegsBind}
use Rattle.weld_vertical_zip_held.specs.Rule.{rebinds, some_rebind, leg_rebinds, legs_rebind}

neither : (a b : Bool) → (a || b) ≡ false → (a ≡ false) × (b ≡ false)
neither true b h = let nothing : ⊥ = cc in absurd nothing
neither false b h = (refl, h)

other : (s t : ℕ) → (s == t) ≡ false → s ≢ t
other s t h e = let both : true ≡ false = sym (eq-eqb s t e) ∙ h in let nothing : ⊥ = cc in nothing

module _ (s : ℕ) where
  abbrev Other : ℕ → Type 0
  Other z = s ≢ z

  mutual
    pub binds_other : (e : ExprTree) → rebinds s e ≡ false → Binds Other e
    binds_other (leaf a l) h = tt
    binds_other (one a o e) h = binds_other e h
    binds_other (two a o e f) h = let k = neither (rebinds s e) (rebinds s f) h in (binds_other e k.0, binds_other f k.1)
    binds_other (three a o e f g) h =
        let k = neither (rebinds s e) (rebinds s f || rebinds s g) h in let j = neither (rebinds s f) (rebinds s g) k.1 in (binds_other e k.0, binds_other f j.0, binds_other g j.1)
    binds_other (many a o es) h = all_bind_other es h
    binds_other (let_in a b e f) h =
        let k = neither (s == b.sym.0) (rebinds s e || rebinds s f) h in let j = neither (rebinds s e) (rebinds s f) k.1 in
        (other s b.sym.0 k.0, binds_other e j.0, binds_other f j.1)
    binds_other (loop a ls e b n x f) h =
        let k = neither ((s == b.sym.0) || ((s == n.sym.0) || (s == x.sym.0))) (legs_rebind s ls || (rebinds s e || rebinds s f)) h in
        let y = neither (s == b.sym.0) ((s == n.sym.0) || (s == x.sym.0)) k.0 in
        let z = neither (s == n.sym.0) (s == x.sym.0) y.1 in
        let l = neither (legs_rebind s ls) (rebinds s e || rebinds s f) k.1 in
        let j = neither (rebinds s e) (rebinds s f) l.1 in
        (other s b.sym.0 y.0, other s n.sym.0 z.0, other s x.sym.0 z.1, legs_bind_other ls l.0, binds_other e j.0, binds_other f j.1)
    binds_other (iterate a e b f) h =
        let k = neither (s == b.sym.0) (rebinds s e || rebinds s f) h in let j = neither (rebinds s e) (rebinds s f) k.1 in
        (other s b.sym.0 k.0, binds_other e j.0, binds_other f j.1)

    all_bind_other : (es : ExprTrees) → some_rebind s es ≡ false → AllBind Other es
    all_bind_other no_exprs h = tt
    all_bind_other (more_exprs e es) h = let k = neither (rebinds s e) (some_rebind s es) h in (binds_other e k.0, all_bind_other es k.1)

    leg_binds_other : (l : LegTree) → leg_rebinds s l ≡ false → LegBinds Other l
    leg_binds_other (whole e) h = binds_other e h
    leg_binds_other (strided e f g j) h =
        let k = neither (rebinds s e) (rebinds s f || (rebinds s g || rebinds s j)) h in
        let y = neither (rebinds s f) (rebinds s g || rebinds s j) k.1 in
        let z = neither (rebinds s g) (rebinds s j) y.1 in
        (binds_other e k.0, binds_other f y.0, binds_other g z.0, binds_other j z.1)

    legs_bind_other : (ls : LegTrees) → legs_rebind s ls ≡ false → LegsBind Other ls
    legs_bind_other no_legs h = tt
    legs_bind_other (more_legs l ls) h = let k = neither (leg_rebinds s l) (legs_rebind s ls) h in (leg_binds_other l k.0, legs_bind_other ls k.1)

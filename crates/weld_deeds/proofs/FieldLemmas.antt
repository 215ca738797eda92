-- Rows of a struct of builders, field by field.
use Rattle.std.proofs.Common.{◌≡◌, ℕ, zero, suc, ◌+◌, ◌<◌, Box, Global, Result, Ok, Err, refl, sym, ap, subst, ◌∙◌, arith}
use Rattle.weld_data.specs.declared.stop.Stop.{Stop}
use Rattle.weld_data.specs.declared.stop.Stop.TheVariants.{Fault, Memory}
use Rattle.weld_builders.specs.Outcome.{Outcome, done, and_then, map_out}
use Rattle.weld_meaning.specs.Thing.{Thing, plain, building, several, Things, no_things, more_things, fields_of, first_of, rest_of}
use Rattle.weld_acts.specs.Act.{Acts}
use Rattle.weld_deeds.specs.Calm.{IsCalm, AreCalm}
use Rattle.weld_deeds.specs.Deeds.{do_of, do_all, DeedFits, DeedsFit, DoesAll}
use Rattle.weld_deeds.specs.Through.{done_through, FitsThrough}
use Rattle.weld_deeds.specs.declared.deed.Deed.{Deed}
use Rattle.weld_deeds.specs.declared.deed.Deed as deed
use Rattle.weld_deeds.specs.declared.deed.Deeds.{Deeds}
use Rattle.weld_deeds.specs.declared.deed.Deeds as deeds
use Rattle.weld_deeds.proofs.ManyPuts.{put_done}

-- a box without what it holds
abbrev Shell : Type 0
Shell = Box (Unit {0}) Global

-- one row of the fields
row_done : (a b : Shell) (d : Deed) (ds : Deeds) (j : ℕ) (s t : Thing) (rest ts : Things) → do_of d j s ≡ done t → do_all ds j rest ≡ done ts → do_all (deeds.And' a d b ds) j (more_things s rest) ≡ done (more_things t ts)
row_done a b d ds j s t rest ts p q = ap (λ o. and_then o (λ u. map_out (more_things u) (do_all ds j rest))) p ∙ ap (map_out (more_things t)) q

mutual
  calm_done : (d : Deed) (j : ℕ) (s : Thing) → IsCalm d → DeedFits d j s → (t : Thing) × (do_of d j s ≡ done t)
  calm_done deed.Nothing j s calm h = (s, refl)
  calm_done (deed.Number c) j (plain v) calm h = absurd h.1
  calm_done (deed.Number c) j (building p) calm h = let q = put_done p _ _ h.1 in (building q.0, ap (map_out building) q.1)
  calm_done (deed.Number c) j (several ts) calm h = absurd h.1
  calm_done (deed.Pair c d) j s calm h = absurd calm
  calm_done (deed.Struct cs) j s calm h = absurd calm
  calm_done (deed.List cs) j s calm h = absurd calm
  calm_done (deed.Same u) j s calm h = absurd calm
  calm_done (deed.Choice' c a d b e) j s calm h = absurd calm
  calm_done (deed.Fields ds) j s calm h = let ts = calm_all ds j (fields_of s) calm h.1 in (several ts.0, ap (map_out several) ts.1)

  calm_all : (ds : Deeds) (j : ℕ) (ss : Things) → AreCalm ds → DeedsFit ds j ss → (ts : Things) × (do_all ds j ss ≡ done ts)
  calm_all deeds.End j ss calm h = (no_things, refl)
  calm_all (deeds.And' a d b ds) j ss calm h =
      let t = calm_done d j (first_of ss) calm.0 h.1 in
      let ts = calm_all ds j (rest_of ss) calm.1 h.2 in
      (more_things t.0 ts.0, ap (λ o. and_then o (λ u. map_out (more_things u) (do_all ds j (rest_of ss)))) t.1 ∙ ap (map_out (more_things t.0)) ts.1)

-- all rows of the first field, and then all of the others
pub record Splits (d : Deed) (ds : Deeds) (whole : Outcome Things) (j n : ℕ) (s : Thing) (rest : Things) : Type 0 where
  pub first : FitsThrough (do_of d) (DeedFits d) j n s
  pub others : FitsThrough (do_all ds) (DeedsFit ds) j n rest
  pub same : whole ≡ and_then (done_through (do_of d) j n s) (λ t. map_out (more_things t) (done_through (do_all ds) j n rest))

abbrev Whole : Shell → Deed → Shell → Deeds → ℕ → ℕ → Thing → Things → Outcome Things
Whole a d b ds j n s rest = done_through (do_all (deeds.And' a d b ds)) j n (more_things s rest)

splits : (n : ℕ) (a b : Shell) (d : Deed) (ds : Deeds) (j : ℕ) (s : Thing) (rest : Things) → IsCalm d → AreCalm ds → FitsThrough (do_all (deeds.And' a d b ds)) (DeedsFit (deeds.And' a d b ds)) j n (more_things s rest)
    → Splits d ds (Whole a d b ds j n s rest) j n s rest
splits zero a b d ds j s rest calm all h = record { first = tt; others = tt; same = refl }
splits (suc n) a b d ds j s rest calm all h =
    let t = calm_done d j s calm h.0.1 in
    let ts = calm_all ds j rest all h.0.2 in
    let step = row_done a b d ds j s t.0 rest ts.0 t.1 ts.1 in
    let next = splits n a b d ds (suc j) t.0 ts.0 calm all (h.1 (more_things t.0 ts.0) step) in record {
      first = (h.0.1, λ u q. let is : t.0 ≡ u = one t.0 u (sym t.1 ∙ q) in subst (FitsThrough (do_of d) (DeedFits d) (suc j) n) is next.first);
      others = (h.0.2, λ us q. let is : ts.0 ≡ us = several_one ts.0 us (sym ts.1 ∙ q) in subst (FitsThrough (do_all ds) (DeedsFit ds) (suc j) n) is next.others);
      same =
          ap (λ o. and_then o (λ v. done_through (do_all (deeds.And' a d b ds)) (suc j) n v)) step
          ∙ next.same
          ∙ sym (ap (λ o. and_then (and_then o (λ u. done_through (do_of d) (suc j) n u)) (λ u. map_out (more_things u) (and_then (do_all ds j rest) (λ v. done_through (do_all ds) (suc j) n v)))) t.1
          ∙ ap (λ o. and_then (done_through (do_of d) (suc j) n t.0) (λ u. map_out (more_things u) (and_then o (λ v. done_through (do_all ds) (suc j) n v)))) ts.1);
    }
  where
    one : (x y : Thing) → done x ≡ done y → x ≡ y
    one x y e = cc

    several_one : (x y : Things) → done x ≡ done y → x ≡ y
    several_one x y e = cc

-- ---- what the code asks

abbrev FitFields : Deeds → ℕ → Things → Type 0
FitFields ds n ss = FitsThrough (do_all ds) (DeedsFit ds) 0 n ss

-- there are fields as long as something is to be done
fields_there : (a b : Shell) (d : Deed) (ds : Deeds) (n : ℕ) (ss : Things) → 0 < n → FitFields (deeds.And' a d b ds) n ss → ss ≡ more_things (first_of ss) (rest_of ss)
fields_there a b d ds zero ss some h = absurd (omega (arith, some))
fields_there a b d ds (suc n) ss some h = h.0.0

split_of : (a b : Shell) (d : Deed) (ds : Deeds) (n : ℕ) (ss : Things) (s : Thing) (rest : Things) → ss ≡ more_things s rest → IsCalm d → AreCalm ds → FitFields (deeds.And' a d b ds) n ss
    → Splits d ds (done_through (do_all (deeds.And' a d b ds)) 0 n ss) 0 n s rest
split_of a b d ds n ss s rest is calm all h =
    let Here : Things → Type 0 = λ ts. Splits d ds (done_through (do_all (deeds.And' a d b ds)) 0 n ts) 0 n s rest in
    subst Here (sym is) (splits n a b d ds 0 s rest calm all (subst (FitFields (deeds.And' a d b ds) n) is h))

pub no_fields : (n : ℕ) (ss : Things) → 0 < n → FitFields deeds.End n ss → done_through (do_all deeds.End) 0 n ss ≡ done ss
no_fields zero ss some h = refl
no_fields (suc n) ss some h = subst (λ ts. done_through (do_all deeds.End) 0 (suc n) ts ≡ done ts) (sym h.0) (from 0 (suc n))
  where
    from : (j m : ℕ) → done_through (do_all deeds.End) j m no_things ≡ done no_things
    from j zero = refl
    from j (suc m) = from (suc j) m

pub more_there : (a b : Shell) (d : Deed) (ds : Deeds) (n : ℕ) → 0 < n → FitFields (deeds.And' a d b ds) n no_things → ⊥
more_there a b d ds n some h = let no : no_things ≡ more_things (first_of no_things) (rest_of no_things) = fields_there a b d ds n no_things some h in cc

pub first_fits : (a b : Shell) (d : Deed) (ds : Deeds) (n : ℕ) (ss : Things) (s : Thing) (rest : Things) → ss ≡ more_things s rest → IsCalm d → AreCalm ds → FitFields (deeds.And' a d b ds) n ss → FitsThrough (do_of d) (DeedFits d) 0 n s
first_fits a b d ds n ss s rest is calm all h = (split_of a b d ds n ss s rest is calm all h).first

pub others_fit : (a b : Shell) (d : Deed) (ds : Deeds) (n : ℕ) (ss : Things) (s : Thing) (rest : Things) → ss ≡ more_things s rest → IsCalm d → AreCalm ds → FitFields (deeds.And' a d b ds) n ss → FitFields ds n rest
others_fit a b d ds n ss s rest is calm all h = (split_of a b d ds n ss s rest is calm all h).others

-- the first field's stop is the whole's
pub first_stops : (T U : Type 0) (stop : Stop) (a b : Shell) (d : Deed) (ds : Deeds) (n : ℕ) (ss : Things) (s t : Thing) (rest us : Things) → ss ≡ more_things s rest → IsCalm d → AreCalm ds → FitFields (deeds.And' a d b ds) n ss
    → Acts {T = T} (Err stop) (done_through (do_of d) 0 n s) t → DoesAll {T = U} (Err stop) (done_through (do_all (deeds.And' a d b ds)) 0 n ss) us
first_stops T U Fault a b d ds n ss s t rest us is calm all h q =
    (split_of a b d ds n ss s rest is calm all h).same ∙ ap (λ o. and_then o (λ u. map_out (more_things u) (done_through (do_all ds) 0 n rest))) q
first_stops T U Memory a b d ds n ss s t rest us is calm all h q = tt

-- what comes of the others, once the first is done
pub others_do : {T : Type 0} (r : Result T Stop) (a b : Shell) (d : Deed) (ds : Deeds) (n : ℕ) (ss : Things) (s t : Thing) (rest us : Things) → ss ≡ more_things s rest → IsCalm d → AreCalm ds → FitFields (deeds.And' a d b ds) n ss
    → done_through (do_of d) 0 n s ≡ done t → DoesAll r (done_through (do_all ds) 0 n rest) us → DoesAll r (done_through (do_all (deeds.And' a d b ds)) 0 n ss) (more_things t us)
others_do (Ok x) a b d ds n ss s t rest us is calm all h p q =
    (split_of a b d ds n ss s rest is calm all h).same ∙ ap (λ o. and_then o (λ u. map_out (more_things u) (done_through (do_all ds) 0 n rest))) p ∙ ap (map_out (more_things t)) q
others_do (Err Fault) a b d ds n ss s t rest us is calm all h p q =
    (split_of a b d ds n ss s rest is calm all h).same ∙ ap (λ o. and_then o (λ u. map_out (more_things u) (done_through (do_all ds) 0 n rest))) p ∙ ap (map_out (more_things t)) q
others_do (Err Memory) a b d ds n ss s t rest us is calm all h p q = tt

-- ---- a struct of builders

pub record IsStruct (ds : Deeds) (whole : Outcome Thing) (j n : ℕ) (ss : Things) : Type 0 where
  pub fits : FitsThrough (do_all ds) (DeedsFit ds) j n ss
  pub same : whole ≡ map_out several (done_through (do_all ds) j n ss)

struct_of : (n : ℕ) (ds : Deeds) (j : ℕ) (ss : Things) → AreCalm ds → FitsThrough (do_of (deed.Fields ds)) (DeedFits (deed.Fields ds)) j n (several ss)
    → IsStruct ds (done_through (do_of (deed.Fields ds)) j n (several ss)) j n ss
struct_of zero ds j ss calm h = record { fits = tt; same = refl }
struct_of (suc n) ds j ss calm h =
    let ts = calm_all ds j ss calm h.0.1 in
    let step : do_of (deed.Fields ds) j (several ss) ≡ done (several ts.0) = ap (map_out several) ts.1 in
    let next = struct_of n ds (suc j) ts.0 calm (h.1 (several ts.0) step) in record {
      fits = (h.0.1, λ us q. let is : ts.0 ≡ us = several_one ts.0 us (sym ts.1 ∙ q) in subst (FitsThrough (do_all ds) (DeedsFit ds) (suc j) n) is next.fits);
      same =
          ap (λ o. and_then o (λ v. done_through (do_of (deed.Fields ds)) (suc j) n v)) step
          ∙ next.same
          ∙ sym (ap (λ o. map_out several (and_then o (λ v. done_through (do_all ds) (suc j) n v))) ts.1);
    }
  where
    several_one : (x y : Things) → done x ≡ done y → x ≡ y
    several_one x y e = cc

abbrev FitStruct : Deeds → ℕ → Thing → Type 0
FitStruct ds n s = FitsThrough (do_of (deed.Fields ds)) (DeedFits (deed.Fields ds)) 0 n s

-- the builder is a struct as long as something is to be done
pub struct_there : (ds : Deeds) (n : ℕ) (s : Thing) → 0 < n → FitStruct ds n s → (ss : Things) × (s ≡ several ss)
struct_there ds zero s some h = absurd (omega (arith, some))
struct_there ds (suc n) s some h = (fields_of s, h.0.0)

pub struct_fits : (ds : Deeds) (n : ℕ) (ss : Things) → AreCalm ds → FitStruct ds n (several ss) → FitFields ds n ss
struct_fits ds n ss calm h = (struct_of n ds 0 ss calm h).fits

pub struct_does : {T : Type 0} (r : Result T Stop) (ds : Deeds) (n : ℕ) (ss us : Things) → AreCalm ds → FitStruct ds n (several ss)
    → DoesAll r (done_through (do_all ds) 0 n ss) us → Acts r (done_through (do_of (deed.Fields ds)) 0 n (several ss)) (several us)
struct_does (Ok x) ds n ss us calm h q = (struct_of n ds 0 ss calm h).same ∙ ap (map_out several) q
struct_does (Err Fault) ds n ss us calm h q = (struct_of n ds 0 ss calm h).same ∙ ap (map_out several) q
struct_does (Err Memory) ds n ss us calm h q = tt

-- ---- the same over what the code has at hand

-- how many fields there are, at any depth
abbrev mutual
  pub fields_within : Deed → ℕ
  fields_within deed.Nothing = 0
  fields_within (deed.Number c) = 0
  fields_within (deed.Pair c d) = 0
  fields_within (deed.Struct cs) = 0
  fields_within (deed.List cs) = 0
  fields_within (deed.Same u) = 0
  fields_within (deed.Choice' c a d b e) = 0
  fields_within (deed.Fields ds) = suc (fields_count ds)

  pub fields_count : Deeds → ℕ
  fields_count deeds.End = 0
  fields_count (deeds.And' a d b ds) = suc (fields_within d + fields_count ds)

pub fewer : (x : Deeds) (a b : Shell) (d : Deed) (ds es : Deeds) → x ≡ deeds.And' a d b ds → es ≡ ds → fields_count es < fields_count x
fewer x a b d ds es is same = omega (arith, ap fields_count is, ap fields_count same)

pub fewer_within : (x : Deeds) (a b : Shell) (d e : Deed) (ds : Deeds) → x ≡ deeds.And' a d b ds → e ≡ d → fields_within e < fields_count x
fewer_within x a b d e ds is same = omega (arith, ap fields_count is, ap fields_within same)

pub fewer_fields : (x : Deed) (ds : Deeds) → x ≡ deed.Fields ds → fields_count ds < fields_within x
fewer_fields x ds is = omega (arith, ap fields_within is)

pub first_ready : (x : Deeds) (a b : Shell) (d e : Deed) (ds : Deeds) (n : ℕ) (ss : Things) (s t : Thing) (rest : Things) → x ≡ deeds.And' a d b ds → ss ≡ more_things s rest → e ≡ d → t ≡ s → AreCalm x → FitFields x n ss → FitsThrough (do_of e) (DeedFits e) 0 n t
first_ready x a b d e ds n ss s t rest is shape same at calm h =
    let k : AreCalm (deeds.And' a d b ds) = subst AreCalm is calm in
    let f : FitsThrough (do_of d) (DeedFits d) 0 n s = first_fits a b d ds n ss s rest shape k.0 k.1 (subst (λ y. FitFields y n ss) is h) in
    subst (λ (y : Deed). FitsThrough (do_of y) (DeedFits y) 0 n t) (sym same) (subst (FitsThrough (do_of d) (DeedFits d) 0 n) (sym at) f)

pub first_calm : (x : Deeds) (a b : Shell) (d e : Deed) (ds : Deeds) → x ≡ deeds.And' a d b ds → e ≡ d → AreCalm x → IsCalm e
first_calm x a b d e ds is same calm = let k : AreCalm (deeds.And' a d b ds) = subst AreCalm is calm in subst IsCalm (sym same) k.0

pub others_ready : (x : Deeds) (a b : Shell) (d : Deed) (ds es : Deeds) (n : ℕ) (ss : Things) (s : Thing) (rest us : Things) → x ≡ deeds.And' a d b ds → ss ≡ more_things s rest → es ≡ ds → us ≡ rest → AreCalm x → FitFields x n ss → AreCalm es × FitFields es n us
others_ready x a b d ds es n ss s rest us is shape same at calm h =
    let k : AreCalm (deeds.And' a d b ds) = subst AreCalm is calm in
    let f : FitFields ds n rest = others_fit a b d ds n ss s rest shape k.0 k.1 (subst (λ y. FitFields y n ss) is h) in
    (subst AreCalm (sym same) k.1, subst (λ y. FitFields y n us) (sym same) (subst (FitFields ds n) (sym at) f))

pub none_left : (x : Deeds) (n : ℕ) (ss : Things) → x ≡ deeds.End → 0 < n → FitFields x n ss → done_through (do_all x) 0 n ss ≡ done ss
none_left x n ss is some h = subst (λ y. done_through (do_all y) 0 n ss ≡ done ss) (sym is) (no_fields n ss some (subst (λ y. FitFields y n ss) is h))

pub first_stopped : (T U : Type 0) (stop : Stop) (x : Deeds) (a b : Shell) (d e : Deed) (ds : Deeds) (n : ℕ) (ss : Things) (s t u : Thing) (rest us : Things) → x ≡ deeds.And' a d b ds → ss ≡ more_things s rest → e ≡ d → t ≡ s → AreCalm x → FitFields x n ss
    → Acts {T = T} (Err stop) (done_through (do_of e) 0 n t) u → DoesAll {T = U} (Err stop) (done_through (do_all x) 0 n ss) us
first_stopped T U stop x a b d e ds n ss s t u rest us is shape same at calm h q =
    let k : AreCalm (deeds.And' a d b ds) = subst AreCalm is calm in
    let p : Acts {T = T} (Err stop) (done_through (do_of d) 0 n s) u = subst (λ (y : Deed). Acts {T = T} (Err stop) (done_through (do_of y) 0 n s) u) same (subst (λ (v : Thing). Acts {T = T} (Err stop) (done_through (do_of e) 0 n v) u) at q) in
    subst (λ y. DoesAll {T = U} (Err stop) (done_through (do_all y) 0 n ss) us) (sym is) (first_stops T U stop a b d ds n ss s u rest us shape k.0 k.1 (subst (λ y. FitFields y n ss) is h) p)

pub others_done : {T : Type 0} (r : Result T Stop) (x : Deeds) (a b : Shell) (d e : Deed) (ds es : Deeds) (n : ℕ) (ss : Things) (s t u : Thing) (rest ts us : Things) → x ≡ deeds.And' a d b ds → ss ≡ more_things s rest → e ≡ d → t ≡ s → es ≡ ds → ts ≡ rest → AreCalm x → FitFields x n ss
    → done_through (do_of e) 0 n t ≡ done u → DoesAll r (done_through (do_all es) 0 n ts) us → DoesAll r (done_through (do_all x) 0 n ss) (more_things u us)
others_done r x a b d e ds es n ss s t u rest ts us is shape same at sames ats calm h p q =
    let k : AreCalm (deeds.And' a d b ds) = subst AreCalm is calm in
    let first : done_through (do_of d) 0 n s ≡ done u = subst (λ (y : Deed). done_through (do_of y) 0 n s ≡ done u) same (subst (λ (v : Thing). done_through (do_of e) 0 n v ≡ done u) at p) in
    let others : DoesAll r (done_through (do_all ds) 0 n rest) us = subst (λ y. DoesAll r (done_through (do_all y) 0 n rest) us) sames (subst (λ vs. DoesAll r (done_through (do_all es) 0 n vs) us) ats q) in
    subst (λ y. DoesAll r (done_through (do_all y) 0 n ss) (more_things u us)) (sym is) (others_do r a b d ds n ss s u rest us shape k.0 k.1 (subst (λ y. FitFields y n ss) is h) first others)

-- a struct of builders
pub struct_ready : (x : Deed) (ds : Deeds) (n : ℕ) (s : Thing) (ss : Things) → x ≡ deed.Fields ds → s ≡ several ss → AreCalm ds → FitsThrough (do_of x) (DeedFits x) 0 n s → FitFields ds n ss
struct_ready x ds n s ss is shape calm h = struct_fits ds n ss calm (subst (FitStruct ds n) shape (subst (λ (y : Deed). FitsThrough (do_of y) (DeedFits y) 0 n s) is h))

pub struct_is : (x : Deed) (ds : Deeds) (n : ℕ) (s : Thing) → x ≡ deed.Fields ds → 0 < n → FitsThrough (do_of x) (DeedFits x) 0 n s → (ss : Things) × (s ≡ several ss)
struct_is x ds n s is some h = struct_there ds n s some (subst (λ (y : Deed). FitsThrough (do_of y) (DeedFits y) 0 n s) is h)

pub struct_done : {T : Type 0} (r : Result T Stop) (x : Deed) (ds : Deeds) (n : ℕ) (s : Thing) (ss us : Things) → x ≡ deed.Fields ds → s ≡ several ss → AreCalm ds → FitsThrough (do_of x) (DeedFits x) 0 n s
    → DoesAll r (done_through (do_all ds) 0 n ss) us → Acts r (done_through (do_of x) 0 n s) (several us)
struct_done r x ds n s ss us is shape calm h q =
    let k : FitStruct ds n (several ss) = subst (FitStruct ds n) shape (subst (λ (y : Deed). FitsThrough (do_of y) (DeedFits y) 0 n s) is h) in
    subst (λ (y : Deed). Acts r (done_through (do_of y) 0 n s) (several us)) (sym is) (subst (λ (v : Thing). Acts r (done_through (do_of (deed.Fields ds)) 0 n v) (several us)) (sym shape) (struct_does r ds n ss us calm k q))

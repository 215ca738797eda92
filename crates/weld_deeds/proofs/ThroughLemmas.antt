-- What is done on rows one after another.
use Rattle.std.proofs.Common.{◌≡◌, ℕ, zero, suc, ◌+◌, ◌-◌, ◌<◌, ◌≤◌, Result, Err, refl, sym, ap, subst, ◌∙◌, arith, add-one}
use Rattle.weld_data.specs.declared.stop.Stop.{Stop}
use Rattle.weld_data.specs.declared.stop.Stop.TheVariants.{Fault, Memory}
use Rattle.weld_builders.specs.Outcome.{Outcome, done, and_then}
use Rattle.weld_meaning.specs.Thing.{Thing}
use Rattle.weld_acts.specs.Act.{Acts}
use Rattle.weld_deeds.specs.Deeds.{do_of, DeedFits}
use Rattle.weld_deeds.specs.Does.{DoesAs}
use Rattle.weld_deeds.specs.Through.{done_through, FitsThrough, HasCome}
use Rattle.weld_deeds.specs.declared.deed.Deed.{Deed}
use Rattle.weld_deeds.specs.declared.deed.Deed as deed

pub nothing_through : (n : ℕ) (s : Thing) → done_through (do_of deed.Nothing) 0 n s ≡ done s
nothing_through n s = from 0 n
  where
    from : (j m : ℕ) → done_through (do_of deed.Nothing) j m s ≡ done s
    from j zero = refl
    from j (suc m) = from (suc j) m

pub come_start : (does : ℕ → Thing → Outcome Thing) (fits : ℕ → Thing → Type 0) (count : ℕ) (s : Thing) → FitsThrough does fits 0 count s → HasCome does fits count s 0 (count - 0) s
come_start does fits count s h =
    let all : count ≡ count - 0 = omega arith in subst (λ n. HasCome does fits count s 0 n s) all (record { fit = h; same = refl })

-- one more row is there
at_one : (does : ℕ → Thing → Outcome Thing) (fits : ℕ → Thing → Type 0) (count : ℕ) (start : Thing) (j : ℕ) (s : Thing) → j < count → HasCome does fits count start j (count - j) s → HasCome does fits count start j (suc (count - suc j)) s
at_one does fits count start j s less h = subst (λ n. HasCome does fits count start j n s) (omega arith) h

pub come_fits : (does : ℕ → Thing → Outcome Thing) (fits : ℕ → Thing → Type 0) (count : ℕ) (start : Thing) (j : ℕ) (s : Thing) → j < count → HasCome does fits count start j (count - j) s → fits j s
come_fits does fits count start j s less h = (at_one does fits count start j s less h).fit.0

pub come_next : (does : ℕ → Thing → Outcome Thing) (fits : ℕ → Thing → Type 0) (count : ℕ) (start : Thing) (j : ℕ) (s t : Thing) → j < count → HasCome does fits count start j (count - j) s → does j s ≡ done t → HasCome does fits count start (j + 1) (count - (j + 1)) t
come_next does fits count start j s t less h q =
    let k = at_one does fits count start j s less h in
    subst (λ i. HasCome does fits count start i (count - i) t) (sym (add-one j)) (record {
      fit = k.fit.1 t q;
      same = k.same ∙ ap (λ o. and_then o (λ u. done_through does (suc j) (count - suc j) u)) q;
    })

pub come_stops : (T U : Type 0) (stop : Stop) (does : ℕ → Thing → Outcome Thing) (fits : ℕ → Thing → Type 0) (count : ℕ) (start : Thing) (j : ℕ) (s t u : Thing) → j < count → HasCome does fits count start j (count - j) s
    → Acts {T = T} (Err stop) (does j s) t → Acts {T = U} (Err stop) (done_through does 0 count start) u
come_stops T U Fault does fits count start j s t u less h q =
    (at_one does fits count start j s less h).same ∙ ap (λ o. and_then o (λ v. done_through does (suc j) (count - suc j) v)) q
come_stops T U Memory does fits count start j s t u less h q = tt

pub come_end : (does : ℕ → Thing → Outcome Thing) (fits : ℕ → Thing → Type 0) (count : ℕ) (start : Thing) (j : ℕ) (s : Thing) → count ≤ j → HasCome does fits count start j (count - j) s → done_through does 0 count start ≡ done s
come_end does fits count start j s more h =
    let none : count - j ≡ 0 = omega arith in h.same ∙ ap (λ n. done_through does j n s) none

-- ---- what is done as the deed is

fits_from : (does : ℕ → Thing → Outcome Thing) (fits : ℕ → Thing → Type 0) (d : Deed) (j n : ℕ) (s : Thing) → DoesAs does fits d → FitsThrough (do_of d) (DeedFits d) j n s → FitsThrough does fits j n s
fits_from does fits d j zero s how h = tt
fits_from does fits d j (suc n) s how h = (how.can j s h.0, λ t e. fits_from does fits d (suc j) n t how (h.1 t (sym (how.same j s) ∙ e)))

done_from : (does : ℕ → Thing → Outcome Thing) (fits : ℕ → Thing → Type 0) (d : Deed) (j n : ℕ) (s : Thing) → DoesAs does fits d → done_through does j n s ≡ done_through (do_of d) j n s
done_from does fits d j zero s how = refl
done_from does fits d j (suc n) s how = λ i. and_then (how.same j s i) (λ t. done_from does fits d (suc j) n t how i)

pub fits_as : (does : ℕ → Thing → Outcome Thing) (fits : ℕ → Thing → Type 0) (d : Deed) (n : ℕ) (s : Thing) → DoesAs does fits d → FitsThrough (do_of d) (DeedFits d) 0 n s → FitsThrough does fits 0 n s
fits_as does fits d n s how h = fits_from does fits d 0 n s how h

pub acts_as : {T : Type 0} (r : Result T Stop) (does : ℕ → Thing → Outcome Thing) (fits : ℕ → Thing → Type 0) (d : Deed) (n : ℕ) (s t : Thing) → DoesAs does fits d → Acts r (done_through does 0 n s) t → Acts r (done_through (do_of d) 0 n s) t
acts_as r does fits d n s t how h = subst (λ (o : Outcome Thing). Acts r o t) (done_from does fits d 0 n s how) h

pub done_as : (does : ℕ → Thing → Outcome Thing) (fits : ℕ → Thing → Type 0) (d : Deed) (n : ℕ) (s t : Thing) → DoesAs does fits d → done_through does 0 n s ≡ done t → done_through (do_of d) 0 n s ≡ done t
done_as does fits d n s t how h = sym (done_from does fits d 0 n s how) ∙ h

-- What working on the stack makes of it, in the words of the code.
use Rattle.std.proofs.Common.{◌≡◌, ℕ, zero, suc, ◌+◌, ◌-◌, ◌<◌, ◌≤◌, List, [], ◌∷◌, ◌++◌, Result, Ok, Err, refl, sym, ap, ◌∙◌, subst, arith}
use Rattle.std.specs.Prelude.{OnOk}
use Rattle.weld_data.specs.declared.stop.Stop.{Stop}
use Rattle.weld_data.specs.declared.stop.Stop.TheVariants.{Fault, Memory}
use Rattle.weld_data.specs.Value.{Value, list, number, struct, dict, values, Values, list_of_values, no_values, and_value}
use Rattle.weld_tree.specs.ExprTree.{One, Two, Three, Many}
use Rattle.weld_builders.specs.Outcome.{Outcome, done, fault, map_out}
use Rattle.weld_meaning.specs.Thing.{Thing, plain, building, several, Things, no_things, more_things, first_of, rest_of}
use Rattle.weld_meaning.specs.Evaluation.{one_thing, two_thing, three_thing, many_thing}
use Rattle.weld_eval.specs.Answers.{Answers, OnFault}
use Rattle.weld_eval.specs.Takes.{OneTakes, TwoTakes, ThreeTakes, IsStrict}
use Rattle.weld_eval_forms.specs.FormTakes.{AreAllEvaluated, ManyTakes, before_things, pack_things}
use Rattle.weld_eval_forms.specs.Legs.{IsVector, IsPlace, elements_of_thing, strided_elements}
use Rattle.weld_exec.specs.Stacked.{put_on, TakesOne, one_stack, TakesTwo, two_stack, TakesThree, three_stack, newest, below, AreSoMany, TakesMany, many_stack, TakesStride, stride_stack, IsSomething, StackAnswer}

-- the answer was put on the stack, or there was no memory for it
pub put_answer : {T : Type 0} (r : Result T Stop) (w : Outcome Things) (x : Thing) (low after : Things) → w ≡ done (more_things x low) → OnOk r (after ≡ more_things x low) → OnFault r ⊥ → StackAnswer r w after
put_answer (Ok y) w x low after q there memory = q ∙ ap done (sym there)
put_answer (Err Fault) w x low after q there memory = absurd memory
put_answer (Err Memory) w x low after q there memory = tt

-- a stop of the form
pub stop_answer : {T A : Type 0} (U : Type 0) (view : T → A) (s : Stop) (o : Outcome A) (w : Outcome Things) (after : Things) → (o ≡ fault → w ≡ fault) → Answers view (Err s) o → StackAnswer {T = U} (Err s) w after
stop_answer U view Fault o w after h q = h q
stop_answer U view Memory o w after h q = tt

-- ---- one

pub one_ready : (p : One) (st : Things) (x : Thing) → TakesOne p st → x ≡ first_of st → OneTakes p x
one_ready p no_things x h e = absurd h
one_ready p (more_things t st) x h e = subst (OneTakes p) (sym e) h

pub one_is : (p : One) (st low : Things) (x : Thing) → TakesOne p st → x ≡ first_of st → low ≡ rest_of st → one_stack p st ≡ map_out (put_on low) (one_thing p x)
one_is p no_things low x h e r = absurd h
one_is p (more_things t st) low x h e r = ap (λ u. map_out (put_on u) (one_thing p t)) (sym r) ∙ ap (λ u. map_out (put_on low) (one_thing p u)) (sym e)

-- ---- two

pub two_strict : (p : Two) (st : Things) → TakesTwo p st → IsStrict p
two_strict p no_things h = absurd h
two_strict p (more_things u no_things) h = absurd h
two_strict p (more_things u (more_things t st)) h = h.0

pub two_ready : (p : Two) (st mid : Things) (x y : Thing) → TakesTwo p st → y ≡ first_of st → mid ≡ rest_of st → x ≡ first_of mid → TwoTakes p x y
two_ready p no_things mid x y h e m f = absurd h
two_ready p (more_things u no_things) mid x y h e m f = absurd h
two_ready p (more_things u (more_things t st)) mid x y h e m f = subst (λ v. TwoTakes p v y) (sym (f ∙ ap first_of m)) (subst (λ v. TwoTakes p t v) (sym e) h.1)

pub two_is : (p : Two) (st mid low : Things) (x y : Thing) → TakesTwo p st → y ≡ first_of st → mid ≡ rest_of st → x ≡ first_of mid → low ≡ rest_of mid → two_stack p st ≡ map_out (put_on low) (two_thing p x (done y))
two_is p no_things mid low x y h e m f r = absurd h
two_is p (more_things u no_things) mid low x y h e m f r = absurd h
two_is p (more_things u (more_things t st)) mid low x y h e m f r =
    ap (λ l. map_out (put_on l) (two_thing p t (done u))) (sym (r ∙ ap rest_of m))
    ∙ ap (λ v. map_out (put_on low) (two_thing p v (done u))) (sym (f ∙ ap first_of m))
    ∙ ap (λ v. map_out (put_on low) (two_thing p x (done v))) (sym e)

-- ---- three

pub three_all : (p : Three) (st : Things) → TakesThree p st → AreAllEvaluated p
three_all p no_things h = absurd h
three_all p (more_things w no_things) h = absurd h
three_all p (more_things w (more_things u no_things)) h = absurd h
three_all p (more_things w (more_things u (more_things t st))) h = h.0

pub three_left : (p : Three) (st mid low : Things) → TakesThree p st → mid ≡ rest_of st → low ≡ rest_of mid → IsSomething low
three_left p no_things mid low h m r = absurd h
three_left p (more_things w no_things) mid low h m r = absurd h
three_left p (more_things w (more_things u no_things)) mid low h m r = absurd h
three_left p (more_things w (more_things u (more_things t st))) mid low h m r = subst IsSomething (sym (r ∙ ap rest_of m)) tt

pub three_ready : (p : Three) (st mid low : Things) (x y z : Thing) → TakesThree p st → z ≡ first_of st → mid ≡ rest_of st → y ≡ first_of mid → low ≡ rest_of mid → x ≡ first_of low → ThreeTakes p x y z
three_ready p no_things mid low x y z h e m f r g = absurd h
three_ready p (more_things w no_things) mid low x y z h e m f r g = absurd h
three_ready p (more_things w (more_things u no_things)) mid low x y z h e m f r g = absurd h
three_ready p (more_things w (more_things u (more_things t st))) mid low x y z h e m f r g =
    subst (λ v. ThreeTakes p v y z) (sym (g ∙ ap first_of (r ∙ ap rest_of m))) (subst (λ v. ThreeTakes p t v z) (sym (f ∙ ap first_of m)) (subst (λ v. ThreeTakes p t u v) (sym e) h.1))

pub three_is : (p : Three) (st mid low last : Things) (x y z : Thing) → TakesThree p st → z ≡ first_of st → mid ≡ rest_of st → y ≡ first_of mid → low ≡ rest_of mid → x ≡ first_of low → last ≡ rest_of low → three_stack p st ≡ map_out (put_on last) (three_thing p x (done y) (done z))
three_is p no_things mid low last x y z h e m f r g s = absurd h
three_is p (more_things w no_things) mid low last x y z h e m f r g s = absurd h
three_is p (more_things w (more_things u no_things)) mid low last x y z h e m f r g s = absurd h
three_is p (more_things w (more_things u (more_things t st))) mid low last x y z h e m f r g s =
    let under : low ≡ more_things t st = r ∙ ap rest_of m in
    ap (λ l. map_out (put_on l) (three_thing p t (done u) (done w))) (sym (s ∙ ap rest_of under))
    ∙ ap (λ v. map_out (put_on last) (three_thing p v (done u) (done w))) (sym (g ∙ ap first_of under))
    ∙ ap (λ v. map_out (put_on last) (three_thing p x (done v) (done w))) (sym (f ∙ ap first_of m))
    ∙ ap (λ v. map_out (put_on last) (three_thing p x (done y) (done v))) (sym e)

-- ---- a strided leg

pub record StrideOn (st mid low last : Things) (v s e d : Thing) : Type 0 where
  pub first : d ≡ first_of st
  pub after_first : mid ≡ rest_of st
  pub second : e ≡ first_of mid
  pub after_second : low ≡ rest_of mid
  pub third : s ≡ first_of low
  pub after_third : last ≡ rest_of low
  pub fourth : v ≡ first_of last

pub stride_something : (st mid low last : Things) → TakesStride st → mid ≡ rest_of st → low ≡ rest_of mid → last ≡ rest_of low → IsSomething last
stride_something no_things mid low last h a b c = absurd h
stride_something (more_things d no_things) mid low last h a b c = absurd h
stride_something (more_things d (more_things e no_things)) mid low last h a b c = absurd h
stride_something (more_things d (more_things e (more_things s no_things))) mid low last h a b c = absurd h
stride_something (more_things d (more_things e (more_things s (more_things v st)))) mid low last h a b c = subst IsSomething (sym (c ∙ ap rest_of (b ∙ ap rest_of a))) tt

pub stride_ready : (st mid low last : Things) (v s e d : Thing) → TakesStride st → StrideOn st mid low last v s e d → IsVector v × IsPlace s × IsPlace e × IsPlace d
stride_ready no_things mid low last v s e d h o = absurd h
stride_ready (more_things a no_things) mid low last v s e d h o = absurd h
stride_ready (more_things a (more_things b no_things)) mid low last v s e d h o = absurd h
stride_ready (more_things a (more_things b (more_things c no_things))) mid low last v s e d h o = absurd h
stride_ready (more_things a (more_things b (more_things c (more_things f st)))) mid low last v s e d h o =
    let under : low ≡ more_things c (more_things f st) = o.after_second ∙ ap rest_of o.after_first in (
      subst IsVector (sym (o.fourth ∙ ap first_of (o.after_third ∙ ap rest_of under))) h.0,
      subst IsPlace (sym (o.third ∙ ap first_of under)) h.1,
      subst IsPlace (sym (o.second ∙ ap first_of o.after_first)) h.2,
      subst IsPlace (sym o.first) h.3,
    )

abbrev pub as_leg : Things → List Value → Things
as_leg st vs = more_things (plain (list (values vs))) st

pub stride_is : (st mid low last end : Things) (v s e d : Thing) → TakesStride st → StrideOn st mid low last v s e d → end ≡ rest_of last → stride_stack st ≡ map_out (as_leg end) (strided_elements v s e d)
stride_is no_things mid low last end v s e d h o r = absurd h
stride_is (more_things a no_things) mid low last end v s e d h o r = absurd h
stride_is (more_things a (more_things b no_things)) mid low last end v s e d h o r = absurd h
stride_is (more_things a (more_things b (more_things c no_things))) mid low last end v s e d h o r = absurd h
stride_is (more_things a (more_things b (more_things c (more_things f st)))) mid low last end v s e d h o r =
    let under : low ≡ more_things c (more_things f st) = o.after_second ∙ ap rest_of o.after_first in
    let bottom : last ≡ more_things f st = o.after_third ∙ ap rest_of under in
    ap (λ l. map_out (as_leg l) (strided_elements f c b a)) (sym (r ∙ ap rest_of bottom))
    ∙ ap (λ x. map_out (as_leg end) (strided_elements x c b a)) (sym (o.fourth ∙ ap first_of bottom))
    ∙ ap (λ x. map_out (as_leg end) (strided_elements v x b a)) (sym (o.third ∙ ap first_of under))
    ∙ ap (λ x. map_out (as_leg end) (strided_elements v s x a)) (sym (o.second ∙ ap first_of o.after_first))
    ∙ ap (λ x. map_out (as_leg end) (strided_elements v s e x)) (sym o.first)

packed : (vs : Values) → values (list_of_values vs) ≡ vs
packed no_values = refl
packed (and_value v vs) = ap (and_value v) (packed vs)

pub leg_thing : (x : Thing) (vs : List Value) → IsVector x → elements_of_thing x ≡ vs → x ≡ plain (list (values vs))
leg_thing (plain (number k y)) vs h e = absurd h
leg_thing (plain (list ws)) vs h e = ap (λ l. plain (list l)) (sym (packed ws)) ∙ ap (λ l. plain (list (values l))) e
leg_thing (plain (struct ws)) vs h e = absurd h
leg_thing (plain (dict ws)) vs h e = absurd h
leg_thing (building p) vs h e = absurd h
leg_thing (several ts) vs h e = absurd h

-- ---- a vector or a struct

pub record Gathered (n : ℕ) (st : Things) (xs : List Thing) (left : ℕ) (now : Things) : Type 0 where
  pub there : AreSoMany left now
  pub newest_is : newest n st ≡ before_things xs (newest left now)
  pub below_is : below n st ≡ below left now

pub gather_starts : (n : ℕ) (st : Things) → AreSoMany n st → Gathered n st [] n st
gather_starts n st h = record { there = h; newest_is = refl; below_is = refl }

before_more : (xs : List Thing) (x : Thing) (ts : Things) → before_things (xs ++ x ∷ []) ts ≡ before_things xs (more_things x ts)
before_more [] x ts = refl
before_more (y ∷ ys) x ts = ap (more_things y) (before_more ys x ts)

pub gather_something : (n : ℕ) (st : Things) (xs : List Thing) (left : ℕ) (now : Things) → 0 < left → Gathered n st xs left now → IsSomething now
gather_something n st xs zero now h g = absurd (omega arith)
gather_something n st xs (suc left) no_things h g = absurd g.there
gather_something n st xs (suc left) (more_things t now) h g = tt

gather_more : (n : ℕ) (st : Things) (xs : List Thing) (left : ℕ) (now : Things) → Gathered n st xs (suc left) now → Gathered n st (xs ++ first_of now ∷ []) left (rest_of now)
gather_more n st xs left no_things g = absurd g.there
gather_more n st xs left (more_things t now) g = record { there = g.there; newest_is = g.newest_is ∙ sym (before_more xs t (newest left now)); below_is = g.below_is }

pub gather_on : (n : ℕ) (st : Things) (xs ys : List Thing) (i : ℕ) (now next : Things) (x : Thing) → i < n → x ≡ first_of now → next ≡ rest_of now → ys ≡ xs ++ x ∷ [] → Gathered n st xs (n - i) now → Gathered n st ys (n - (i + 1)) next
gather_on n st xs ys i now next x h e r m g =
    let one : n - i ≡ suc (n - (i + 1)) = omega arith in
    let more = gather_more n st xs (n - (i + 1)) now (subst (λ k. Gathered n st xs k now) one g) in
    subst (λ l. Gathered n st l (n - (i + 1)) next) (sym (m ∙ ap (λ y. xs ++ y ∷ []) e)) (subst (λ u. Gathered n st (xs ++ first_of now ∷ []) (n - (i + 1)) u) (sym r) more)

pub gathered_all : (n : ℕ) (st : Things) (xs : List Thing) (i : ℕ) (now : Things) → n ≤ i → Gathered n st xs (n - i) now → (newest n st ≡ pack_things xs) × (below n st ≡ now)
gathered_all n st xs i now h g =
    let none : n - i ≡ 0 = omega arith in
    let k = subst (λ j. Gathered n st xs j now) none g in
    (k.newest_is, k.below_is)

pub many_ready : (p : Many) (n : ℕ) (st : Things) (ts : Things) → TakesMany p n st → newest n st ≡ ts → ManyTakes p ts
many_ready p n st ts h e = subst (ManyTakes p) e h.takes

pub many_is : (p : Many) (n : ℕ) (st ts low : Things) → newest n st ≡ ts → below n st ≡ low → many_stack p n st ≡ map_out (put_on low) (many_thing p ts)
many_is p n st ts low e b = ap (λ l. map_out (put_on l) (many_thing p (newest n st))) b ∙ ap (λ us. map_out (put_on low) (many_thing p us)) e

-- ---- what was done

pub answer_done : (f : Thing → Things) (w : Outcome Things) (o : Outcome Thing) (x : Thing) → w ≡ map_out f o → o ≡ done x → w ≡ done (f x)
answer_done f w o x e q = e ∙ ap (map_out f) q

pub answer_fault : {A : Type 0} (f : A → Things) (w : Outcome Things) (o : Outcome A) → w ≡ map_out f o → o ≡ fault → w ≡ fault
answer_fault f w o e q = e ∙ ap (map_out f) q

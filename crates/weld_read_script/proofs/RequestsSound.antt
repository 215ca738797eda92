-- What is known of what lines of calls ask for.
use Rattle.std.proofs.Common.{◌≡◌, ℕ, ◌<◌, Bool, true, false, if◌then◌else◌, eqb, List, [], ◌∷◌, length, Option, Some, None, option_map, option_and_then, refl, subst, codes, bytes_eq}
use Rattle.std.proofs.lemmas.Bool.{eqb-true}
use Rattle.std.specs.List.{AllByRecursion}
use Rattle.weld_data.specs.declared.op.BinOp.{BinOp}
use Rattle.weld_data.specs.declared.op.BinOp.TheVariants as ops
use Rattle.weld_calls.specs.declared.call.Call.{Call}
use Rattle.weld_calls.specs.declared.call.Call.TheVariants as calls
use Rattle.weld_calls.specs.CallTypes.{HasItsOperator, IsComparison, IsArithmetic, row}
use Rattle.weld_read_script.specs.declared.statements.statement.Argument.{Argument}
use Rattle.weld_read_script.specs.declared.statements.statement.Argument.TheVariants as written
use Rattle.weld_read_script.specs.Parts.{both, all_read}
use Rattle.weld_read_script.specs.Sound.{IsArgument}
use Rattle.weld_read_script.specs.declared.requests.callee.Callee.{Callee}
use Rattle.weld_read_script.specs.declared.requests.callee.Callee.TheVariants.{Fixed, Column, Compare, Arith}
use Rattle.weld_read_script.specs.declared.requests.names.Bound.{Bound}
use Rattle.weld_read_script.specs.declared.requests.names.Object.{Object}
use Rattle.weld_read_script.specs.declared.requests.names.Object.TheVariants.{Before, Literal}
use Rattle.weld_read_script.specs.declared.requests.names.Resolved.{Resolved}
use Rattle.weld_read_script.specs.declared.requests.names.Resolved.TheVariants.{OfObject, OutOfRange, Chars}
use Rattle.weld_read_script.specs.declared.requests.request.Request.{Request}
use Rattle.weld_read_script.specs.declared.requests.request.Wish.TheVariants.{OfCall, OfColumn}
use Rattle.weld_read_script.specs.Callees.{callee_text, vector_calls, column_calls, named_among, callee_of, comparison_of, arithmetic_of}
use Rattle.weld_read_script.specs.Names.{object_of, objects_of, resolved, all_resolved}
use Rattle.weld_read_script.specs.Requests.{object_in, all_objects, asked, counted, request_of}
use Rattle.weld_read_script.specs.RequestsSound.{IsObject, IsResolved, IsRequest}

none_some : {A : Type 0} (R : Type 0) (x : A) → None ≡ Some x → R
none_some R x e = cc

inner : {A : Type 0} (x y : A) → Some x ≡ Some y → x ≡ y
inner x y e = cc

-- where the test is so the first, and else a later one
if_some : {A : Type 0} (P : A → Type 0) (b : Bool) (x : A) (rest : Option A) (found : A) → P x → (rest ≡ Some found → P found)
    → (if b then Some x else rest) ≡ Some found → P found
if_some P true x rest found p g e = subst P (inner x found e) p
if_some P false x rest found p g e = g e

-- ---- lists

both_all : {B : Type 0} (Q : B → Type 0) (x : Option B) (xs : Option (List B)) (all : List B) → both x xs ≡ Some all
    → ((y : B) → x ≡ Some y → Q y) → ((more : List B) → xs ≡ Some more → AllByRecursion Q more) → AllByRecursion Q all
both_all Q (Some y) (Some more) all e f g = subst (AllByRecursion Q) (inner (y ∷ more) all e) (f y refl, g more refl)
both_all Q (Some y) None all e f g = none_some _ all e
both_all Q None xs all e f g = none_some _ all e

all_sound : {A B : Type 0} (f : A → Option B) (P : A → Type 0) (Q : B → Type 0) → ((x : A) (y : B) → P x → f x ≡ Some y → Q y)
    → (xs : List A) (ys : List B) → AllByRecursion P xs → all_read f xs ≡ Some ys → AllByRecursion Q ys
all_sound f P Q g [] ys h e = subst (AllByRecursion Q) (inner [] ys e) tt
all_sound f P Q g (x ∷ xs) ys h e = both_all Q (f x) (all_read f xs) ys e (λ y k. g x y h.0 k) (λ more k. all_sound f P Q g xs more h.1 k)

any_of : {A : Type 0} (xs : List A) → AllByRecursion (λ x. Unit {0}) xs
any_of [] = tt
any_of (x ∷ xs) = (tt, any_of xs)

-- ---- names

object_below : (n : ℕ) (name : List ℕ) (bs : List Bound) (id : ℕ) → AllByRecursion (λ b. b.object < n) bs → object_of name bs ≡ Some id → id < n
object_below n name [] id h e = none_some (id < n) id e
object_below n name (b ∷ bs) id h e =
    if_some (λ i. i < n) (bytes_eq b.name name) b.object (object_of name bs) id h.0 (object_below n name bs id h.1) e

named_sound : (n : ℕ) (found : Option ℕ) (r : Resolved) → ((id : ℕ) → found ≡ Some id → id < n) → option_map (λ id. OfObject (Before id)) found ≡ Some r → IsResolved n r
named_sound n (Some id) r h e = subst (IsResolved n) (inner (OfObject (Before id)) r e) (h id refl)
named_sound n None r h e = none_some (IsResolved n r) r e

one_resolved : (n : ℕ) (bs : List Bound) (a : Argument) (r : Resolved) → AllByRecursion (λ b. b.object < n) bs → IsArgument a → resolved bs a ≡ Some r → IsResolved n r
one_resolved n bs (written.Name name) r below h e = named_sound n (object_of name bs) r (λ id k. object_below n name bs id below k) e
one_resolved n bs (written.Literal k x) r below h e = subst (IsResolved n) (inner (OfObject (Literal k x)) r e) h
one_resolved n bs written.OutOfRange r below h e = subst (IsResolved n) (inner OutOfRange r e) tt
one_resolved n bs (written.Chars text) r below h e = subst (IsResolved n) (inner (Chars text) r e) tt

pub resolved_sound : (n : ℕ) (bs : List Bound) (arguments : List Argument) (rs : List Resolved) → AllByRecursion (λ b. b.object < n) bs
    → AllByRecursion IsArgument arguments → all_resolved bs arguments ≡ Some rs → AllByRecursion (IsResolved n) rs
resolved_sound n bs arguments rs below h e = all_sound (resolved bs) IsArgument (IsResolved n) (λ a r k f. one_resolved n bs a r below k f) arguments rs h e

pub objects_sound : (n : ℕ) (bs : List Bound) (names : List (List ℕ)) (ids : List ℕ) → AllByRecursion (λ b. b.object < n) bs
    → objects_of bs names ≡ Some ids → AllByRecursion (λ id. id < n) ids
objects_sound n bs names ids below e =
    all_sound (λ name. object_of name bs) (λ name. Unit {0}) (λ id. id < n) (λ name id k f. object_below n name bs id below f) names ids (any_of names) e

-- ---- calls

abbrev IsCallee : Callee → Type 0
IsCallee (Fixed call) = HasItsOperator call
IsCallee Column = Unit {0}
IsCallee Compare = Unit {0}
IsCallee Arith = Unit {0}

among_sound : (word : List ℕ) (cs : List Callee) (callee : Callee) → AllByRecursion IsCallee cs → named_among word cs ≡ Some callee → IsCallee callee
among_sound word [] callee h e = none_some (IsCallee callee) callee e
among_sound word (c ∷ cs) callee h e = if_some IsCallee (bytes_eq (callee_text c) word) c (named_among word cs) callee h.0 (among_sound word cs callee h.1) e

either : {A : Type 0} (R : Type 0) (b : Bool) (x y : A) (z : A) → (x ≡ z → R) → (y ≡ z → R) → (if b then x else y) ≡ z → R
either R true x y z f g e = f e
either R false x y z f g e = g e

callee_sound : (library call : List ℕ) (callee : Callee) → callee_of library call ≡ Some callee → IsCallee callee
callee_sound library call callee e =
    either (IsCallee callee) (bytes_eq (codes "vectors") library) _ _ (Some callee)
    (among_sound call vector_calls callee (tt, (tt, (tt, (tt, (tt, (tt, (tt, (tt, (tt, (tt, (tt, (tt, (tt, tt))))))))))))))
    (λ k. either (IsCallee callee) (bytes_eq (codes "columns") library) _ _ (Some callee)
    (among_sound call column_calls callee (tt, (tt, (tt, (tt, (tt, (tt, (tt, (tt, (tt, (tt, (tt, tt))))))))))))
    (λ f. none_some (IsCallee callee) callee f) k)
    e

comparison_sound : (text : List ℕ) (op : BinOp) → comparison_of text ≡ Some op → IsComparison op
comparison_sound text op e =
    if_some IsComparison (bytes_eq (codes "==") text) ops.Eq _ op tt
    (if_some IsComparison (bytes_eq (codes "!=") text) ops.Ne _ op tt
    (if_some IsComparison (bytes_eq (codes "<") text) ops.Lt _ op tt
    (if_some IsComparison (bytes_eq (codes "<=") text) ops.Le _ op tt
    (if_some IsComparison (bytes_eq (codes ">") text) ops.Gt _ op tt
    (if_some IsComparison (bytes_eq (codes ">=") text) ops.Ge None op tt (none_some (IsComparison op) op)))))) e

arithmetic_sound : (text : List ℕ) (op : BinOp) → arithmetic_of text ≡ Some op → IsArithmetic op
arithmetic_sound text op e =
    if_some IsArithmetic (bytes_eq (codes "+") text) ops.Add _ op tt
    (if_some IsArithmetic (bytes_eq (codes "-") text) ops.Sub _ op tt
    (if_some IsArithmetic (bytes_eq (codes "*") text) ops.Mul _ op tt
    (if_some IsArithmetic (bytes_eq (codes "/") text) ops.Div _ op tt
    (if_some IsArithmetic (bytes_eq (codes "%") text) ops.Rem None op tt (none_some (IsArithmetic op) op))))) e

-- ---- requests

found_object : (n : ℕ) (r : Resolved) (o : Object) → IsResolved n r → object_in r ≡ Some o → IsObject n o
found_object n (OfObject p) o h e = subst (IsObject n) (inner p o e) h
found_object n OutOfRange o h e = none_some (IsObject n o) o e
found_object n (Chars text) o h e = none_some (IsObject n o) o e

counted_at : (n : ℕ) (call : Call) (objects : List Object) (b : Bool) (r : Request) → HasItsOperator call → (b ≡ true → length objects ≡ length (row call))
    → AllByRecursion (IsObject n) objects → (if b then Some (asked (OfCall call) objects) else None) ≡ Some r → IsRequest n r
counted_at n call objects true r op c h e =
    let made : IsRequest n (asked (OfCall call) objects) = record { wish = (op, c refl); objects = h } in subst (IsRequest n) (inner _ r e) made
counted_at n call objects false r op c h e = none_some (IsRequest n r) r e

fixed_sound : (n : ℕ) (call : Call) (rs : List Resolved) (found : Option (List Object)) (r : Request) → HasItsOperator call
    → ((objects : List Object) → found ≡ Some objects → AllByRecursion (IsObject n) objects) → option_and_then (counted call) found ≡ Some r → IsRequest n r
fixed_sound n call rs (Some objects) r op h e =
    counted_at n call objects (eqb (length objects) (length (row call))) r op (λ k. eqb-true _ _ k) (h objects refl) e
fixed_sound n call rs None r op h e = none_some (IsRequest n r) r e

column_sound : (n : ℕ) (rs : List Resolved) (r : Request) → AllByRecursion (IsResolved n) rs → request_of Column rs ≡ Some r → IsRequest n r
column_sound n (OfObject t ∷ Chars name ∷ []) r h e =
    let made : IsRequest n (asked (OfColumn name) (t ∷ [])) = record { wish = refl; objects = (h.0, tt) } in subst (IsRequest n) (inner _ r e) made
column_sound n _ r h e = none_some (IsRequest n r) r e

two_sound : (n : ℕ) (o p : Object) (f : BinOp → Call) (op : Option BinOp) (r : Request) → ((x : BinOp) → op ≡ Some x → HasItsOperator (f x))
    → ((x : BinOp) → 2 ≡ length (row (f x))) → IsObject n o → IsObject n p → option_map (λ x. asked (OfCall (f x)) (o ∷ p ∷ [])) op ≡ Some r → IsRequest n r
two_sound n o p f (Some x) r g c ho hp e =
    let made : IsRequest n (asked (OfCall (f x)) (o ∷ p ∷ [])) = record { wish = (g x refl, c x); objects = (ho, (hp, tt)) } in subst (IsRequest n) (inner _ r e) made
two_sound n o p f None r g c ho hp e = none_some (IsRequest n r) r e

compare_sound : (n : ℕ) (rs : List Resolved) (r : Request) → AllByRecursion (IsResolved n) rs → request_of Compare rs ≡ Some r → IsRequest n r
compare_sound n (OfObject c ∷ Chars text ∷ OfObject s ∷ []) r h e =
    two_sound n c s calls.Compare (comparison_of text) r (comparison_sound text) (λ x. refl) h.0 h.1.1.0 e
compare_sound n _ r h e = none_some (IsRequest n r) r e

arith_sound : (n : ℕ) (rs : List Resolved) (r : Request) → AllByRecursion (IsResolved n) rs → request_of Arith rs ≡ Some r → IsRequest n r
arith_sound n (OfObject c ∷ Chars text ∷ OfObject d ∷ []) r h e =
    two_sound n c d calls.Arith (arithmetic_of text) r (arithmetic_sound text) (λ x. refl) h.0 h.1.1.0 e
arith_sound n _ r h e = none_some (IsRequest n r) r e

of_callee : (n : ℕ) (callee : Callee) (rs : List Resolved) (r : Request) → IsCallee callee → AllByRecursion (IsResolved n) rs → request_of callee rs ≡ Some r → IsRequest n r
of_callee n (Fixed call) rs r c h e =
    fixed_sound n call rs (all_objects rs) r c (λ objects k. all_sound object_in (IsResolved n) (IsObject n) (found_object n) rs objects h k) e
of_callee n Column rs r c h e = column_sound n rs r h e
of_callee n Compare rs r c h e = compare_sound n rs r h e
of_callee n Arith rs r c h e = arith_sound n rs r h e

pub request_sound : (n : ℕ) (library call : List ℕ) (callee : Callee) (rs : List Resolved) (r : Request) → callee_of library call ≡ Some callee
    → AllByRecursion (IsResolved n) rs → request_of callee rs ≡ Some r → IsRequest n r
request_sound n library call callee rs r c h e = of_callee n callee rs r (callee_sound library call callee c) h e

-- Whatever is known stays true behind a statement more.
use Rattle.std.proofs.Common.{◌≡◌, ℕ, suc, ◌+◌, ◌<◌, ◌≤◌, Bool, true, false, ltb, eqb, List, [], ◌∷◌, ◌++◌, length, Option, Some, None, Result, Ok, Err, option_map, refl, sym, ap, subst, ◌∙◌, arith}
use Rattle.std.proofs.lemmas.Bool.{eqb-false, ltb-false}
use Rattle.std.proofs.lemmas.List.{append_assoc, append-nil, length-append, length-map}
use Rattle.std.specs.Option.{is_some}
use Rattle.std.specs.List.{AllByRecursion, slice_get}
use Rattle.weld_tree.specs.declared.code.Code.{Code}
use Rattle.weld_tree.specs.TypeTree.{TypeTree, scalar}
use Rattle.weld_calls.specs.declared.call.Call.{Call}
use Rattle.weld_calls.specs.declared.call.Call.TheVariants as calls
use Rattle.weld_calls.specs.CallTypes.{HasItsOperator, FitsCall, row, misfit, answer_of}
use Rattle.weld_read_script.specs.declared.statements.statement.Argument.{Argument}
use Rattle.weld_read_script.specs.declared.statements.statement.Statement.{Statement}
use Rattle.weld_read_script.specs.declared.statements.statement.Statement.TheVariants as says
use Rattle.weld_read_script.specs.Sound.{IsArgument, IsStatement}
use Rattle.weld_read_script.specs.declared.requests.callee.Callee.{Callee}
use Rattle.weld_read_script.specs.declared.requests.names.Bound.{Bound}
use Rattle.weld_read_script.specs.declared.requests.names.Object.{Object}
use Rattle.weld_read_script.specs.declared.requests.names.Object.TheVariants.{Before, Literal}
use Rattle.weld_read_script.specs.declared.requests.names.Resolved.{Resolved}
use Rattle.weld_read_script.specs.declared.requests.request.Request.{Request}
use Rattle.weld_read_script.specs.declared.requests.request.Wish.{Wish}
use Rattle.weld_read_script.specs.declared.requests.request.Wish.TheVariants.{OfCall, OfColumn}
use Rattle.weld_read_script.specs.Callees.{callee_of}
use Rattle.weld_read_script.specs.Names.{objects_of, all_resolved}
use Rattle.weld_read_script.specs.Requests.{request_of}
use Rattle.weld_read_script.specs.RequestsSound.{IsObject, IsResolved, IsWish, IsRequest}
use Rattle.weld_script.specs.declared.made.Declared.{Declared}
use Rattle.weld_script.specs.declared.made.Declared.TheVariants.{Input, Table}
use Rattle.weld_script.specs.declared.made.Made.{Made}
use Rattle.weld_script.specs.declared.made.Made.TheVariants as makes
use Rattle.weld_script.specs.Script.{declared_type, types_at, made_type, made_types, made_types_from, IsTable, IsDeclared, IsCall, IsMade, AreMade, AreBelow, declared_by, declared_of, called_by, calls_of}
use Rattle.weld_read_script.specs.declared.steps.known.Known.{Known}
use Rattle.weld_read_script.specs.Steps.{refused_if, declare, declared, add_call, literals, literal_types, with_literals, numbers, column_number, wished, after_wish, after_request, after_callee, after_names, shown_also, after, is_bound}
use Rattle.weld_read_script.specs.Keeping.{IsKnown}

-- the laws of the crates below that are wanted
pub record Laws : Type 0 where
  pub made : (ms : List Made) (m : Made) → AreMade [] ms → IsMade (made_types ms) m → AreMade [] (ms ++ m ∷ [])
  pub types : (ms : List Made) (m : Made) → made_types (ms ++ m ∷ []) ≡ made_types ms ++ made_type (made_types ms) m ∷ []
  pub declared : (ms : List Made) (m : Made) → declared_of (ms ++ m ∷ []) ≡ declared_of ms ++ declared_by m
  pub short : (call : Call) → length (row call) ≤ 3
  pub resolved : (n : ℕ) (bs : List Bound) (arguments : List Argument) (rs : List Resolved) → AllByRecursion (λ b. b.object < n) bs
      → AllByRecursion IsArgument arguments → all_resolved bs arguments ≡ Some rs → AllByRecursion (IsResolved n) rs
  pub shown : (n : ℕ) (bs : List Bound) (names : List (List ℕ)) (ids : List ℕ) → AllByRecursion (λ b. b.object < n) bs
      → objects_of bs names ≡ Some ids → AllByRecursion (λ id. id < n) ids
  pub requests : (n : ℕ) (library call : List ℕ) (callee : Callee) (rs : List Resolved) (r : Request)
      → callee_of library call ≡ Some callee → AllByRecursion (IsResolved n) rs → request_of callee rs ≡ Some r → IsRequest n r

-- ---- cases

refused : {A : Type 0} (R : Type 0) (code : Code) (next : A) → Err code ≡ Ok next → R
refused R code next e = cc

inner : {A : Type 0} (x y : A) → Some x ≡ Some y → x ≡ y
inner x y e = cc

abbrev done : Known → Result Known Code
done k = Ok k

got : (x next : Known) → done x ≡ Ok next → x ≡ next
got x next e = cc

none_some : {A : Type 0} (R : Type 0) (x : A) → None ≡ Some x → R
none_some R x e = cc

unrefused : (test : Bool) (code : Code) (rest : Result Known Code) (next : Known) → refused_if test code rest ≡ Ok next → (test ≡ false) × (rest ≡ Ok next)
unrefused true code rest next e = refused _ code next e
unrefused false code rest next e = (refl, e)

none_of : {A : Type 0} (x : Option A) → is_some x ≡ false → x ≡ None
none_of None e = refl
none_of (Some x) e = cc

-- ---- lists

calls_grow : (ms : List Made) (m : Made) → calls_of (ms ++ m ∷ []) ≡ calls_of ms ++ called_by m
calls_grow [] m = append-nil (called_by m)
calls_grow (x ∷ ms) m = ap (λ r. called_by x ++ r) (calls_grow ms m) ∙ sym (append_assoc (called_by x) (calls_of ms) (called_by m))

types_len : (ts : List TypeTree) (ms : List Made) → length (made_types_from ts ms) ≡ length ts + length ms
types_len ts [] = omega arith
types_len ts (m ∷ ms) = omega (arith, types_len (ts ++ made_type ts m ∷ []) ms, length-append ts (made_type ts m ∷ []))

below_wider : (n m : ℕ) (ids : List ℕ) → n ≤ m → AreBelow n ids → AreBelow m ids
below_wider n m [] le h = tt
below_wider n m (id ∷ ids) le h = (omega (arith, h.0), below_wider n m ids le h.1)

names_wider : (n m : ℕ) (bs : List Bound) → n ≤ m → AllByRecursion (λ b. b.object < n) bs → AllByRecursion (λ b. b.object < m) bs
names_wider n m [] le h = tt
names_wider n m (b ∷ bs) le h = (omega (arith, h.0), names_wider n m bs le h.1)

names_more : (n : ℕ) (bs : List Bound) (b : Bound) → AllByRecursion (λ b. b.object < n) bs → b.object < n → AllByRecursion (λ b. b.object < n) (bs ++ b ∷ [])
names_more n [] b h k = (k, tt)
names_more n (x ∷ bs) b h k = (h.0, names_more n bs b h.1 k)

below_append : (n : ℕ) (xs ys : List ℕ) → AreBelow n xs → AreBelow n ys → AreBelow n (xs ++ ys)
below_append n [] ys h k = k
below_append n (x ∷ xs) ys h k = (h.0, below_append n xs ys h.1 k)

below_of : (n : ℕ) (ids : List ℕ) → AllByRecursion (λ id. id < n) ids → AreBelow n ids
below_of n [] h = tt
below_of n (id ∷ ids) h = (h.0, below_of n ids h.1)

-- ---- literals

-- objects with their types, from others by literals alone
record Stage (ms : List Made) (more : List Made) (ts : List TypeTree) : Type 0 where
  objects : AreMade [] more
  types : ts ≡ made_types more
  declared : length (declared_of more) ≡ length (declared_of ms)
  called : length (calls_of more) ≡ length (calls_of ms)

literals_stage : Laws → (n : ℕ) (os : List Object) (ms : List Made) (ts : List TypeTree) → AreMade [] ms → ts ≡ made_types ms
    → AllByRecursion (IsObject n) os → Stage ms (ms ++ literals os) (ts ++ literal_types os)
literals_stage L n [] ms ts a e h = record {
  objects = subst (AreMade []) (sym (append-nil ms)) a;
  types = append-nil ts ∙ e ∙ ap made_types (sym (append-nil ms));
  declared = ap (λ xs. length (declared_of xs)) (append-nil ms);
  called = ap (λ xs. length (calls_of xs)) (append-nil ms);
}
literals_stage L n (Before id ∷ os) ms ts a e h = literals_stage L n os ms ts a e h.1
literals_stage L n (Literal k x ∷ os) ms ts a e h =
    let m : Made = makes.Literal k x in
    let s : Stage (ms ++ m ∷ []) (ms ++ m ∷ [] ++ literals os) (ts ++ scalar k ∷ [] ++ literal_types os) =
    literals_stage L n os (ms ++ m ∷ []) (ts ++ scalar k ∷ []) (L.made ms m a h.0) (ap (λ r. r ++ scalar k ∷ []) e ∙ sym (L.types ms m)) h.1 in
    let joined : (ms ++ m ∷ [] ++ literals os) ≡ ms ++ (m ∷ literals os) = append_assoc ms (m ∷ []) (literals os) in
    record {
      objects = subst (AreMade []) joined s.objects;
      types = sym (append_assoc ts (scalar k ∷ []) (literal_types os)) ∙ s.types ∙ ap made_types joined;
      declared = ap (λ xs. length (declared_of xs)) (sym joined) ∙ s.declared ∙ ap length (L.declared ms m) ∙ ap length (append-nil (declared_of ms));
      called = ap (λ xs. length (calls_of xs)) (sym joined) ∙ s.called ∙ ap length (calls_grow ms m) ∙ ap length (append-nil (calls_of ms));
    }

numbers_below : (o n : ℕ) (os : List Object) → o ≤ n → AllByRecursion (IsObject o) os → AreBelow (n + length (literals os)) (numbers n os)
numbers_below o n [] le h = tt
numbers_below o n (Before id ∷ os) le h = (omega (arith, h.0), numbers_below o n os le h.1)
numbers_below o n (Literal k x ∷ os) le h =
    let e : suc n + length (literals os) ≡ n + suc (length (literals os)) = omega arith in
    (omega arith, subst (λ t. AreBelow t (numbers (suc n) os)) e (numbers_below o (suc n) os (omega arith) h.1))

numbers_len : (n : ℕ) (os : List Object) → length (numbers n os) ≡ length os
numbers_len n [] = refl
numbers_len n (Before id ∷ os) = ap suc (numbers_len n os)
numbers_len n (Literal k x ∷ os) = ap suc (numbers_len (suc n) os)

literals_len : (os : List Object) → length (literals os) ≤ length os
literals_len [] = omega arith
literals_len (Before id ∷ os) = omega (arith, literals_len os)
literals_len (Literal k x ∷ os) = omega (arith, literals_len os)

-- ---- calls

of_column : (n : ℕ) (found : Option ℕ) (call : Call) → n ≡ 1 → option_map calls.Column found ≡ Some call → HasItsOperator call × (n ≡ length (row call))
of_column n (Some p) call h e = subst (λ c. HasItsOperator c × (n ≡ length (row c))) (inner (calls.Column p) call e) (tt, h)
of_column n None call h e = none_some _ call e

wish_fits : (ms : List Made) (wish : Wish) (ids : List ℕ) (n : ℕ) (call : Call) → IsWish wish n → wished ms wish ids ≡ Some call → HasItsOperator call × (n ≡ length (row call))
wish_fits ms (OfCall c) ids n call h e = subst (λ c. HasItsOperator c × (n ≡ length (row c))) (inner c call e) h
wish_fits ms (OfColumn name) [] n call h e = none_some _ call e
wish_fits ms (OfColumn name) (id ∷ ids) n call h e = of_column n (column_number name (slice_get ms id)) call h e

-- one call more, on objects of which the literals were just made
call_keeps : Laws → (k : Known) (name : List ℕ) (os : List Object) (call : Call) → IsKnown k → AllByRecursion (IsObject (length k.made)) os
    → HasItsOperator call → length os ≡ length (row call)
    → misfit call (types_at (k.types ++ literal_types os) (numbers (length k.made) os)) ≡ None → (k.calls ≡ 200 → ⊥)
    → IsKnown (add_call (with_literals k os) name call (numbers (length k.made) os))
call_keeps L k name os call h objects op count fits few =
    let ms : List Made = k.made ++ literals os in
    let ts : List TypeTree = k.types ++ literal_types os in
    let ids : List ℕ = numbers (length k.made) os in
    let s : Stage k.made ms ts = literals_stage L (length k.made) os k.made k.types h.objects h.types objects in
    let m : Made = makes.Call call ids in
    let long : length ms ≡ length k.made + length (literals os) = length-append k.made (literals os) in
    let typed : length ts ≡ length ms = ap length s.types ∙ types_len [] ms ∙ omega arith in
    let more : length (ms ++ m ∷ []) ≡ length ms + 1 = length-append ms (m ∷ []) in
    let below : AreBelow (length ts) ids = subst (λ n. AreBelow n ids) (sym (typed ∙ long)) (numbers_below (length k.made) (length k.made) os (omega arith) objects) in
    let fit : FitsCall call (types_at ts ids) = record { count = length-map ids _ ∙ numbers_len (length k.made) os ∙ count; each = fits } in
    let made : IsCall ts call ids = record { operator = op; before = below; fits = fit } in
    let added : length (calls_of (ms ++ m ∷ [])) ≡ length (calls_of ms) + 1 = ap length (calls_grow ms m) ∙ length-append (calls_of ms) (call ∷ []) in
    record {
      objects = L.made ms m s.objects (subst (λ us. IsCall us call ids) s.types made);
      types = ap (λ us. us ++ answer_of call (types_at us ids) ∷ []) s.types ∙ sym (L.types ms m);
      declared = ap length (L.declared ms m) ∙ ap length (append-nil (declared_of ms)) ∙ s.declared ∙ h.declared;
      called = omega (arith, added, s.called, h.called);
      declarations = h.declarations;
      calls = omega (arith, h.calls, few);
      few = omega (arith, more, long, literals_len os, count, L.short call, h.few);
      most = h.most;
      there = below_wider (length k.made) (length (ms ++ m ∷ [])) k.shown (omega (arith, more, long)) h.there;
      names = names_more (length (ms ++ m ∷ [])) k.bound _ (names_wider (length k.made) (length (ms ++ m ∷ [])) k.bound (omega (arith, more, long)) h.names) (omega (arith, more));
    }

wish_step : Laws → (k next : Known) (name : List ℕ) (os : List Object) (call : Option Call) → IsKnown k → AllByRecursion (IsObject (length k.made)) os
    → ((c : Call) → call ≡ Some c → HasItsOperator c × (length os ≡ length (row c)))
    → after_wish (with_literals k os) name (numbers (length k.made) os) call ≡ Ok next → IsKnown next
wish_step L k next name os None h objects f e = refused _ _ next e
wish_step L k next name os (Some call) h objects f e =
    let ids : List ℕ = numbers (length k.made) os in
    let fits = unrefused (is_some (misfit call (types_at (k.types ++ literal_types os) ids))) _ _ next e in
    let counted = unrefused (eqb k.calls 200) _ _ next fits.1 in
    let fit = f call refl in
    subst IsKnown (got _ next counted.1)
    (call_keeps L k name os call h objects fit.0 fit.1 (none_of _ fits.0) (eqb-false k.calls 200 counted.0))

request_step : Laws → (k next : Known) (name : List ℕ) (found : Option Request) → IsKnown k → ((r : Request) → found ≡ Some r → IsRequest (length k.made) r)
    → after_request k name found ≡ Ok next → IsKnown next
request_step L k next name None h f e = refused _ _ next e
request_step L k next name (Some r) h f e =
    let asked = f r refl in
    let ids : List ℕ = numbers (length k.made) r.objects in
    let ms : List Made = k.made ++ literals r.objects in
    wish_step L k next name r.objects (wished ms r.wish ids) h asked.objects (λ c w. wish_fits ms r.wish ids (length r.objects) c asked.wish w) e

callee_step : Laws → (k next : Known) (name library call : List ℕ) (rs : List Resolved) (found : Option Callee) → IsKnown k
    → AllByRecursion (IsResolved (length k.made)) rs → ((c : Callee) → found ≡ Some c → callee_of library call ≡ Some c)
    → after_callee k name rs found ≡ Ok next → IsKnown next
callee_step L k next name library call rs None h resolved f e = refused _ _ next e
callee_step L k next name library call rs (Some c) h resolved f e =
    request_step L k next name (request_of c rs) h (λ r g. L.requests (length k.made) library call c rs r (f c refl) resolved g) e

names_step : Laws → (k next : Known) (name library call : List ℕ) (found : Option (List Resolved)) → IsKnown k
    → ((rs : List Resolved) → found ≡ Some rs → AllByRecursion (IsResolved (length k.made)) rs)
    → after_names k name library call found ≡ Ok next → IsKnown next
names_step L k next name library call None h f e = refused _ _ next e
names_step L k next name library call (Some rs) h f e =
    callee_step L k next name library call rs (callee_of library call) h (f rs refl) (λ c g. g) e

-- ---- declarations

declare_keeps : Laws → (k next : Known) (name : List ℕ) (d : Declared) → IsKnown k → IsDeclared d → declared k name d ≡ Ok next → IsKnown next
declare_keeps L k next name d h is e =
    let counted = unrefused (eqb k.declarations 64) _ _ next e in
    let unlike : k.declarations ≡ 64 → ⊥ = eqb-false k.declarations 64 counted.0 in
    let m : Made = makes.Declared d in
    let more : length (k.made ++ m ∷ []) ≡ length k.made + 1 = length-append k.made (m ∷ []) in
    let added : length (declared_of (k.made ++ m ∷ [])) ≡ length (declared_of k.made) + 1 = ap length (L.declared k.made m) ∙ length-append (declared_of k.made) (d ∷ []) in
    let made : IsKnown (declare k name d) = record {
      objects = L.made k.made m h.objects is;
      types = ap (λ us. us ++ declared_type d ∷ []) h.types ∙ sym (L.types k.made m);
      declared = omega (arith, added, h.declared);
      called = ap length (calls_grow k.made m) ∙ ap length (append-nil (calls_of k.made)) ∙ h.called;
      declarations = omega (arith, h.declarations, unlike);
      calls = h.calls;
      few = omega (arith, more, h.few);
      most = h.most;
      there = below_wider (length k.made) (length (k.made ++ m ∷ [])) k.shown (omega (arith, more)) h.there;
      names = names_more (length (k.made ++ m ∷ [])) k.bound _ (names_wider (length k.made) (length (k.made ++ m ∷ [])) k.bound (omega (arith, more)) h.names) (omega (arith, more));
    } in
    subst IsKnown (got _ next counted.1) made

-- ---- shown names

show_step : Laws → (k next : Known) (found : Option (List ℕ)) → IsKnown k → ((ids : List ℕ) → found ≡ Some ids → AreBelow (length k.made) ids)
    → shown_also k found ≡ Ok next → IsKnown next
show_step L k next None h f e = refused _ _ next e
show_step L k next (Some ids) h f e =
    let counted = unrefused (ltb 64 (length k.shown + length ids)) _ _ next e in
    let few : length k.shown + length ids ≤ 64 = ltb-false 64 (length k.shown + length ids) counted.0 in
    let made : IsKnown (record k { shown = k.shown ++ ids }) = record {
      objects = h.objects;
      types = h.types;
      declared = h.declared;
      called = h.called;
      declarations = h.declarations;
      calls = h.calls;
      few = h.few;
      most = omega (arith, few, length-append k.shown ids);
      there = below_append (length k.made) k.shown ids h.there (f ids refl);
      names = h.names;
    } in
    subst IsKnown (got _ next counted.1) made

-- ---- statements

pub keeps : Laws → (k next : Known) (st : Statement) → IsKnown k → IsStatement st → after k st ≡ Ok next → IsKnown next
keeps L k next (says.Input name t) h is e = declare_keeps L k next name (Input t) h is (unrefused (is_bound name k) _ _ next e).1
keeps L k next (says.Table name columns) h is e =
    let table : IsTable columns.names columns.cells = record { count = is.count; some = is.some; cells = is.cells } in
    declare_keeps L k next name (Table columns.names columns.cells) h table (unrefused _ _ _ next e).1
keeps L k next (says.Call name library call arguments) h is e =
    names_step L k next name library call (all_resolved k.bound arguments) h
    (λ rs f. L.resolved (length k.made) k.bound arguments rs h.names is f) (unrefused (is_bound name k) _ _ next e).1
keeps L k next (says.Show names) h is e =
    show_step L k next (objects_of k.bound names) h (λ ids f. below_of (length k.made) ids (L.shown (length k.made) k.bound names ids h.names f)) e

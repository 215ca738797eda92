-- The vectors of legs as a chain.
use Rattle.std.proofs.Common.{◌≡◌, ℕ, zero, suc, ◌-◌, ◌<◌, ◌≤◌, List, [], ◌∷◌, ◌++◌, length, take, get_or, refl, sym, ap, ◌∙◌, subst, append_assoc, append-nil, arith}
use Rattle.weld_data.specs.Value.{Value, list, values, list_of_values}
use Rattle.weld_meaning.specs.Thing.{Thing, plain}
use Rattle.weld_eval.specs.declared.thing.Held.{Held}
use Rattle.weld_eval.specs.ThingView.{held_of}
use Rattle.weld_eval_forms.specs.Legs.{elements_in, elements_of_thing, leg_lists, IsVector, AreVectors}

pub vector_at : (hs : List Held) (i : ℕ) (h : Held) → i < length hs → h ≡ get_or hs i h → AreVectors hs → IsVector (held_of h)
vector_at [] i h less is all = absurd (omega arith)
vector_at (g ∷ gs) zero h less is all = subst (λ x. IsVector (held_of x)) (sym is) all.0
vector_at (g ∷ gs) (suc i) h less is all = vector_at gs i h (omega arith) is all.1

pub none_taken : (hs : List Held) (n : ℕ) (rest : List (List Value)) → n ≡ 0 → leg_lists (take n hs) ++ rest ≡ rest
none_taken hs n rest none = ap (λ k. leg_lists (take k hs) ++ rest) none

take_one : (hs : List Held) (i : ℕ) (h : Held) → i < length hs → h ≡ get_or hs i h → leg_lists (take (suc i) hs) ≡ leg_lists (take i hs) ++ elements_in h ∷ []
take_one [] i h less is = absurd (omega arith)
take_one (g ∷ gs) zero h less is = ap (λ x. elements_in x ∷ []) (sym is)
take_one (g ∷ gs) (suc i) h less is = ap (λ l. elements_in g ∷ l) (take_one gs i h (omega arith) is)

pub one_taken : (hs : List Held) (n : ℕ) (h : Held) (xs : List Value) (rest : List (List Value)) → 0 < n → n ≤ length hs → h ≡ get_or hs (n - 1) h → xs ≡ elements_in h → leg_lists (take (n - 1) hs) ++ xs ∷ rest ≡ leg_lists (take n hs) ++ rest
one_taken hs n h xs rest some less is same =
    let one : suc (n - 1) ≡ n = omega arith in
    ap (λ x. leg_lists (take (n - 1) hs) ++ x ∷ rest) same
    ∙ sym (append_assoc (leg_lists (take (n - 1) hs)) (elements_in h ∷ []) rest)
    ∙ ap (λ l. l ++ rest) (sym (take_one hs (n - 1) h (omega arith) is))
    ∙ ap (λ k. leg_lists (take k hs) ++ rest) one

pub column_there : (x : Thing) (v : Value) → x ≡ plain v → IsVector x → IsVector (plain v)
column_there x v e h = subst IsVector e h

listed : (vs : List Value) → list_of_values (values vs) ≡ vs
listed [] = refl
listed (v ∷ vs) = ap (λ l. v ∷ l) (listed vs)

pub column_is : (x : Thing) (xs : List Value) → x ≡ plain (list (values xs)) → xs ≡ elements_of_thing x
column_is x xs e = sym (ap elements_of_thing e ∙ listed xs)

take_all : (hs : List Held) → take (length hs) hs ≡ hs
take_all [] = refl
take_all (h ∷ hs) = ap (λ l. h ∷ l) (take_all hs)

pub all_lists : (hs ks : List Held) (n : ℕ) (ls : List (List Value)) → ks ≡ hs → n ≡ length hs → leg_lists hs ≡ ls → leg_lists (take n ks) ++ [] ≡ ls
all_lists hs ks n ls same long is =
    append-nil (leg_lists (take n ks)) ∙ ap (λ k. leg_lists (take n k)) same ∙ ap (λ m. leg_lists (take m hs)) long ∙ ap (λ k. leg_lists k) (take_all hs) ∙ is

-- From clap's answer to ours.
use Rattle.std.proofs.Common.{inl, inr, ◌≡◌, ◌∙◌, true, refl, sym, ap, subst, List, [], ◌∷◌, map, true}
use Rattle.std.specs.Prelude.{◌⊎◌, ◌&&◌, Bool, false, Result, Ok, Err, string_bytes, MatchResult, IfOk}
use Rattle.std.specs.List.{list_all}
use Rattle.clap.specs.Kinds.{FailsBy, HasKind, IsAmong, Kinds}
use Rattle.clap.specs.Values.{kind_of}
use Rattle.clap.specs.Faults.{fault_of, is_simple_and_free}
use Rattle.clap.specs.Simple.{App, HasMatchesOf, matches_of, is_simple}
use Rattle.clap.specs.Walk.{rows_of}
use Rattle.clap.specs.Matches.{found_of}
use Rattle.clap.specs.declared.error.Error.{Error}
use Rattle.clap.specs.declared.error.kind.ErrorKind.{ErrorKind}
use Rattle.clap.specs.declared.error.kind.ErrorKind.TheVariants as kind
use Rattle.clap.specs.declared.parser.matches.ArgMatches.{ArgMatches}
use Rattle.weld_words.specs.declared.options.Options.{Options}
use Rattle.weld_words.specs.Line.{line, may_stand}
use Rattle.weld_words.specs.Words.{Text, IsForm}
use Rattle.weld_words.specs.Found.{Finds}
use Rattle.weld_words.proofs.Built.{simple_and_free, line_is_simple}
use Rattle.weld_words.proofs.Lexing.{AllMay}
use Rattle.weld_words.proofs.Forms.{finds, form_has_no_fault, form_stands}

both : (a b : Bool) → (a && b) ≡ true → (a ≡ true) × (b ≡ true)
both true b e = (refl, e)
both false b e = cc

pub all_may : {X : Type 0} (f : X → Text) (ws : List X) → list_all (λ w. may_stand (f w)) ws ≡ true → AllMay (map f ws)
all_may f [] e = tt
all_may f (w ∷ ws) e = let b : (may_stand (f w) ≡ true) × (list_all (λ v. may_stand (f v)) ws ≡ true) = both (may_stand (f w)) _ e in (b.0, all_may f ws b.1)

and_true : (a b : Bool) → a ≡ true → b ≡ true → (a && b) ≡ true
and_true true b e f = f
and_true false b e f = cc

pub may_all : {X : Type 0} (f : X → Text) (ws : List X) → AllMay (map f ws) → list_all (λ w. may_stand (f w)) ws ≡ true
may_all f [] h = refl
may_all f (w ∷ ws) h = and_true (may_stand (f w)) _ h.0 (may_all f ws h.1)

-- at an Ok, clap's matches are what is found
pub ok_finds : (a : App) (ws : List Text) (m : ArgMatches) → a ≡ line → AllMay ws → (is_simple_and_free a ≡ true → fault_of a ws ≡ []) → HasMatchesOf a ws m → Finds ws m
ok_finds a ws m e h f k =
    finds ws m h (ap (λ (x : App). fault_of x ws) (sym e) ∙ f (ap is_simple_and_free e ∙ simple_and_free)) ((k (ap is_simple e ∙ line_is_simple)).0 ∙ ap (λ (x : App). matches_of x ws) e)

-- at an Err of another kind, the words aren't in form
pub err_refuses : (a : App) (ws : List Text) (error : Error) → a ≡ line → (is_simple_and_free a ≡ true → HasKind (fault_of a ws) error) → (kind_of error ≡ kind.OutOfMemory → ⊥) → (o : Options) → IsForm ws o → ⊥
err_refuses a ws error e f n o g =
    let none : fault_of a ws ≡ [] = ap (λ (x : App). fault_of x ws) e ∙ form_has_no_fault ws o g in
    let has : HasKind [] error = subst (λ (ks : Kinds). HasKind ks error) none (f (ap is_simple_and_free e ∙ simple_and_free)) in
    elim has [ inl h ↦ n h | inr h ↦ h ]

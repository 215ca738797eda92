-- What a refusal of one of the checks says of the text.
use Rattle.std.proofs.Common.{◌≡◌, ℕ, List, Option, Some, None, inl, inr, sym, subst, ap, refl, ◌≢◌, ◌∙◌}
use Rattle.weld_tree.specs.TypeTree.{TypeTree}
use Rattle.weld_tree.specs.Program.{ProgramTree}
use Rattle.weld_tree.specs.declared.code.Code.{Code}
use Rattle.weld_tree.specs.declared.place.Place.{Place}
use Rattle.weld_tree.specs.declared.refusal.Refusal.{Refusal}
use Rattle.weld_tree.specs.declared.refusal.Refusal.TheVariants.{At, Size, Memory}
use Rattle.weld_parse.specs.Parses.{Parses, IsRefused}
use Rattle.weld_types.specs.Walk.{found, refusal_of, program_type, typing_refusal}
use Rattle.weld_types.specs.Says.{RefusalSays}
use Rattle.weld_meaning.specs.LinearWalk.{linear_refusal}
use Rattle.weld_uses.specs.Walks.{Fails}
use Rattle.weld_check_types.specs.Unnoted.{IsSameButNotes}
use Rattle.weld_front.specs.Accepting.{IsCheckedOf, Says, RefusesOr}

pub by_text : (text : List ℕ) (r : Refusal) → (r ≢ Memory → IsRefused text r) → RefusesOr text r
by_text text (At c p) h = inl (h (λ e. cc))
by_text text (Size c) h = inl (h (λ e. cc))
by_text text Memory h = tt

pub by_types : (text : List ℕ) (p : ProgramTree) (r : Refusal) → Parses text p → RefusalSays r (program_type p) → RefusesOr text r
by_types text p (At c place) h s =
    let says : typing_refusal p ≡ Some (c, place) = ap refusal_of s in
    inr (inl (record { program = p; parses = h; says = subst (λ (o : Option (Code × Place)). Says o (At c place)) (sym says) refl }))
by_types text p (Size c) h s = absurd s
by_types text p Memory h s = tt

pub by_linear : (text : List ℕ) (p q : ProgramTree) (t : TypeTree) (r : Refusal) → Parses text p → program_type p ≡ found t → linear_refusal q ≡ linear_refusal p → Fails r (linear_refusal q) → RefusesOr text r
by_linear text p q t (At c place) h e same s =
    inr (inr (record { program = p; type = t; parses = h; typed = e; says = subst (λ (o : Option (Code × Place)). Says o (At c place)) (sym s ∙ same) refl }))
by_linear text p q t (Size c) h e same s = absurd s
by_linear text p q t Memory h e same s = tt

pub checked : (text : List ℕ) (p q : ProgramTree) (t : TypeTree) → Parses text p → program_type p ≡ found t → IsSameButNotes q p → linear_refusal q ≡ linear_refusal p → linear_refusal q ≡ None → IsCheckedOf text q t
checked text p q t h e s same none = record { spelled = p; same = s; accepts = record { parses = h; typed = e; linear = sym same ∙ none } }

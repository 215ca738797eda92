-- All the words, as clap reads them and as the parts do.
use Rattle.std.proofs.Common.{◌≡◌, ◌∙◌, ℕ, Bool, cond, true, false, refl, sym, ap, ap₂, subst, List, [], ◌∷◌, ◌++◌, map, Option, Some, None}
use Rattle.std.specs.Prelude.{◌||◌, ◌&&◌, not, codes, option_and_then, option_map, is_some}
use Rattle.std.specs.List.{fold, AllByRecursion}
use Rattle.clap.specs.Walk.{Held, Rule, Row, Text, Walk, has_row, used, settled, settled_rows, walked, walk_from, nothing_held, with_default, finished}
use Rattle.clap.specs.Faults.{settle_fault, turn_fault, walk_fault, defaults_fault, default_fault, check_fault, entered_fault, fault_of, given_default_fault}
use Rattle.clap.specs.Simple.{entered, matches_of}
use Rattle.clap.specs.Kinds.{Kinds, or_else}
use Rattle.clap.specs.declared.parser.matches.ValueSource.TheVariants.{DefaultValue}
use Rattle.weld_words.specs.Line.{line}
use Rattle.weld_words.specs.Words.{Name, workers, cut, seed, rows, name_text, Part}
use Rattle.weld_words.proofs.Built.{filled_value, filled_option, filled_report, rules, shape, app}
use Rattle.weld_words.proofs.Rows.{rows_for, row_with, fresh}
use Rattle.weld_words.proofs.Steps.{State, Pend, free, set_parts, settle, step, walk_for, held_for, pending_for, Settles, settles, Follows, follows, Stands, first_none, second_none, both_none}

abbrev pub run : State → List Text → Option State
run s [] = Some s
run s (w ∷ ws) = option_and_then (λ (t : State). run t ws) (step s w)

abbrev pub start : State
start = set_parts free false []

abbrev pub ended : Option State → Option (List Part)
ended None = None
ended (Some s) = settle s.parts s.pend

-- the parts of the words, where clap finds no fault
abbrev pub read : List Text → Option (List Part)
read ws = ended (run start ws)

abbrev pub AllStand : List Text → Type 0
AllStand ws = AllByRecursion Stands ws

abbrev pub Walks : Option State → State → List Text → Type 0
Walks None s ws = walk_fault shape [] (walk_for s) ws ≡ [] → ⊥
Walks (Some t) s ws = (walk_fault shape [] (walk_for s) ws ≡ []) × (fold (walked rules []) (walk_for s) ws ≡ walk_for t)

turn_then : (s : State) (w : Text) (ws : List Text) → walk_fault shape [] (walk_for s) (w ∷ ws) ≡ or_else (turn_fault shape [] (walk_for s) w) (walk_fault shape [] (walked rules [] (walk_for s) w) ws)
unfolding walk_fault
turn_then s w ws = refl

after_turn : (s t : State) (w : Text) (ws : List Text) → turn_fault shape [] (walk_for s) w ≡ [] → walked rules [] (walk_for s) w ≡ walk_for t → (o : Option State) → Walks o t ws → Walks o s (w ∷ ws)
after_turn s t w ws e f None k = λ g.
    k (ap (λ (x : Walk). walk_fault shape [] x ws) (sym f) ∙ second_none (turn_fault shape [] (walk_for s) w) _ (sym (turn_then s w ws) ∙ g))
after_turn s t w ws e f (Some u) k = (
  turn_then s w ws ∙ both_none (turn_fault shape [] (walk_for s) w) _ e (ap (λ (x : Walk). walk_fault shape [] x ws) f ∙ k.0),
  ap (λ (x : Walk). fold (walked rules []) x ws) f ∙ k.1,
)

pub walks : (s : State) (ws : List Text) → AllStand ws → Walks (run s ws) s ws
unfolding walk_fault
walks s [] h = (refl, refl)
walks s (w ∷ ws) h = more (λ t. walks t ws h.1) (step s w) (follows s w h.0)
  where
    more : ((t : State) → Walks (run t ws) t ws) → (o : Option State) → Follows o s (turn_fault shape [] (walk_for s) w) (walked rules [] (walk_for s) w) → Walks (option_and_then (λ (t : State). run t ws) o) s (w ∷ ws)
    more ih None f = λ g. f (first_none (turn_fault shape [] (walk_for s) w) _ (sym (turn_then s w ws) ∙ g))
    more ih (Some t) f = after_turn s t w ws f.0 f.1 (run t ws) (ih t)

-- ---- the end

same_both : {X : Type 0} (b : Bool) (x : X) → cond b x x ≡ x
same_both true x = refl
same_both false x = refl

-- a report that isn't asked for has the default, and nothing else has one
abbrev pub with_report : List Row → List Row
with_report rs = cond (has_row (codes "report") rs) rs (rs ++ row_with DefaultValue (codes "report") (codes "false") ∷ [])

no_default : (id : Text) (long : Option Text) (index : Option ℕ) (rs : List Row) → with_default rs (filled_value id long index) ≡ rs
no_default id long index rs = same_both (has_row id rs) rs

report_default : (rs : List Row) → with_default rs filled_report ≡ with_report rs
report_default rs = go (has_row (codes "report") rs) refl
  where
    go : (b : Bool) → has_row (codes "report") rs ≡ b → with_default rs filled_report ≡ with_report rs
    go true h = rw h refl
    go false h = rw h (fresh DefaultValue (codes "report") (codes "false") rs h)

abbrev from_report : List Rule
from_report = filled_report ∷ []

abbrev from_rows : List Rule
from_rows = filled_option rows ∷ from_report

abbrev from_seed : List Rule
from_seed = filled_option seed ∷ from_rows

abbrev from_cut : List Rule
from_cut = filled_option cut ∷ from_seed

abbrev from_workers : List Rule
from_workers = filled_option workers ∷ from_cut

value_finish : (id : Text) (long : Option Text) (index : Option ℕ) (rs : List Row) (rest : List Rule) → fold with_default rs (filled_value id long index ∷ rest) ≡ fold with_default rs rest
value_finish id long index rs rest = ap (λ (x : List Row). fold with_default x rest) (no_default id long index rs)

pub finished_is : (rs : List Row) → fold with_default rs rules ≡ with_report rs
finished_is rs =
    value_finish (codes "command") None (Some 1) rs from_workers
    ∙ (value_finish (name_text workers) (Some (name_text workers)) None rs from_cut
    ∙ (value_finish (name_text cut) (Some (name_text cut)) None rs from_seed
    ∙ (value_finish (name_text seed) (Some (name_text seed)) None rs from_rows
    ∙ (value_finish (name_text rows) (Some (name_text rows)) None rs from_report
    ∙ report_default rs))))

no_default_fault : (id : Text) (long : Option Text) (index : Option ℕ) (rs : List Row) → default_fault rs (filled_value id long index) ≡ []
no_default_fault id long index rs = go (has_row id rs) refl
  where
    go : (b : Bool) → has_row id rs ≡ b → default_fault rs (filled_value id long index) ≡ []
    go true h = rw h refl
    go false h = rw h refl

report_default_fault : (rs : List Row) → default_fault rs filled_report ≡ []
report_default_fault rs = go (has_row (codes "report") rs) refl
  where
    go : (b : Bool) → has_row (codes "report") rs ≡ b → default_fault rs filled_report ≡ []
    go true h = rw h refl
    go false h = rw h refl

default_then : (rs : List Row) (a : Rule) (rest : List Rule) → default_fault rs a ≡ [] → defaults_fault (with_default rs a) rest ≡ [] → defaults_fault rs (a ∷ rest) ≡ []
unfolding defaults_fault
default_then rs a rest e f = both_none (default_fault rs a) (defaults_fault (with_default rs a) rest) e f

value_then : (id : Text) (long : Option Text) (index : Option ℕ) (rs : List Row) (rest : List Rule) → defaults_fault rs rest ≡ [] → defaults_fault rs (filled_value id long index ∷ rest) ≡ []
value_then id long index rs rest f =
    default_then rs (filled_value id long index) rest (no_default_fault id long index rs) (ap (λ (x : List Row). defaults_fault x rest) (no_default id long index rs) ∙ f)

no_faults : (rs : List Row) → defaults_fault rs [] ≡ []
unfolding defaults_fault
no_faults rs = refl

pub defaults_pass : (rs : List Row) → defaults_fault rs rules ≡ []
defaults_pass rs =
    value_then (codes "command") None (Some 1) rs _
    (value_then (name_text workers) (Some (name_text workers)) None rs _
    (value_then (name_text cut) (Some (name_text cut)) None rs _
    (value_then (name_text seed) (Some (name_text seed)) None rs _
    (value_then (name_text rows) (Some (name_text rows)) None rs _
    (default_then rs filled_report [] (report_default_fault rs) (no_faults (with_default rs filled_report)))))))

-- the faults of the words, by where the walk ends
abbrev level_by : Kinds → Walk → Kinds
level_by f w =
    or_else f (or_else (entered_fault app w.stopped) (or_else (settle_fault rules false w.held)
    (or_else (defaults_fault (settled rules w.held).rows rules) (check_fault shape (finished rules w.held) (is_some (entered app w.stopped))))))

fault_is : (ws : List Text) → fault_of line ws ≡ level_by (walk_fault shape [] (walk_for start) ws) (fold (walked rules []) (walk_for start) ws)
fault_is ws = refl

matches_are : (ws : List Text) → matches_of line ws ≡ finished rules (fold (walked rules []) (walk_for start) ws).held
matches_are ws = refl

pub check_passes : (rs : List Row) → check_fault shape rs false ≡ []
check_passes rs = refl

-- what clap finds in the words, by their parts
abbrev pub Reads : Option (List Part) → List Text → Type 0
Reads None ws = fault_of line ws ≡ [] → ⊥
Reads (Some ps) ws = (fault_of line ws ≡ []) × (matches_of line ws ≡ with_report (rows_for ps))

end_passes : (rs : List Row) (f : Kinds) → f ≡ [] → or_else f (or_else (defaults_fault rs rules) (check_fault shape (fold with_default rs rules) false)) ≡ []
end_passes rs f e = both_none f (or_else (defaults_fault rs rules) (check_fault shape (fold with_default rs rules) false)) e (both_none (defaults_fault rs rules) (check_fault shape (fold with_default rs rules) false) (defaults_pass rs) (check_passes (fold with_default rs rules)))

ends : (ws : List Text) (s : State) (o : Option (List Part)) → walk_fault shape [] (walk_for start) ws ≡ [] → fold (walked rules []) (walk_for start) ws ≡ walk_for s → Settles o (held_for s.parts s.pend) → Reads o ws
ends ws s None e w k = λ f.
    let g : level_by [] (walk_for s) ≡ [] = sym (ap₂ level_by e w) ∙ (sym (fault_is ws) ∙ f) in
    k (first_none (settle_fault rules false (held_for s.parts s.pend)) _ g)
ends ws s (Some ps) e w k = (
  fault_is ws ∙ (ap₂ level_by e w ∙ end_passes (settled_rows rules (pending_for s.pend) (rows_for s.parts)) (settle_fault rules false (held_for s.parts s.pend)) k.0),
  matches_are ws ∙ (ap (λ (x : Walk). finished rules x.held) w ∙ (ap (λ (rs : List Row). fold with_default rs rules) k.1 ∙ finished_is (rows_for ps))),
)

pub reads : (ws : List Text) → AllStand ws → Reads (read ws) ws
reads ws h = go (run start ws) (walks start ws h)
  where
    go : (o : Option State) → Walks o start ws → Reads (ended o) ws
    go None k = λ f. k (first_none (walk_fault shape [] (walk_for start) ws) _ (sym (fault_is ws) ∙ f))
    go (Some s) k = ends ws s (settle s.parts s.pend) k.0 k.1 (settles s.parts s.pend)

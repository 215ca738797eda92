-- What a run has counted so far, and what is left to count.
use Rattle.std.proofs.Common.{◌≡◌, ℕ, ◌+◌, ◌*◌, ◌<◌, ◌≤◌, List, [], ◌∷◌, length, refl, sym, ap, ◌∙◌, subst, arith}
use Rattle.std.proofs.lemmas.List.Sums.{sum_by-cons}
use Rattle.std.specs.List.{sum}
use Rattle.weld_data.specs.Value.{Value}
use Rattle.weld_tree.specs.Program.{loops}
use Rattle.weld_builders.specs.Outcome.{done}
use Rattle.weld_meaning.specs.Meaning.{meaning}
use Rattle.weld_tiles.specs.declared.tile.Tile.{Tile}
use Rattle.weld_tiles.specs.Tiling.{numbered, AddsHalves}
use Rattle.weld_plan.specs.SharedRows.{program_rows}
use Rattle.weld_sizes.specs.Lanes.{lane_marks}
use Rattle.weld_sizes.specs.Marks.{set_among}
use Rattle.weld_sizes.specs.Sized.{sized_marks}
use Rattle.weld_plan.specs.declared.plan.Plan.{Plan}
use Rattle.weld_exec.specs.Run.{env_inputs, program_meaning, rows_left, left_of}
use Rattle.weld_exec.specs.declared.env.Env.{Env}
use Rattle.weld_share.specs.Counts.{AreCut, AreAllCut, IsNote}
use Rattle.weld_share.specs.declared.note.RunNote.{RunNote}

-- ---- the tiles of one loop

length_numbered : (n : ℕ) (rs : List (ℕ × ℕ)) → length (numbered n rs) ≡ length rs
length_numbered n [] = refl
length_numbered n (r ∷ rs) = let rest = length_numbered (n + 1) rs in omega arith

pub tiles_are_cut : (cut rows : ℕ) (list : List Tile) → AddsHalves cut 0 rows [] list → AreCut cut rows (length list)
tiles_are_cut cut rows list h = (h.ranges, h.cuts, ap length h.behind ∙ length_numbered 0 h.ranges)

-- ---- all of them

-- what was counted and what is left are, where the program has a value, what it has together
pub record HasCounted (p : Plan) (e : Env) (cut : ℕ) (note : RunNote) : Type 0 where
  pub loops : note.loops ≡ loops p.program.now.body
  pub sized : note.sized ≡ set_among (sized_marks p.program.now.body)
  pub lanes : note.lanes ≡ set_among (lane_marks p.program.now.body)
  pub tiles : (v : Value) → program_meaning p e ≡ done v → (n : ℕ) → AreAllCut cut (rows_left p e) n → AreAllCut cut (program_rows p.program.now (env_inputs e)) (note.tiles + n)
  pub turns : (v : Value) → program_meaning p e ≡ done v → note.turns + sum (rows_left p e) ≡ sum (program_rows p.program.now (env_inputs e))

-- the rows of so many loops more can be counted
pub record HasRoom (p : Plan) (e : Env) (note : RunNote) : Type 0 where
  pub few : length p.steps.items < 18446744073709551616
  pub tiles : note.tiles + left_of p e * 18446744073709551616 ≤ length p.steps.items * 18446744073709551616
  pub turns : note.turns + left_of p e * 18446744073709551616 ≤ length p.steps.items * 18446744073709551616

pub counted_start : (p : Plan) (e : Env) (cut : ℕ) (note : RunNote) (inputs : List Value) → env_inputs e ≡ inputs → ((v : Value) → meaning p.program.now inputs ≡ done v → rows_left p e ≡ program_rows p.program.now inputs)
    → note.loops ≡ loops p.program.now.body → note.sized ≡ set_among (sized_marks p.program.now.body) → note.lanes ≡ set_among (lane_marks p.program.now.body) → note.tiles ≡ 0 → note.turns ≡ 0 → HasCounted p e cut note
counted_start p e cut note inputs same start is sized lanes tiles turns =
    let all : (v : Value) → program_meaning p e ≡ done v → rows_left p e ≡ program_rows p.program.now (env_inputs e) =
    λ v q. start v (sym (ap (meaning p.program.now) same) ∙ q) ∙ ap (program_rows p.program.now) (sym same) in
    record {
      loops = is;
      sized = sized;
      lanes = lanes;
      tiles = λ v q n h.
          let none : n ≡ note.tiles + n = omega arith in
          subst (λ rows. AreAllCut cut rows (note.tiles + n)) (all v q) (subst (AreAllCut cut (rows_left p e)) none h);
      turns = λ v q. let none : note.turns + sum (rows_left p e) ≡ sum (rows_left p e) = omega arith in none ∙ ap sum (all v q);
    }

pub counted_same : (p : Plan) (e next : Env) (cut : ℕ) (note : RunNote) → HasCounted p e cut note → env_inputs next ≡ env_inputs e → rows_left p next ≡ rows_left p e → HasCounted p next cut note
counted_same p e next cut note h same left = record {
  loops = h.loops;
  sized = h.sized;
  lanes = h.lanes;
  tiles = λ v q n k.
      subst (λ inputs. AreAllCut cut (program_rows p.program.now inputs) (note.tiles + n)) (sym same)
      (h.tiles v (sym (ap (meaning p.program.now) same) ∙ q) n (subst (λ rows. AreAllCut cut rows n) left k));
  turns = λ v q. ap (λ rows. note.turns + sum rows) left ∙ h.turns v (sym (ap (meaning p.program.now) same) ∙ q) ∙ ap (λ inputs. sum (program_rows p.program.now inputs)) (sym same);
}

pub counted_on : (p : Plan) (e next : Env) (cut : ℕ) (note : RunNote) (tiles rows : ℕ) → HasCounted p e cut note → env_inputs next ≡ env_inputs e → rows_left p e ≡ rows ∷ rows_left p next → AreCut cut rows tiles
    → HasCounted p next cut (record note { tiles = note.tiles + tiles; turns = note.turns + rows })
counted_on p e next cut note tiles rows h same left are = record {
  loops = h.loops;
  sized = h.sized;
  lanes = h.lanes;
  tiles = λ v q n k.
      let more : note.tiles + (tiles + n) ≡ note.tiles + tiles + n = omega arith in
      subst (AreAllCut cut (program_rows p.program.now (env_inputs next))) more
      (subst (λ inputs. AreAllCut cut (program_rows p.program.now inputs) (note.tiles + (tiles + n))) (sym same)
      (h.tiles v (sym (ap (meaning p.program.now) same) ∙ q) (tiles + n) (subst (λ rows. AreAllCut cut rows (tiles + n)) (sym left) (tiles, n, are, k, refl))));
  turns = λ v q.
      let parts : sum (rows ∷ rows_left p next) ≡ rows + sum (rows_left p next) = sum_by-cons (λ x. x) rows (rows_left p next) in
      let more : note.turns + rows + sum (rows_left p next) ≡ note.turns + sum (rows ∷ rows_left p next) = omega arith in
      more ∙ ap (λ l. note.turns + sum l) (sym left) ∙ h.turns v (sym (ap (meaning p.program.now) same) ∙ q) ∙ ap (λ inputs. sum (program_rows p.program.now inputs)) (sym same);
}

pub counted_end : (p : Plan) (e : Env) (cut : ℕ) (note : RunNote) (inputs : List Value) (v : Value) → HasCounted p e cut note → env_inputs e ≡ inputs → program_meaning p e ≡ done v → rows_left p e ≡ [] → IsNote p.program.now inputs cut note
counted_end p e cut note inputs v h same q none = record {
  loops = h.loops;
  sized = h.sized;
  lanes = h.lanes;
  tiles = let all : note.tiles + 0 ≡ note.tiles = omega arith in
      subst (λ vs. AreAllCut cut (program_rows p.program.now vs) note.tiles) same
      (subst (AreAllCut cut (program_rows p.program.now (env_inputs e))) all (h.tiles v q 0 (subst (λ rows. AreAllCut cut rows 0) (sym none) refl)));
  turns = let all : note.turns ≡ note.turns + sum [] = omega arith in
      all ∙ ap (λ l. note.turns + sum l) (sym none) ∙ h.turns v q ∙ ap (λ vs. sum (program_rows p.program.now vs)) same;
}

-- ---- room

pub room_start : (p : Plan) (e : Env) (note : RunNote) → length p.steps.items < 18446744073709551616 → note.tiles ≡ 0 → note.turns ≡ 0 → HasRoom p e note
room_start p e note few tiles turns = record { few = few; tiles = omega arith; turns = omega arith }

pub room_left : (p : Plan) (e next : Env) (note : RunNote) → HasRoom p e note → left_of p next ≤ left_of p e → HasRoom p next note
room_left p e next note h less =
    let tiles = h.tiles in
    let turns = h.turns in
    record { few = h.few; tiles = omega arith; turns = omega arith }

pub room_on : (p : Plan) (e next : Env) (note : RunNote) (tiles rows : ℕ) → HasRoom p e note → left_of p next < left_of p e → tiles < 18446744073709551616 → rows < 18446744073709551616 → HasRoom p next (record note { tiles = note.tiles + tiles; turns = note.turns + rows })
room_on p e next note tiles rows h less small low =
    let before = h.tiles in
    let turned = h.turns in
    record { few = h.few; tiles = omega arith; turns = omega arith }

-- a loop more can be counted
pub room_for : (p : Plan) (e next : Env) (counted more : ℕ) → length p.steps.items < 18446744073709551616 → counted + left_of p e * 18446744073709551616 ≤ length p.steps.items * 18446744073709551616 → left_of p next < left_of p e → more < 18446744073709551616
    → counted + more < 340282366920938463463374607431768211456
room_for p e next counted more few room less small = omega arith

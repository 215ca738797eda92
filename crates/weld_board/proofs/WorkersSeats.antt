-- Workers that are seated, and that come back.
use Rattle.std.proofs.Common.{◌≡◌, ℕ, ◌+◌, ◌≤◌, zero, suc, List, [], ◌∷◌, ◌++◌, length, map, All, refl, ap, sym, ◌∙◌, subst, append-nil, take, drop, arith}
use Rattle.std.proofs.lemmas.List.{map-append}
use Rattle.std.proofs.Math.Seq.{take-append_seam}
use Rattle.std.proofs.lemmas.List.Elements.{All-nil, All-cons}
use Rattle.weld_board.specs.Dealing.{joined}
use Rattle.weld_board.proofs.HandsDealt.{joined-append}
use Rattle.weld_board.specs.declared.board.Board.{Board}
use Rattle.weld_board.specs.declared.seat.Seat.{Seat}
use Rattle.weld_board.specs.Draws.{tiles_drawn}
use Rattle.weld_board.specs.Sitting.{Sits, AreFresh, taken}
use Rattle.weld_board.specs.declared.workers.span.Span.{Span}
use Rattle.weld_board.specs.declared.workers.worker.Worker.{Worker}
use Rattle.weld_board.specs.Spans.{jobs_in, AreMade, IfFault}
use Rattle.weld_board.specs.Work.{HasDone, Works, IsIdle, HasWorked, Goes}
use Rattle.weld_board.proofs.Ending.{jobs_in-append}

-- a seat that has taken nothing
abbrev pub IsFresh : Board → Seat → Type 0
IsFresh b s = Sits b s × (taken s ≡ [])

pub fresh_all : (b : Board) (k : ℕ) (ss : List Seat) → AreFresh b k ss → All (IsFresh b) ss
fresh_all b k [] h = All-nil (IsFresh b)
fresh_all b k (s ∷ ss) h = All-cons (IsFresh b) s ss (h.0, ap (tiles_drawn s.dealt) h.2) (fresh_all b (k + 1) ss h.3)

pub idle_works : {P : Type 0} (made : ℕ → ℕ → P → Type 0) (faults : Type 0) (b : Board) (w : Worker P) → IsIdle b w → Works made faults b w
idle_works made faults b w h = record {
  sits = h.sits;
  done = subst (λ stop. HasDone made faults stop w.spans.items (taken w.seat)) (sym h.goes)
      (subst (AreMade made) (sym h.none_made) tt, ap jobs_in h.none_made ∙ sym h.none_taken);
  fault = subst (λ stop. IfFault stop faults) (sym h.goes) tt;
}

-- what a worker has done that nothing has stopped
pub has_done : {P : Type 0} (made : ℕ → ℕ → P → Type 0) (faults : Type 0) (b : Board) (w : Worker P) → HasWorked made faults b w → Goes w → AreMade made w.spans.items × (jobs_in w.spans.items ≡ taken w.seat)
has_done made faults b w h go = subst (λ stop. HasDone made faults stop w.spans.items (taken w.seat)) go h.0.done

pub joined_more : {P : Type 0} (spans more all : List (Span P)) (seats : List Seat) (s : Seat) → jobs_in spans ≡ joined (map taken seats) → jobs_in more ≡ taken s → all ≡ spans ++ more → jobs_in all ≡ joined (map taken (seats ++ s ∷ []))
joined_more spans more all seats s a b e =
    ap jobs_in e ∙ jobs_in-append spans more ∙ ap (λ l. l ++ jobs_in more) a ∙ ap (λ l. joined (map taken seats) ++ l) (b ∙ sym (append-nil (taken s))) ∙ sym (joined-append (map taken seats) (taken s ∷ []))
    ∙ ap joined (sym (map-append taken seats (s ∷ [])))

-- ---- a worker more or less

none_behind : {A : Type 0} (n : ℕ) (xs : List A) → length xs ≤ n → drop n xs ≡ []
none_behind zero [] le = refl
none_behind zero (x ∷ xs) le = absurd (omega arith)
none_behind (suc n) [] le = refl
none_behind (suc n) (x ∷ xs) le = none_behind n xs (omega arith)

-- a vector written through a slice of as many items
pub written : {A : Type 0} (n : ℕ) (xs ys : List A) → n ≡ length xs → length ys ≡ length xs → take n (ys ++ drop (length ys) xs) ≡ ys
written n xs ys e f =
    let same : n ≡ length ys = omega arith in
    ap (λ l. take n (ys ++ l)) (none_behind (length ys) xs (omega arith)) ∙ ap (λ m. take m (ys ++ [])) same ∙ take-append_seam ys []

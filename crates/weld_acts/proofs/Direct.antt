-- Where each loop in a node acts on its own builder, each loop in its parts does.
use Rattle.std.proofs.Common.{◌≡◌, ℕ, ◌+◌, ◌<◌, List, length, drop, get_or, map, sym, subst}
use Rattle.std.proofs.lemmas.List.{at_drop_more}
use Rattle.weld_tree.specs.declared.binder.Binder.{Binder}
use Rattle.weld_tree.specs.declared.expr.Leg.{Leg}
use Rattle.weld_tree.specs.ExprTree.{ExprTree, ExprTrees, At, one, two, three, many, let_in, loop, iterate, LegTree, LegTrees, whole, strided, One, Two, Three, Many, pack_exprs, pack_legs}
use Rattle.weld_tree.specs.ExprView.{view_leg}
use Rattle.weld_acts.specs.Act.{AreDirect, AllDirect, LegDirect, LegsDirect, IsOwnAct}

pub direct_part : (a : At) (o : One) (e n : ExprTree) → n ≡ one a o e → AreDirect n → AreDirect e
direct_part a o e n is h = subst (λ m. AreDirect m) is h

pub direct_first : (a : At) (o : Two) (e f n : ExprTree) → n ≡ two a o e f → AreDirect n → AreDirect e
direct_first a o e f n is h = let k = subst (λ m. AreDirect m) is h in k.0

pub direct_second : (a : At) (o : Two) (e f n : ExprTree) → n ≡ two a o e f → AreDirect n → AreDirect f
direct_second a o e f n is h = let k = subst (λ m. AreDirect m) is h in k.1

pub direct_condition : (a : At) (o : Three) (c e f n : ExprTree) → n ≡ three a o c e f → AreDirect n → AreDirect c
direct_condition a o c e f n is h = let k = subst (λ m. AreDirect m) is h in k.0

pub direct_then : (a : At) (o : Three) (c e f n : ExprTree) → n ≡ three a o c e f → AreDirect n → AreDirect e
direct_then a o c e f n is h = let k = subst (λ m. AreDirect m) is h in k.1

pub direct_otherwise : (a : At) (o : Three) (c e f n : ExprTree) → n ≡ three a o c e f → AreDirect n → AreDirect f
direct_otherwise a o c e f n is h = let k = subst (λ m. AreDirect m) is h in k.2

pub direct_parts : (a : At) (o : Many) (es : ExprTrees) (n : ExprTree) → n ≡ many a o es → AreDirect n → AllDirect es
direct_parts a o es n is h = subst (λ m. AreDirect m) is h

pub direct_value : (a : At) (b : Binder) (e f n : ExprTree) → n ≡ let_in a b e f → AreDirect n → AreDirect e
direct_value a b e f n is h = let k = subst (λ m. AreDirect m) is h in k.0

pub direct_let_body : (a : At) (b : Binder) (e f n : ExprTree) → n ≡ let_in a b e f → AreDirect n → AreDirect f
direct_let_body a b e f n is h = let k = subst (λ m. AreDirect m) is h in k.1

pub direct_legs : (a : At) (ls : LegTrees) (e : ExprTree) (b n x : Binder) (f m : ExprTree) → m ≡ loop a ls e b n x f → AreDirect m → LegsDirect ls
direct_legs a ls e b n x f m is h = let k = subst (λ l. AreDirect l) is h in k.0

pub direct_builder : (a : At) (ls : LegTrees) (e : ExprTree) (b n x : Binder) (f m : ExprTree) → m ≡ loop a ls e b n x f → AreDirect m → AreDirect e
direct_builder a ls e b n x f m is h = let k = subst (λ l. AreDirect l) is h in k.1

pub direct_loop_body : (a : At) (ls : LegTrees) (e : ExprTree) (b n x : Binder) (f m : ExprTree) → m ≡ loop a ls e b n x f → AreDirect m → AreDirect f
direct_loop_body a ls e b n x f m is h = let k = subst (λ l. AreDirect l) is h in k.2

pub direct_own : (a : At) (ls : LegTrees) (e : ExprTree) (b n x : Binder) (f m : ExprTree) → m ≡ loop a ls e b n x f → AreDirect m → IsOwnAct b n x f
direct_own a ls e b n x f m is h = let k = subst (λ l. AreDirect l) is h in k.3

pub direct_state : (a : At) (e : ExprTree) (b : Binder) (f n : ExprTree) → n ≡ iterate a e b f → AreDirect n → AreDirect e
direct_state a e b f n is h = let k = subst (λ m. AreDirect m) is h in k.0

pub direct_turn : (a : At) (e : ExprTree) (b : Binder) (f n : ExprTree) → n ≡ iterate a e b f → AreDirect n → AreDirect f
direct_turn a e b f n is h = let k = subst (λ m. AreDirect m) is h in k.1

-- ---- one after another

pub direct_at : (es : List ExprTree) (i : ℕ) (e : ExprTree) → i < length es → e ≡ get_or es i e → AllDirect (pack_exprs (drop i es)) → AreDirect e
direct_at es i e h is k = let all = subst (λ l. AllDirect l) (at_drop_more (λ l. pack_exprs l) es i e h) k in subst (λ d. AreDirect d) (sym is) all.0

pub direct_after : (es : List ExprTree) (i : ℕ) (e : ExprTree) → i < length es → e ≡ get_or es i e → AllDirect (pack_exprs (drop i es)) → AllDirect (pack_exprs (drop (i + 1) es))
direct_after es i e h is k = let all = subst (λ l. AllDirect l) (at_drop_more (λ l. pack_exprs l) es i e h) k in all.1

pub direct_leg_at : (ls : List Leg) (i : ℕ) (l : Leg) → i < length ls → l ≡ get_or ls i l → LegsDirect (pack_legs (map view_leg (drop i ls))) → LegDirect (view_leg l)
direct_leg_at ls i l h is k =
    let all = subst (λ m. LegsDirect m) (at_drop_more (λ m. pack_legs (map view_leg m)) ls i l h) k in subst (λ m. LegDirect (view_leg m)) (sym is) all.0

pub direct_legs_after : (ls : List Leg) (i : ℕ) (l : Leg) → i < length ls → l ≡ get_or ls i l → LegsDirect (pack_legs (map view_leg (drop i ls))) → LegsDirect (pack_legs (map view_leg (drop (i + 1) ls)))
direct_legs_after ls i l h is k = let all = subst (λ m. LegsDirect m) (at_drop_more (λ m. pack_legs (map view_leg m)) ls i l h) k in all.1

pub direct_whole : (e : ExprTree) (l : LegTree) → l ≡ whole e → LegDirect l → AreDirect e
direct_whole e l is h = subst (λ m. LegDirect m) is h

pub direct_vector : (e f g i : ExprTree) (l : LegTree) → l ≡ strided e f g i → LegDirect l → AreDirect e
direct_vector e f g i l is h = let k = subst (λ m. LegDirect m) is h in k.0

pub direct_start : (e f g i : ExprTree) (l : LegTree) → l ≡ strided e f g i → LegDirect l → AreDirect f
direct_start e f g i l is h = let k = subst (λ m. LegDirect m) is h in k.1

pub direct_end : (e f g i : ExprTree) (l : LegTree) → l ≡ strided e f g i → LegDirect l → AreDirect g
direct_end e f g i l is h = let k = subst (λ m. LegDirect m) is h in k.2

pub direct_stride : (e f g i : ExprTree) (l : LegTree) → l ≡ strided e f g i → LegDirect l → AreDirect i
direct_stride e f g i l is h = let k = subst (λ m. LegDirect m) is h in k.3

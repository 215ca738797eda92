use Rattle.std.proofs.Common.{◌≡◌, ◌++◌, ◌∙◌, length, reverse, sym, subst, ap, List, [], ◌∷◌, Ordering, Less, Equal, Greater}
use Rattle.weld_data.specs.Value.{Value}
use Rattle.weld_data.specs.View.{view_val}
use Rattle.weld_data.specs.Order.{IsKeyFor, CanFollow}
use Rattle.weld_sorted.specs.Repeats.{LastStands}
use Rattle.weld_sorted.proofs.Sorting.{next, taken_more, taken_fit, follows, one_key, not_greater}
use Rattle.weld_sorted.proofs.sorted.rising.Goals as goal

pub last_stands-requires : goal.last_stands-requires
last_stands-requires c =
    let n = next c.args.entries.items c.left.left.items c.pop.new.self.items c.left.pairs c.in-Some.entry c.left.invariant c.in-Some.ensures.items in
    subst (λ (e : Value × Value). IsKeyFor c.left.pairs e.0) (sym c.into_pair-pair.ensures)
    (taken_fit c.args.entries.items c.left.pairs (length c.pop.new.self.items) c.in-Some.entry c.requires.one_type n.within n.is n.taken)

pub push-requires : goal.push-requires
push-requires c =
    let n = next c.args.entries.items c.left.left.items c.pop.new.self.items c.left.pairs c.in-Some.entry c.left.invariant c.in-Some.ensures.items in
    let stands : LastStands Less c.left.pairs (view_val c.into_pair-pair.result.key) = subst (λ (o : Ordering). LastStands o c.left.pairs (view_val c.into_pair-pair.result.key)) c.in-Less.is c.last_stands.ensures in
    subst (λ (e : Value × Value). CanFollow c.left.pairs e.0) (sym c.into_pair-pair.ensures)
    (follows c.args.entries.items c.left.pairs (length c.pop.new.self.items) c.in-Some.entry c.requires.one_type n.within n.is n.taken
    (subst (λ (e : Value × Value). LastStands Less c.left.pairs e.0) c.into_pair-pair.ensures stands))

pub left-preserved : goal.left-preserved
left-preserved c =
    subst (λ (ls : List (Value × Value)). c.args.entries.items ≡ c.pop.new.self.items ++ reverse ls) (sym (c.in_ok-push-in-Less.ensures.ok ∙ ap (λ (e : Value × Value). c.left.pairs ++ e ∷ []) c.into_pair-pair.ensures))
    (taken_more c.args.entries.items c.left.left.items c.pop.new.self.items c.left.pairs c.in-Some.entry c.left.invariant c.in-Some.ensures.items)

pub returns-in-Equal-clause-none : goal.returns-in-Equal-clause-none
returns-in-Equal-clause-none c =
    let n = next c.args.entries.items c.left.left.items c.pop.new.self.items c.left.pairs c.in-Some.entry c.left.invariant c.in-Some.ensures.items in
    let stands : LastStands Equal c.left.pairs (view_val c.into_pair-pair.result.key) = subst (λ (o : Ordering). LastStands o c.left.pairs (view_val c.into_pair-pair.result.key)) c.in-Equal.is c.last_stands.ensures in
    one_key c.args.entries.items c.left.pairs (length c.pop.new.self.items) c.in-Some.entry n.within n.is n.taken
    (subst (λ (e : Value × Value). LastStands Equal c.left.pairs e.0) c.into_pair-pair.ensures stands)

pub unreachable-requires : goal.unreachable-requires
unreachable-requires c =
    let n = next c.args.entries.items c.left.left.items c.pop.new.self.items c.left.pairs c.in-Some.entry c.left.invariant c.in-Some.ensures.items in
    let stands : LastStands Greater c.left.pairs (view_val c.into_pair-pair.result.key) = subst (λ (o : Ordering). LastStands o c.left.pairs (view_val c.into_pair-pair.result.key)) c.in-Greater.is c.last_stands.ensures in
    not_greater c.args.entries.items c.left.pairs (length c.pop.new.self.items) c.in-Some.entry c.requires.falls c.requires.one_type n.within n.is n.taken
    (subst (λ (e : Value × Value). LastStands Greater c.left.pairs e.0) c.into_pair-pair.ensures stands)

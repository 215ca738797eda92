use Rattle.std.proofs.Common.{◌≡◌, ◌<◌, [], ◌∷◌, length, take, ◌+◌, ◌++◌, arith, sym, ◌∙◌}
use Rattle.std.proofs.lemmas.Bool.{MatchBool-at_true, MatchBool-at_false}
use Rattle.std.proofs.lemmas.List.{append-nil}
use Rattle.weld_grammar.specs.declared.item.Item.TheVariants.{Part as OfRule}
use Rattle.weld_grammar.specs.Breaks.{at_token, at_end}
use Rattle.weld_grammar.specs.Classes.{classes}
use Rattle.weld_accept.specs.declared.entry.Entry.TheVariants.{Due}
use Rattle.weld_accept.specs.Machine.{items_of}
use Rattle.weld_accept.proofs.Made.{onward_over, derived}
use Rattle.weld_accept.proofs.Tokens.{pending_at, pending_end, length-classes, take_class, take_all}
use Rattle.weld_accept.proofs.derivation.derive.Goals as goal

pub returns-then-not-branch-clause-broken : goal.returns-then-not-branch-clause-broken
returns-then-not-branch-clause-broken c =
    let lt : c.loop-i.i < length (classes c.args.tokens.now) = omega (arith, length-classes c.args.tokens.now) in
    let p = pending_at c.args.rule c.args.tokens.now c.loop-i.i c.index-tokens-i.result (items_of c.loop-i.stack) c.loop-i-test.true c.index-tokens-i.is c.loop-i.invariant.pending in
    at_token (items_of c.loop-i.stack) lt c.loop-i.invariant.pending (p ∙ MatchBool-at_false _ _ c.if-not-branch.true c.in_ok-step.ensures.pending)

pub loop-i-preserved : goal.loop-i-preserved
loop-i-preserved c =
    let tokens = c.args.tokens.now in
    let i = c.loop-i.i in
    let token = c.index-tokens-i.result in
    let p = pending_at c.args.rule tokens i token (items_of c.loop-i.stack) c.loop-i-test.true c.index-tokens-i.is c.loop-i.invariant.pending in
    record {
      pending = p ∙ MatchBool-at_true _ _ c.if-not-branch.false c.in_ok-step.ensures.pending;
      made = onward_over (Due (OfRule c.args.rule) ∷ []) c.loop-i.stack c.step.new.stack [] c.loop-i.steps c.step.new.steps (take i (classes tokens)) (token.class ∷ []) (take (i + 1) (classes tokens)) (take_class tokens i token c.loop-i-test.true c.index-tokens-i.is) c.loop-i.invariant.made (c.in_ok-step.ensures.made c.if-not-branch.false);
    }

pub returns-then-branch-clause-derived : goal.returns-then-branch-clause-derived
returns-then-branch-clause-derived c =
    let tokens = c.args.tokens.now in
    let xs = take c.loop-i.i (classes tokens) in
    let all : classes tokens ≡ xs ++ [] = sym (take_all tokens c.loop-i.i c.loop-i-test.false c.loop-i.auto.i-end) ∙ sym (append-nil xs) in
    derived c.args.rule (classes tokens) c.finish.new.steps (onward_over (Due (OfRule c.args.rule) ∷ []) c.loop-i.stack [] [] c.loop-i.steps c.finish.new.steps xs [] (classes tokens) all c.loop-i.invariant.made (c.in_ok-finish.ensures.made c.if-branch.true))

pub returns-else-branch-clause-broken : goal.returns-else-branch-clause-broken
returns-else-branch-clause-broken c =
    at_end (items_of c.loop-i.stack) (sym (length-classes c.args.tokens.now)) (pending_end c.args.rule c.args.tokens.now c.loop-i.i (items_of c.loop-i.stack) c.loop-i-test.false c.loop-i.auto.i-end c.loop-i.invariant.pending) (sym c.in_ok-finish.ensures.pending ∙ c.if-branch.false)

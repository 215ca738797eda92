use Rattle.std.proofs.Common.{List, length, refl, ap, sym, subst, arith}
use Rattle.weld_eval.specs.FrameView.{env_of}
use Rattle.weld_turns.specs.OnRows.{state_of}
use Rattle.weld_blocks.specs.Scope.{scope_env}
use Rattle.weld_blocks.specs.Structs.{AreCounted}
use Rattle.weld_blocks.specs.Turned.{outer_env, word_in}
use Rattle.weld_blocks.specs.declared.numbers.Numbers.{Numbers}
use Rattle.weld_blocks.proofs.NoteLemmas.{counted}
use Rattle.weld_blocks.proofs.TurnLemmas.{last_some}
use Rattle.weld_blocks.proofs.turning.ends_from.Goals as goal

pub end_all-requires-clause-columns : goal.end_all-requires-clause-columns
end_all-requires-clause-columns c =
    subst (λ (cs : List Numbers). AreCounted cs c.args.count) (sym c.deref-in-Ok.ensures.value)
    (counted c.note_names.new.names.items c.note_names.new.columns.items (scope_env c.args.scope.now) c.args.count (c.if-not-note_names.ensures.give refl))

pub returns-in-Ok : goal.returns-in-Ok
returns-in-Ok c =
    last_some c.end_all.result c.args.name.0 c.args.body.now c.note_names.new.names.items c.deref.result.now c.new-names.result.items c.note_names.new.columns.items c.deref-in-Ok.result.now (scope_env c.args.scope.now)
    (outer_env c.args.scope.now) (env_of c.outer_frame.result.now) c.in-Ok.step c.args.shape (λ j. state_of c.args.shape (word_in c.args.first.now j) (word_in c.args.second.now j)) c.args.count
    c.deref.ensures.value c.deref-in-Ok.ensures.value c.outer_frame.ensures (omega (arith, ap length (sym c.as_slice.ensures.value), c.if-as_slice-gt-MOST_WORDS.false)) (c.if-not-note_names.ensures.give refl) (c.if-not-note_names.ensures.apart refl) c.in-Ok.ensures c.end_all.ensures

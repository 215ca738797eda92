use Rattle.std.proofs.Common.{◌≡◌, [], length, take, drop, arith}
use Rattle.std.proofs.lemmas.List.{take_all, drop_all}
use Rattle.std.proofs.lemmas.Bool.{false_from_ne_true}
use Rattle.weld_job.proofs.Cutting.{lines-cut, lines-whole}
use Rattle.weld_job.proofs.lines.line_len.Goals as goal

pub returns-in-Some-clause-first : goal.returns-in-Some-clause-first
returns-in-Some-clause-first c some =
    let found = c.in-Some.ensures in
    lines-cut c.args.bytes.now c.in-Some.end found.0.high found.1
    (λ j below. false_from_ne_true _ (found.0.before j (omega arith) below))

pub returns-in-None-clause-first : goal.returns-in-None-clause-first
returns-in-None-clause-first c some =
    let bytes = c.args.bytes.now in
    let front : take (length bytes) bytes ≡ bytes = take_all (length bytes) bytes (omega arith) in
    let rest : drop (length bytes) bytes ≡ [] = drop_all (length bytes) bytes (omega arith) in
    rw (front, rest)
    (lines-whole bytes some (λ j below. false_from_ne_true _ (c.in-None.ensures j (omega arith) below)))

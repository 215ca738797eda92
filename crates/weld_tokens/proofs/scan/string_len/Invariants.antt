use Rattle.std.proofs.Common.{◌≡◌, ◌+◌, drop}
use Rattle.std.specs.Option.{option_map}
use Rattle.weld_tokens.specs.Scanning.{end_in}
use Rattle.weld_tokens.specs.declared.scan.Part.TheVariants.{Item}
use Rattle.weld_tokens.proofs.scan.string_len.Given as goal

abbrev pub invariant-loop-i : goal.invariant-loop-i
invariant-loop-i l = end_in Item l.text ≡ option_map (λ n. l.i + n) (end_in l.part (drop l.i l.text))

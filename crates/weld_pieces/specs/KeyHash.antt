-- A word of 64 bits for each value, by which keys are hashed: it is made of the numbers of the value alone, in their order.
use Rattle.std.specs.Prelude.{◌^◌, ℤ, pos, ◌-ℤ◌}
use Rattle.std.specs.Hash as fed
use Rattle.weld_data.specs.declared.kind.Kind.{Kind}
use Rattle.weld_data.specs.declared.kind.Kind.TheVariants as kinds
use Rattle.weld_data.specs.declared.op.MergeOp.TheVariants as ops
use Rattle.weld_data.specs.Operation.{combination}
use Rattle.weld_data.specs.Value.{Value, number, list, struct, dict, Values, no_values, and_value}

-- a number of a kind as one of 64 bits with a sign
abbrev pub own_word : Kind → ℤ → ℤ
own_word kinds.U64 x = x -ℤ pos (2 ^ 63)
own_word _ x = x

-- a word with one more mixed in
abbrev pub mixed : ℤ → ℤ → ℤ
mixed word x = combination ops.Add kinds.I64 (combination ops.Mul kinds.I64 word (pos 6364136223846793005)) x

abbrev mutual
  -- a word with the numbers of a value mixed in; a dictionary is no key
  pub mixed_value : ℤ → Value → ℤ
  mixed_value word (number k x) = mixed word (own_word k x)
  mixed_value word (list vs) = mixed_values word vs
  mixed_value word (struct vs) = mixed_values word vs
  mixed_value word (dict es) = word

  pub mixed_values : ℤ → Values → ℤ
  mixed_values word no_values = word
  mixed_values word (and_value v vs) = mixed_values (mixed_value word v) vs

abbrev pub key_word : Value → ℤ
key_word v = mixed_value (pos 1) v

-- what a hasher is fed
abbrev pub key_input : Value → fed.HashWrites
key_input v = fed.i64 (key_word v)

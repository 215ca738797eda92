-- What is known at the start of a script, and at its end.
use Rattle.std.proofs.Common.{◌≡◌, ◌<◌, ℕ, List, length, Result, Ok, Err, OnOk, refl, subst, arith}
use Rattle.weld_tree.specs.declared.code.Code.{Code}
use Rattle.weld_tree.specs.declared.code.Code.TheVariants.{S1}
use Rattle.weld_read_script.specs.declared.statements.statement.Statement.{Statement}
use Rattle.weld_read_script.specs.declared.statements.statement.Saying.{Saying}
use Rattle.weld_read_script.specs.declared.statements.statement.Saying.TheVariants.{Nothing, NoForm, States}
use Rattle.weld_read_script.specs.Statements.{LineSays}
use Rattle.weld_read_script.specs.Sound.{IsStatement}
use Rattle.weld_read_script.specs.declared.steps.known.LineFault.{LineFault}
use Rattle.weld_read_script.specs.declared.steps.known.Known.{Known}
use Rattle.weld_read_script.specs.Steps.{nothing_known, after, Steps}
use Rattle.weld_read_script.specs.Keeping.{IsKnown}
use Rattle.weld_script.specs.Script.{IsScript}
use Rattle.weld_read_script.specs.Reading.{after_saying}

pub known_at_start : IsKnown nothing_known
known_at_start = record {
  objects = tt;
  types = refl;
  declared = refl;
  called = refl;
  declarations = omega arith;
  calls = omega arith;
  few = omega arith;
  most = omega arith;
  there = tt;
  names = tt;
}

pub known_script : (k : Known) → IsKnown k → 0 < length k.shown → IsScript k.made k.shown
known_script k h some = record {
  objects = h.objects;
  declarations = omega (arith, h.declared, h.declarations);
  calls = omega (arith, h.called, h.calls);
  few = omega (arith, h.few, h.declarations, h.calls);
  some = some;
  most = h.most;
  there = h.there;
}

-- ---- behind a line

abbrev done : Known → Result Known Code
done k = Ok k

got : (k next : Known) → done k ≡ Ok next → k ≡ next
got k next e = cc

refused : (next : Known) (code : Code) → Err code ≡ done next → IsKnown next
refused next code e = cc

abbrev Keep : Type 0
Keep = (k next : Known) (st : Statement) → IsKnown k → IsStatement st → after k st ≡ Ok next → IsKnown next

abbrev Sound : Type 0
Sound = (line : List ℕ) (st : Statement) → LineSays line (States st) → IsStatement st

said_keeps : Keep → Sound → (line : List ℕ) (said : Saying) (k next : Known) → LineSays line said → IsKnown k → after_saying k said ≡ Ok next → IsKnown next
said_keeps keep sound line Nothing k next says h e = subst IsKnown (got k next e) h
said_keeps keep sound line NoForm k next says h e = refused next S1 e
said_keeps keep sound line (States st) k next says h e = keep k next st h (sound line st says) e

pub line_keeps : Keep → Sound → (line : List ℕ) (said : Saying) (k next : Known) (r : Result (Unit {0}) LineFault) → LineSays line said → IsKnown k
    → Steps (after_saying k said) r next → OnOk r (IsKnown next)
line_keeps keep sound line said k next (Ok u) says h e = said_keeps keep sound line said k next says h e
line_keeps keep sound line said k next (Err fault) says h e = tt

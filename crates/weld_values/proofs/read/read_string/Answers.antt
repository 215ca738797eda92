use Rattle.std.proofs.Common.{sym, pos, List, ℤ}
use Rattle.weld_values.specs.Judging.{AreItems}
use Rattle.weld_values.proofs.Listings.{some_holds}
use Rattle.weld_values.proofs.Vectors.{items_read}
use Rattle.weld_values.proofs.read.read_string.Goals as goal

pub returns-clause-found : goal.returns-clause-found
returns-clause-found c =
    items_read (λ b. (c.one_wrapped_number.ensures.found (pos b)).in_range) c.args.text.now c.in-Some.inner.now c.in-Some-2.rest.now c.in-Some-2.items (sym c.in-Some.ensures.value)
    (some_holds (λ (f : List ℤ × _). AreItems c.in-Some.inner.now f.0 f.1.now) c.in_ok-items.field-0 (c.in-Some-2.items, c.in-Some-2.rest) c.in-Some-2.is c.in_ok-items.ensures.found)

-- What keeps the rules answers no builder of outside the innermost lambda.
use Rattle.std.proofs.Common.{◌≡◌, ℕ, zero, suc, Bool, true, false, if◌then◌else◌, [], ◌∷◌, refl}
use Rattle.weld_tree.specs.ExprTree.{ExprTree, leaf, one, two, three, many, let_in, loop, iterate, ExprTrees, no_exprs, more_exprs, Leaf, int, truth, chars, name, fresh, One, neg, not, cast, len, field, finish, started, Two, binary, and, or, look_up, key_exists, merge, Three, if_else, select, slice, Many, make_vec, make_struct}
use Rattle.weld_meaning.specs.Environment.{Named}
use Rattle.weld_meaning.specs.Origin.{Origin, value, made, own, outer, named, struct, Origins, no_origins, more_origins, field_origin, are_values, struct_origin, leaf_origin, one_origin, two_origin, three_origin, many_origin, origin, origins}
use Rattle.weld_meaning.specs.Linear.{IsSeen, AreSeen, LeafKeeps, Keeps, AllKeep}
use Rattle.weld_joining.proofs.Taking.{seen_at}

leaf_seen : (l : Leaf) (g : Named Origin) → LeafKeeps l g → IsSeen (leaf_origin l g)
leaf_seen (int k x) g h = tt
leaf_seen (truth b) g h = tt
leaf_seen (chars bs) g h = tt
leaf_seen (name s) g h = h
leaf_seen (fresh b) g h = tt

field_seen : (n : ℕ) (o : Origin) → IsSeen o → IsSeen (field_origin n o)
field_seen n value h = tt
field_seen n made h = tt
field_seen n (own p) h = tt
field_seen n outer h = h
field_seen n (named s p) h = tt
field_seen n (struct os) h = seen_at n os h

one_seen : (k : One) (o : Origin) → IsSeen o → IsSeen (one_origin k o)
one_seen neg o h = tt
one_seen not o h = tt
one_seen (cast k) o h = tt
one_seen len o h = tt
one_seen (field n) o h = field_seen n o h
one_seen finish o h = tt
one_seen (started b) o h = tt

two_seen : (k : Two) (o : Origin) → IsSeen o → IsSeen (two_origin k o)
two_seen (binary op) o h = tt
two_seen and o h = tt
two_seen or o h = tt
two_seen look_up o h = tt
two_seen key_exists o h = tt
two_seen merge o h = h

three_seen : (k : Three) (o : Origin) → IsSeen o → IsSeen (three_origin k o)
three_seen if_else o h = h
three_seen select o h = tt
three_seen slice o h = tt

struct_seen : (os : Origins) → AreSeen os → IsSeen (struct_origin os)
struct_seen os h = by (are_values os)
  where
    by : (b : Bool) → IsSeen (if b then value else struct os)
    by true = tt
    by false = h

many_seen : (k : Many) (os : Origins) → AreSeen os → IsSeen (many_origin k os)
many_seen make_vec os h = tt
many_seen make_struct os h = struct_seen os h

mutual
  pub keeps_seen : (e : ExprTree) (g : Named Origin) → Keeps e g → IsSeen (origin e g)
  keeps_seen (leaf a l) g h = leaf_seen l g h
  keeps_seen (one a o e) g h = one_seen o (origin e g) (keeps_seen e g h.0)
  keeps_seen (two a o e f) g h = two_seen o (origin e g) (keeps_seen e g h.0)
  keeps_seen (three a o c e f) g h = three_seen o (origin e g) (keeps_seen e g h.1)
  keeps_seen (many a o es) g h = many_seen o (origins es g) (all_keep_seen es g h)
  keeps_seen (let_in a b e f) g h = keeps_seen f ((b.sym.0, origin e g) ∷ g) h.1
  keeps_seen (loop a ls e b n x f) g h = keeps_seen e g h.1
  keeps_seen (iterate a e b f) g h = tt

  all_keep_seen : (es : ExprTrees) (g : Named Origin) → AllKeep es g → AreSeen (origins es g)
  all_keep_seen no_exprs g h = tt
  all_keep_seen (more_exprs e es) g h = (keeps_seen e g h.0, all_keep_seen es g h.1)

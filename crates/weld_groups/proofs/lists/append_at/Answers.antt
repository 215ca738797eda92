use Rattle.std.proofs.Common.{◌≡◌, Some, None, rules, sym, refl, ◌∙◌}
use Rattle.std.specs.Map.{lookup}
use Rattle.weld_pieces.specs.Items.{items_of_list}
use Rattle.weld_pieces.proofs.MapLemmas.{on_ok}
use Rattle.weld_groups.proofs.ListLemmas.{found_appended, new_appended, same_written, inserted_lists, found_list, on_err}
use Rattle.weld_groups.proofs.lists.append_at.Goals as goal

pub append-requires : goal.append-requires
append-requires g c =
    let l = c.into_mut.result.now in
    let there : Some l ≡ lookup (g.K.PartialEq.eq c.args.key) c.args.map.now.entries = search rules in
    (found_list c.args.kind (g.K.PartialEq.eq c.args.key) c.args.map.now.entries l c.requires.lists there) ∙ sym c.requires.later

pub returns-in-Occupied-clause-ok : goal.returns-in-Occupied-clause-ok
returns-in-Occupied-clause-ok g c =
    let l = c.into_mut.result.now in
    let there : Some l ≡ lookup (g.K.PartialEq.eq c.args.key) c.args.map.now.entries = search rules in
    on_ok c.append.result c.append.ensures.ok
    (found_appended g.K.PartialEq.eq c.args.map.now.entries _ c.args.key l c.append.new.self (items_of_list c.args.later) there (search rules))

pub returns-in-Occupied-clause-err : goal.returns-in-Occupied-clause-err
returns-in-Occupied-clause-err g c =
    let l = c.into_mut.result.now in
    let there : Some l ≡ lookup (g.K.PartialEq.eq c.args.key) c.args.map.now.entries = search rules in
    on_err c.append.result c.append.ensures.err
    (same_written g.K.PartialEq.eq c.args.map.now.entries _ c.args.key l c.append.new.self there (search rules))

pub returns-in-Occupied-clause-lists : goal.returns-in-Occupied-clause-lists
returns-in-Occupied-clause-lists g c =
    let l = c.into_mut.result.now in
    let there : Some l ≡ lookup (g.K.PartialEq.eq c.args.key) c.args.map.now.entries = search rules in
    inserted_lists g.K.PartialEq.eq c.args.kind c.args.map.now.entries _ c.args.key c.append.new.self c.requires.lists
    (c.append.ensures.kind ∙ found_list c.args.kind (g.K.PartialEq.eq c.args.key) c.args.map.now.entries l c.requires.lists there) (search rules)

pub returns-in-Vacant-clause-ok : goal.returns-in-Vacant-clause-ok
returns-in-Vacant-clause-ok g c =
    let none : None ≡ lookup (g.K.PartialEq.eq c.args.key) c.args.map.now.entries = search rules in
    new_appended g.K.PartialEq.eq c.args.map.now.entries _ c.args.key c.args.later (items_of_list c.args.later) none (search rules) refl

pub returns-in-Vacant-clause-lists : goal.returns-in-Vacant-clause-lists
returns-in-Vacant-clause-lists g c =
    inserted_lists g.K.PartialEq.eq c.args.kind c.args.map.now.entries _ c.args.key c.args.later c.requires.lists c.requires.later (search rules)

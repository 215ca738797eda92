use Rattle.std.proofs.Common.{ap, ◌∙◌, ◌∷◌, []}
use Rattle.weld_data.specs.View.{view_val}
use Rattle.indexmap.specs.IndexMap.{insert_entry}
use Rattle.weld_pieces.proofs.MapLemmas.{on_ok}
use Rattle.weld_groups.proofs.ListLemmas.{found_appended, new_appended, same_written, inserted_lists, found_list, set_is_insert, on_err}
use Rattle.weld_groups.proofs.lists.push_at.Goals as goal

pub returns-in-Some-clause-ok : goal.returns-in-Some-clause-ok
returns-in-Some-clause-ok g c =
    let l = c.in-Some.list.now in
    let eq = g.K.PartialEq.eq in
    on_ok c.push.result c.push.ensures.ok
    (found_appended eq c.args.map.now.entries _ c.args.key l c.push.new.self (view_val c.args.item ∷ []) c.in-Some.ensures.value
    ((c.get_mut.follows.holds c.push.new.self).0 ∙ set_is_insert eq c.args.map.now.entries c.args.key l c.push.new.self c.in-Some.ensures.value))

pub returns-in-Some-clause-err : goal.returns-in-Some-clause-err
returns-in-Some-clause-err g c =
    let l = c.in-Some.list.now in
    let eq = g.K.PartialEq.eq in
    on_err c.push.result c.push.ensures.err
    (same_written eq c.args.map.now.entries _ c.args.key l c.push.new.self c.in-Some.ensures.value
    ((c.get_mut.follows.holds c.push.new.self).0 ∙ set_is_insert eq c.args.map.now.entries c.args.key l c.push.new.self c.in-Some.ensures.value))

pub returns-in-Some-clause-lists : goal.returns-in-Some-clause-lists
returns-in-Some-clause-lists g c =
    let l = c.in-Some.list.now in
    let eq = g.K.PartialEq.eq in
    inserted_lists eq c.args.kind c.args.map.now.entries _ c.args.key c.push.new.self c.requires.lists
    (c.push.ensures.kind ∙ found_list c.args.kind (eq c.args.key) c.args.map.now.entries l c.requires.lists c.in-Some.ensures.value)
    ((c.get_mut.follows.holds c.push.new.self).0 ∙ set_is_insert eq c.args.map.now.entries c.args.key l c.push.new.self c.in-Some.ensures.value)

pub returns-in_ok-insert-in-None-clause-ok : goal.returns-in_ok-insert-in-None-clause-ok
returns-in_ok-insert-in-None-clause-ok g c =
    new_appended g.K.PartialEq.eq c.args.map.now.entries c.insert.new.self.entries c.args.key c.in_ok-list-in-None.list (view_val c.args.item ∷ []) c.in-None.ensures.value
    (c.in_ok-insert-in-None.ensures.entries ∙ ap (λ m. insert_entry g.K.PartialEq.eq m.entries c.args.key c.in_ok-list-in-None.list) c.get_mut.follows.holds-at-none)
    c.in_ok-list-in-None.ensures.items

pub returns-in_ok-insert-in-None-clause-lists : goal.returns-in_ok-insert-in-None-clause-lists
returns-in_ok-insert-in-None-clause-lists g c =
    inserted_lists g.K.PartialEq.eq c.args.kind c.args.map.now.entries c.insert.new.self.entries c.args.key c.in_ok-list-in-None.list c.requires.lists c.in_ok-list-in-None.ensures.kind
    (c.in_ok-insert-in-None.ensures.entries ∙ ap (λ m. insert_entry g.K.PartialEq.eq m.entries c.args.key c.in_ok-list-in-None.list) c.get_mut.follows.holds-at-none)

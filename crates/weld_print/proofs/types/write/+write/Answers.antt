use Rattle.std.proofs.Common.{◌≡◌, sym, ap, ◌∙◌, codes, ◌++◌}
use Rattle.weld_tree.specs.TypeTree.{TypeTree, list, keyed, groups}
use Rattle.weld_tree.specs.TypeView.{view_build}
use Rattle.weld_tree.specs.declared.ty.BuildTy.{BuildTy}
use Rattle.weld_print.specs.TypeText.{type_text, op_text, build_text}
use Rattle.weld_print.proofs.Fields.{three_written, keyed_text, groups_text}
use Rattle.weld_print.proofs.types.write.+write.Goals as goal

pub write_build-returns-in_ok-write_type-in-List : goal.write_build-returns-in_ok-write_type-in-List
write_build-returns-in_ok-write_type-in-List t c =
    let item : c.deref.result.now ≡ c.in-List.item.value = cc in
    three_written c.push.result c.args.out.now (codes "vecbuilder[") (type_text c.deref.result.now) (codes "]") c.push_all.new.self c.write_type.new.out c.push.new.self (build_text (view_build c.args.build.now)) c.in_ok-push_all-in-List.ensures.ok c.in_ok-write_type-in-List.ensures c.push.ensures.ok
    (ap (λ (u : TypeTree). build_text (list u)) item ∙ ap (λ (b : BuildTy). build_text (view_build b)) (sym c.in-List.is))

pub write_build-returns-in_ok-write_two-in-Keyed : goal.write_build-returns-in_ok-write_two-in-Keyed
write_build-returns-in_ok-write_two-in-Keyed t c =
    let k = c.deref-in-Keyed.result.now in
    let v = c.deref-in-Keyed-2.result.now in
    let key : c.deref-in-Keyed.result.now ≡ c.in-Keyed.key.value = cc in
    let value : c.deref-in-Keyed-2.result.now ≡ c.in-Keyed.value.value = cc in
    three_written c.write_op-in-Keyed.result c.args.out.now (codes "dictmerger[") (type_text k ++ codes "," ++ type_text v) (codes "," ++ op_text c.in-Keyed.op ++ codes "]") c.push_all-in-Keyed.new.self c.write_two.new.out c.write_op-in-Keyed.new.out (build_text (view_build c.args.build.now)) c.in_ok-push_all-in-Keyed.ensures.ok c.in_ok-write_two-in-Keyed.ensures c.write_op-in-Keyed.ensures
    (keyed_text k v c.in-Keyed.op ∙ (λ i. build_text (keyed (key i) (value i) c.in-Keyed.op)) ∙ ap (λ (b : BuildTy). build_text (view_build b)) (sym c.in-Keyed.is))

pub write_build-returns-in_ok-write_two-in-Groups : goal.write_build-returns-in_ok-write_two-in-Groups
write_build-returns-in_ok-write_two-in-Groups t c =
    let k = c.deref-in-Groups.result.now in
    let v = c.deref-in-Groups-2.result.now in
    let key : c.deref-in-Groups.result.now ≡ c.in-Groups.key.value = cc in
    let value : c.deref-in-Groups-2.result.now ≡ c.in-Groups.value.value = cc in
    three_written c.push-in-Groups.result c.args.out.now (codes "groupbuilder[") (type_text k ++ codes "," ++ type_text v) (codes "]") c.push_all-in-Groups.new.self c.write_two-in-Groups.new.out c.push-in-Groups.new.self (build_text (view_build c.args.build.now)) c.in_ok-push_all-in-Groups.ensures.ok c.in_ok-write_two-in-Groups.ensures c.push-in-Groups.ensures.ok
    (groups_text k v ∙ (λ i. build_text (groups (key i) (value i))) ∙ ap (λ (b : BuildTy). build_text (view_build b)) (sym c.in-Groups.is))

use Rattle.std.proofs.Common.{◌≡◌, [], ◌∷◌, ◌++◌, Ok, option_map, string_bytes, string_cmp, append_assoc, sym, ap, subst, ◌∙◌}
use Rattle.std.proofs.lemmas.Result.{err_from_is_err_and}
use Rattle.std.specs.List.Sorted.{IsStrictlySortedBy}
use Rattle.std.specs.Map.{keys_of}
use Rattle.plain_data.specs.ByName.{value_at}
use Rattle.serde_json.specs.View.{view, members_view}
use Rattle.cwl_value.specs.Reading.{value_read, members_read, list_read, list_form, and_then}
use Rattle.cwl_value.specs.declared.value.Value.{out-Value}
use Rattle.cwl_value.proofs.JsonReads.{Entry, fields_of, items_more, items_stop, members_more, members_stop, members_by_name, value_at-view, ok_of, err_of}
use Rattle.cwl_value.proofs.read.+read.Goals as goal

pub read_items-loop-item-preserved : goal.read_items-loop-item-preserved
read_items-loop-item-preserved t c =
    items_more c.deref-item-items.result.now c.loop-item.item-index c.item-item.result c.loop-item.found c.in_ok-read.field-0 c.loop-item-test.true c.item-item.is c.loop-item.invariant c.in_ok-read.ensures.ok
    ∙ ap Ok (sym c.in_ok-push.ensures.ok)

pub read_items-returns-in_err-read-clause-err : goal.read_items-returns-in_err-read-clause-err
read_items-returns-in_err-read-clause-err t c =
    let p = err_from_is_err_and c.from_residual-in_err-read.result c.from_residual-in_err-read.ensures.1 in
    let stop = λ (never : _). items_stop c.deref-item-items.result.now c.loop-item.item-index c.item-item.result c.loop-item.found c.in_err-read.field-0.0 c.loop-item-test.true c.item-item.is c.loop-item.invariant (c.in_err-read.ensures.err never) in
    rw (p.1, p.2, ← c.deref-item-items.ensures.value) stop

pub read_fields-loop-key-preserved : goal.read_fields-loop-key-preserved
read_fields-loop-key-preserved t c =
    let l = c.loop-key in
    let done = l.invariant.0 in
    let e : Entry = (c.in-Some.key.now, c.in-Some.member.now) in
    let all = l.invariant.1 ∙ ap (λ es. done ++ es) c.in-Some.ensures.steps in
    let named : c.in_ok-name.name ≡ string_bytes e.0 = c.in_ok-name.ensures ∙ c.as_str.ensures.value in (
      done ++ e ∷ [],
      all ∙ sym (append_assoc done (e ∷ []) c.next.new.self),
      members_more done e l.found.items c.in_ok-read.field-0 l.invariant.2 c.in_ok-read.ensures.ok
          ∙ ap (λ name. Ok (l.found.items ++ (name, c.in_ok-read.field-0) ∷ [])) (sym named) ∙ ap Ok (sym c.in_ok-push.ensures.items),
    )

pub read_fields-returns-in_err-read-clause-err : goal.read_fields-returns-in_err-read-clause-err
read_fields-returns-in_err-read-clause-err t c =
    let l = c.loop-key in
    let done = l.invariant.0 in
    let e : Entry = (c.in-Some.key.now, c.in-Some.member.now) in
    let all = l.invariant.1 ∙ ap (λ es. done ++ es) c.in-Some.ensures.steps in
    let p = err_from_is_err_and c.from_residual-in_err-read.result c.from_residual-in_err-read.ensures.1 in
    let stop = λ (never : _). ap fields_of all ∙ members_stop done e c.next.new.self l.found.items c.in_err-read.field-0.0 l.invariant.2 (c.in_err-read.ensures.err never) in
    rw (p.1, p.2) stop

pub read_fields-from_sorted-requires : goal.read_fields-from_sorted-requires
read_fields-from_sorted-requires t c =
    let l = c.loop-key in
    members_by_name l.invariant.0 l.key-iterator l.found.items (subst (λ es. IsStrictlySortedBy string_cmp (keys_of es)) l.invariant.1 c.iter-key-items.ensures.ordered) l.invariant.2

pub read_list-returns-in-None-clause-ok : goal.read_list-returns-in-None-clause-ok
read_list-returns-in-None-clause-ok t c =
    ap (list_read c.args.field) (value_at-view c.args.name.now c.args.members.now.entries ∙ ap (option_map (λ json. value_read (view json))) (sym c.in-None.ensures.value))

pub read_list-returns-in_ok-read-in-Some-clause-ok : goal.read_list-returns-in_ok-read-in-Some-clause-ok
read_list-returns-in_ok-read-in-Some-clause-ok t c =
    let found = value_at-view c.args.name.now c.args.members.now.entries ∙ ap (option_map (λ json. value_read (view json))) (sym c.in-Some.ensures.value) in
    let whole = ap (list_read c.args.field) found ∙ ap (λ r. and_then r (λ v. list_form c.args.field (out-Value v))) c.in_ok-read-in-Some.ensures.ok ∙ sym c.listed_in.ensures in
    ok_of (list_read c.args.field (value_at c.args.name.now (members_read (members_view c.args.members.now.entries)))) c.listed_in.result whole

pub read_list-returns-in_ok-read-in-Some-clause-err : goal.read_list-returns-in_ok-read-in-Some-clause-err
read_list-returns-in_ok-read-in-Some-clause-err t c =
    let found = value_at-view c.args.name.now c.args.members.now.entries ∙ ap (option_map (λ json. value_read (view json))) (sym c.in-Some.ensures.value) in
    let whole = ap (list_read c.args.field) found ∙ ap (λ r. and_then r (λ v. list_form c.args.field (out-Value v))) c.in_ok-read-in-Some.ensures.ok ∙ sym c.listed_in.ensures in
    err_of (list_read c.args.field (value_at c.args.name.now (members_read (members_view c.args.members.now.entries)))) c.listed_in.result whole

pub read_list-returns-in_err-read-in-Some-clause-err : goal.read_list-returns-in_err-read-in-Some-clause-err
read_list-returns-in_err-read-in-Some-clause-err t c =
    let found = value_at-view c.args.name.now c.args.members.now.entries ∙ ap (option_map (λ json. value_read (view json))) (sym c.in-Some.ensures.value) in
    let p = err_from_is_err_and c.from_residual.result c.from_residual.ensures.1 in
    let stop = λ (never : _). ap (list_read c.args.field) found ∙ ap (λ r. and_then r (λ v. list_form c.args.field (out-Value v))) (c.in_err-read-in-Some.ensures.err never) in
    rw (p.1, p.2) stop

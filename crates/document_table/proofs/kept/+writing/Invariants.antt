use Rattle.std.proofs.Common.{◌≡◌, ◌++◌, drop}
use Rattle.json.specs.Tree.{items_tokens, members_tokens}
use Rattle.serde_json.specs.View.{items_view, members_view}
use Rattle.serde_json.specs.Written.{items_have_float, items_outline, members_have_float, members_outline}
use Rattle.document_table.specs.Kept.{kept_items, kept_members}
use Rattle.document_table.proofs.kept.+writing.Given as goal

abbrev pub invariant-write_items-loop-item : goal.invariant-write_items-loop-item
invariant-write_items-loop-item l =
    let all = kept_items l.form (items_view l.item-items) in
    let rest = kept_items l.form (items_view (drop l.item-index l.item-items)) in
    record {
      before : l.out.before ≡ l.initial.out.before;
      text : l.out.tokens ++ items_tokens (items_outline rest) ≡ l.initial.out.tokens ++ items_tokens (items_outline all);
      float : items_have_float rest ≡ items_have_float all;
    }

abbrev pub invariant-write_members-loop-name : goal.invariant-write_members-loop-name
invariant-write_members-loop-name l =
    let all = kept_members l.layout (members_view l.members.entries) in
    let rest = kept_members l.layout (members_view l.name-iterator) in
    record {
      before : l.out.before ≡ l.initial.out.before;
      text : l.out.tokens ++ members_tokens (members_outline rest) ≡ l.initial.out.tokens ++ members_tokens (members_outline all);
      float : members_have_float rest ≡ members_have_float all;
    }

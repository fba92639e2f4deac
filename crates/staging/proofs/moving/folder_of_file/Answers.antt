use Rattle.std.proofs.Common.{◌≡◌, List, IfOk, string_bytes, sym, subst, ◌∙◌}
use Rattle.staging.specs.declared.group.Member.{Member}
use Rattle.staging.specs.declared.moving.Way.{Way}
use Rattle.staging.specs.declared.moving.Way.TheVariants as way
use Rattle.staging.specs.inner.Ways.{folder_by, group_at}
use Rattle.staging.proofs.Moved.{file_group_at}
use Rattle.staging.proofs.moving.folder_of_file.Goals as goal

pub returns-in_ok-group-in-Placed : goal.returns-in_ok-group-in-Placed
returns-in_ok-group-in-Placed c =
    let group : c.as_slice.result.now ≡ group_at c.args.file.now = c.as_slice.ensures ∙ file_group_at c.args.file.now c.in_ok-group-in-Placed.group c.in_ok-group-in-Placed.ensures in
    subst (λ (w : Way). IfOk c.folder_of_group.result (λ folder. string_bytes folder ≡ folder_by w (group_at c.args.file.now))) (sym c.in-Placed.is)
    (subst (λ (g : List Member). IfOk c.folder_of_group.result (λ folder. string_bytes folder ≡ folder_by (way.Placed c.in-Placed.index c.in-Placed.folders) g)) group c.folder_of_group.ensures)

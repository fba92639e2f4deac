use Rattle.std.proofs.Common.{◌≡◌, ◌++◌, ℕ, List, ap, subst, ◌∙◌}
use Rattle.staging.specs.Groups.{groups_of_fields}
use Rattle.staging.specs.Placing.{ArePlaced}
use Rattle.staging.specs.Plan.{AreMoves, folder_path}
use Rattle.staging.specs.inner.Indexed.{IsIndex, number_in}
use Rattle.staging.specs.declared.group.Member.{Member}
use Rattle.staging.specs.declared.group.Placed.{Placed}
use Rattle.staging.specs.declared.index.FolderIndex.{FolderIndex}
use Rattle.staging.proofs.Together.{one_folder}
use Rattle.staging.proofs.Numbered.{numbers}
use Rattle.staging.proofs.plan.plan.Goals as goal

pub returns : goal.returns
returns c =
    let h = c.args.folders.holds_others in
    let dir : List ℕ = c.args.folders.dir.now in
    let placed : List Placed = c.in_ok-placed.placed in
    let index : FolderIndex = c.moves_of.new.index in
    let groups : c.push_field_groups.new.groups.items ≡ groups_of_fields c.args.values.now = c.in_ok-push_field_groups.ensures ∙ ap (λ (l : List (List Member)). l ++ groups_of_fields c.args.values.now) c.new-groups.ensures.items in
    let are : ArePlaced h (groups_of_fields c.args.values.now) placed = subst (λ (l : List (List Member)). ArePlaced h l placed) groups c.in_ok-placed.ensures in
    let noted : IsIndex index placed = subst (λ (l : List Placed). IsIndex index l) c.as_slice.ensures c.in_ok-moves.ensures.noted in
    record {
      placed = placed;
      are_placed = are;
      are_moves = subst (λ (l : List Placed). AreMoves (folder_path h dir) l c.in_ok-moves.moves) c.as_slice.ensures c.in_ok-moves.ensures.moves;
      number = number_in index;
      numbers = numbers index placed noted (one_folder h (groups_of_fields c.args.values.now) placed are);
      value = c.in_ok-value.ensures;
    }

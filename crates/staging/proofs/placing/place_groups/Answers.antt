use Rattle.std.proofs.Common.{◌+◌, ◌≤◌, ◌++◌, ◌∷◌, [], List, length, sym, subst}
use Rattle.staging.specs.declared.group.Member.{Member}
use Rattle.staging.specs.declared.group.Placed.{Placed}
use Rattle.staging.specs.Placing.{IsFolder}
use Rattle.staging.specs.inner.Folders.{IsAbove}
use Rattle.staging.specs.inner.Indexed.{IsIndex}
use Rattle.staging.specs.inner.Named.{IsNamed}
use Rattle.staging.proofs.Folders.{none_placed, one_placed}
use Rattle.staging.proofs.placing.place_groups.Goals as goal

pub loop-members-init : goal.loop-members-init
loop-members-init c =
    let none = none_placed c.args.holds_others c.new-placed.result c.new-placed.ensures in
    (none.0, none.1, subst (λ (l : List Placed). IsIndex c.new-index.result l) (sym c.new-placed.ensures) c.new-index.ensures, subst (λ (l : List Placed). IsNamed c.new-names.result l) (sym c.new-placed.ensures) c.new-names.ensures)

pub next_folder-requires-clause-above : goal.next_folder-requires-clause-above
next_folder-requires-clause-above c = subst (λ (l : List Placed). IsAbove l (length l + 1)) (sym c.as_slice.ensures) c.loop-members.invariant.1

pub next_folder-requires-clause-index : goal.next_folder-requires-clause-index
next_folder-requires-clause-index c = subst (λ (l : List Placed). IsIndex c.loop-members.index l) (sym c.as_slice.ensures) c.loop-members.invariant.2

pub next_folder-requires-clause-names : goal.next_folder-requires-clause-names
next_folder-requires-clause-names c = subst (λ (l : List Placed). IsNamed c.loop-members.names l) (sym c.as_slice.ensures) c.loop-members.invariant.3

pub loop-members-preserved : goal.loop-members-preserved
loop-members-preserved c =
    let k = c.in_ok-folder.folder in
    let folder : IsFolder c.args.holds_others c.loop-members.placed c.in-Some.members k =
    subst (λ (l : List Placed). IsFolder c.args.holds_others l c.in-Some.members k) c.as_slice.ensures
    (subst (λ (g : List Member). IsFolder c.args.holds_others c.as_slice.result.now g k) c.as_slice-in-loop-members.ensures c.in_ok-folder.ensures.folder)
    in
    let near : k ≤ length c.loop-members.placed + 1 = subst (λ (l : List Placed). k ≤ length l + 1) c.as_slice.ensures c.in_ok-folder.ensures.near in
    let noted : IsIndex c.next_folder.new.index (c.loop-members.placed ++ record { members = c.in-Some.members; folder = k } ∷ []) =
    subst (λ (l : List Placed). IsIndex c.next_folder.new.index (l ++ record { members = c.in-Some.members; folder = k } ∷ [])) c.as_slice.ensures
    (subst (λ (g : List Member). IsIndex c.next_folder.new.index (c.as_slice.result.now ++ record { members = g; folder = k } ∷ [])) c.as_slice-in-loop-members.ensures c.in_ok-folder.ensures.noted)
    in
    let named : IsNamed c.next_folder.new.names (c.loop-members.placed ++ record { members = c.in-Some.members; folder = k } ∷ []) =
    subst (λ (l : List Placed). IsNamed c.next_folder.new.names (l ++ record { members = c.in-Some.members; folder = k } ∷ [])) c.as_slice.ensures
    (subst (λ (g : List Member). IsNamed c.next_folder.new.names (c.as_slice.result.now ++ record { members = g; folder = k } ∷ [])) c.as_slice-in-loop-members.ensures c.in_ok-folder.ensures.named)
    in
    let one = one_placed c.args.holds_others c.loop-members.yielded c.loop-members.placed c.in-Some.members k c.push.new.self c.loop-members.invariant.0 c.loop-members.invariant.1 folder near c.in_ok-push.ensures.ok in
    (one.0, one.1, subst (λ (l : List Placed). IsIndex c.next_folder.new.index l) (sym c.in_ok-push.ensures.ok) noted, subst (λ (l : List Placed). IsNamed c.next_folder.new.names l) (sym c.in_ok-push.ensures.ok) named)

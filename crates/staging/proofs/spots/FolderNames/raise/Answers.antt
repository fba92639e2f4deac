use Rattle.std.proofs.Common.{List, ℕ, refl, subst, Some, arith}
use Rattle.std.specs.BTreeMap as tree
use Rattle.plain_data.specs.ByName.{name_cmp}
use Rattle.staging.proofs.Naming.{raised}
use Rattle.staging.proofs.spots.FolderNames.raise.Goals as goal

pub returns-clause-floored : goal.returns-clause-floored
returns-clause-floored c =
    raised c.args.self.now (record { held = c.args.self.now.held; floors = c.insert.new.self }) c.args.name.now c.args.folder c.in_ok-end.end refl
    (subst (λ (n : List ℕ). tree.Updates name_cmp c.args.self.now.floors c.insert.new.self n (Some c.in_ok-end.end)) c.in_ok-name.ensures c.in_ok-insert.ensures.updates)
    (omega (arith, c.floor.ensures, c.if-floor-folder.false))
    c.in_ok-end.ensures

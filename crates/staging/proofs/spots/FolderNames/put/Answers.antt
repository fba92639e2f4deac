use Rattle.std.proofs.Common.{List, ℕ, subst}
use Rattle.std.specs.BTreeSet as sorted
use Rattle.staging.specs.inner.Named.{spot_cmp}
use Rattle.staging.proofs.Naming.{put_one}
use Rattle.staging.proofs.spots.FolderNames.put.Goals as goal

pub returns-clause-held : goal.returns-clause-held
returns-clause-held c =
    put_one c.args.self.now (record { held = c.insert.new.self; floors = c.args.self.now.floors }) c.args.name.now c.args.folder
    (subst (λ (n : List ℕ). sorted.Updates spot_cmp c.args.self.now.held c.insert.new.self (c.args.folder, n) _) c.in_ok-name.ensures c.in_ok-insert.ensures.updates)

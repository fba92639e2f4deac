use Rattle.std.proofs.Common.{◌≡◌, ◌-◌, map, take, take_all, ap, ◌∙◌, Bor, arith}
use Rattle.staging.specs.declared.found.Found.{Found}
use Rattle.input_files.specs.inner.Folders.{IsByFolder}
use Rattle.input_files.specs.Listing.{found_value, values_in}
use Rattle.input_files.proofs.Folders.{all_listed}
use Rattle.input_files.proofs.listing.+values.Goals as goal

pub values_in-returns : goal.values_in-returns
values_in-returns t c =
    let items = c.under-found-items.result.now in
    let held : IsByFolder c.args.by_folder.now c.args.listing.now = c.requires.1.1 in
    let root = c.args.root.now in
    let listing = c.args.listing.now in
    let each = λ (f : Bor Found). found_value root (values_in root listing (c.args.depth - 1)) f.now in
    let whole : take c.loop-found.found-index items ≡ items = take_all c.loop-found.found-index items (omega (arith, c.loop-found-test.false)) in
    c.loop-found.invariant
    ∙ ap (map each) whole
    ∙ all_listed root listing c.args.depth c.args.folder.now items (λ none. omega (arith, none, c.if-depth-eq0.false)) (ap (map (λ (f : Bor Found). f.now)) c.under-found-items.ensures ∙ held c.args.folder.now)

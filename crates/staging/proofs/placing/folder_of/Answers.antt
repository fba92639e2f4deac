use Rattle.std.proofs.Common.{◌≡◌, ◌+◌, ◌<◌, ◌∙◌, length, arith, sym, Some, None}
use Rattle.std.specs.Prelude.{Contains}
use Rattle.staging.specs.Placing.{IsFolder}
use Rattle.staging.specs.inner.Indexed.{number_of}
use Rattle.staging.proofs.Folders.{if_lowest}
use Rattle.staging.proofs.Indexing.{noted_is, not_noted}
use Rattle.staging.proofs.placing.folder_of.Goals as goal

pub returns-in-Some-clause-folder : goal.returns-in-Some-clause-folder
returns-in-Some-clause-folder c =
    let found : number_of c.args.index.now c.args.group.now ≡ Some c.in-Some.folder = sym c.in_ok-folder.ensures ∙ c.in-Some.is in
    IsFolder.shared c.in-Some.folder (noted_is c.args.index.now c.args.placed.now c.args.group.now c.in-Some.folder c.requires.index found)

pub returns-in-Some-clause-near : goal.returns-in-Some-clause-near
returns-in-Some-clause-near c =
    let found : number_of c.args.index.now c.args.group.now ≡ Some c.in-Some.folder = sym c.in_ok-folder.ensures ∙ c.in-Some.is in
    let there : Contains c.args.placed.now (record { members = c.args.group.now; folder = c.in-Some.folder }) = noted_is c.args.index.now c.args.placed.now c.args.group.now c.in-Some.folder c.requires.index found in
    let low : c.in-Some.folder < length c.args.placed.now + 1 = c.requires.above (record { members = c.args.group.now; folder = c.in-Some.folder }) there in
    omega arith

pub returns-in-None-clause-folder : goal.returns-in-None-clause-folder
returns-in-None-clause-folder c =
    let none : number_of c.args.index.now c.args.group.now ≡ None = sym c.in_ok-folder.ensures ∙ c.in-None.is in
    if_lowest c.args.holds_others c.args.placed.now c.args.group.now c.lowest_folder.result (not_noted c.args.index.now c.args.placed.now c.args.group.now c.requires.index none) c.lowest_folder.ensures.lowest

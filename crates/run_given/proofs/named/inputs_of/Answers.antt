use Rattle.std.proofs.Common.{◌≡◌, refl, option_map}
use Rattle.std.specs.Prelude.{unwrap_or}
use Rattle.program_words.specs.RunWords.{wish_of_run}
use Rattle.run_given.specs.Named.{IsInputsUrl}
use Rattle.program_words.proofs.CommandLines.{or_other}
use Rattle.run_given.proofs.Stops.{named_inputs, no_named_inputs}
use Rattle.run_given.proofs.named.inputs_of.Goals as goal

pub returns-clause-ok : goal.returns-clause-ok
returns-clause-ok g c =
    let words = c.args.call.now.words.now in
    let name : c.unwrap_or-name.result.now ≡ unwrap_or (option_map (λ s. s.now) words.inputs) words.document.now =
    or_other words.inputs c.unwrap_or-name.result words.document _ words.document.now refl c.unwrap_or-name.ensures refl in
    let at : IsInputsUrl c.args.call.now.here.now (wish_of_run words) c.in_ok-base.base = rw name at c.in_ok-base.ensures.ok in
    named_inputs c.args.call.now.here.now (wish_of_run words) _ _ _ c.in_ok-bytes.ensures.ok at (rw c.as_slice.ensures.value at c.inputs_at.ensures.ok)

pub returns-clause-err : goal.returns-clause-err
returns-clause-err g c =
    let words = c.args.call.now.words.now in
    let name : c.unwrap_or-name.result.now ≡ unwrap_or (option_map (λ s. s.now) words.inputs) words.document.now =
    or_other words.inputs c.unwrap_or-name.result words.document _ words.document.now refl c.unwrap_or-name.ensures refl in
    let at : IsInputsUrl c.args.call.now.here.now (wish_of_run words) c.in_ok-base.base = rw name at c.in_ok-base.ensures.ok in
    no_named_inputs c.args.call.now.here.now (wish_of_run words) _ _ _ c.in_ok-bytes.ensures.ok at (rw c.as_slice.ensures.value at c.inputs_at.ensures.err)

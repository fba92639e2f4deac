use Rattle.std.proofs.Common.{◌∙◌, ap, sym, option_map}
use Rattle.program_words.specs.RunWords.{wish_of_run}
use Rattle.show_call.proofs.Shown.{misfits, shown_as}
use Rattle.show_call.proofs.showing.of_given.Goals as goal

pub returns-in-None-clause-end : goal.returns-in-None-clause-end
returns-in-None-clause-end g c =
    shown_as c.args.call.now.here.now (wish_of_run c.args.call.now.words.now) c.args.call.now.path.now c.args.given.now _
    (sym c.misfit_of.ensures ∙ ap (option_map (λ input. input.now)) c.in-None.is) c.of_shown.ensures.end

pub returns-in-Some-clause-end : goal.returns-in-Some-clause-end
returns-in-Some-clause-end g c =
    misfits c.args.call.now.here.now (wish_of_run c.args.call.now.words.now) c.args.call.now.path.now c.args.given.now _ _
    (sym c.misfit_of.ensures ∙ ap (option_map (λ input. input.now)) c.in-Some.is) c.of_misfit.ensures.end

use Rattle.program_words.specs.RunWords.{wish_of_run}
use Rattle.show_call.proofs.Shown.{shown_without_folder, shown_without_given, shows_given}
use Rattle.show_call.proofs.showing.end_of_showing.Goals as goal

pub returns-in-Ok-given_of-clause-end : goal.returns-in-Ok-given_of-clause-end
returns-in-Ok-given_of-clause-end g c =
    shows_given c.as_str.result.now (wish_of_run c.args.words.now) c.args.path.now _ _ c.in-Ok-given_of.ensures.ok c.of_given-end.ensures.end

pub returns-in-Ok-clause-end : goal.returns-in-Ok-clause-end
returns-in-Ok-clause-end g c =
    shown_without_given c.as_str.result.now (wish_of_run c.args.words.now) c.args.path.now _ _ c.in-Err-given_of.ensures.err
    c.stopped_call.ensures.exit c.stopped_call.ensures.left

pub returns-clause-end : goal.returns-clause-end
returns-clause-end g c =
    shown_without_folder (wish_of_run c.args.words.now) c.args.path.now _ c.without_folder.ensures.exit c.without_folder.ensures.left

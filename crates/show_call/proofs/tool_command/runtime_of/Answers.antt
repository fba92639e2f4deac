use Rattle.std.proofs.Common.{◌≡◌, ◌∙◌, ◌++◌, codes, refl}
use Rattle.program_words.specs.RunWords.{wish_of_run}
use Rattle.show_call.proofs.Shown.{runs_first}
use Rattle.show_call.proofs.tool_command.runtime_of.Goals as goal

pub returns : goal.returns
returns c =
    let out : c.from_string-outdir.result ≡ c.in_ok-work.work ++ codes "/j0/out" =
    c.from_string-outdir.ensures ∙ rw c.as_str-folder.ensures.bytes at c.in_ok-format.ensures.ok in
    let tmp : c.from_string-tmpdir.result ≡ c.in_ok-work.work ++ codes "/j0/tmp" =
    c.from_string-tmpdir.ensures ∙ rw c.as_str-folder.ensures.bytes at c.in_ok-format-2.ensures.ok in
    rw c.in_ok-path_env.ensures
    (runs_first c.args.call.now.here.now (wish_of_run c.args.call.now.words.now) c.args.call.now.path.now _ _ _ _ c.in_ok-work.ensures refl out tmp)

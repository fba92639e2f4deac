use Rattle.std.proofs.Common.{IfOk, subst}
use Rattle.job_rows.specs.Memory.{MemoryState}
use Rattle.program_words.specs.RunWords.{wish_of_run}
use Rattle.run_call.specs.Runs.{IsRunExit}
use Rattle.run_call.specs.Seen.{seen_memory}
use Rattle.run_call.proofs.Runs.{over_memory}
use Rattle.run_call.proofs.run_record.in_memory.Goals as goal

pub returns-clause-end : goal.returns-clause-end
returns-clause-end g c =
    let words = wish_of_run c.args.call.now.words.now in
    let path = c.args.call.now.path.now in
    over_memory g.R.Records g.R.Kept.Record c.args.rt.now words path _ _ _ c.requires.one c.requires.unnamed c.budget_of.ensures
    (subst (λ (old : MemoryState). IfOk c.on_disk-end.result (λ end. IsRunExit words path (seen_memory old) (seen_memory c.on_disk-end.new.rows) end.exit end.left)) c.new-rows.ensures c.on_disk-end.ensures.end)

use Rattle.std.proofs.Common.{◌∙◌, ap, sym}
use Rattle.run_rules.specs.Answers.{by_record}
use Rattle.run_rules.specs.PlannedFirst.{is_look}
use Rattle.workflow_engine.proofs.ByMap.{kept_by_host, kept_by_none, kept_by_record}
use Rattle.workflow_engine.proofs.LooksAlone.{measures, no_put_by_look}
use Rattle.workflow_engine.proofs.looks.ask_look.Goals as goal

pub measure-requires : goal.measure-requires
measure-requires g c = measures c.in-Host.place c.in-Host.request (ap is_look (sym c.in-Host.is) ∙ c.requires)

pub returns-in-Host-clause-by_map : goal.returns-in-Host-clause-by_map
returns-in-Host-clause-by_map g c = rw c.in-Host.is (kept_by_host _ _ c.in-Host.place c.in-Host.request c.measure.result)

pub returns-in-Ok-clause-answers : goal.returns-in-Ok-clause-answers
returns-in-Ok-clause-answers g c = rw c.in-Record.is (by_record c.in-Record.place c.in-Record.request c.in-Ok.answer c.in-Ok.ensures.answers)

pub returns-in-Ok-clause-by_map : goal.returns-in-Ok-clause-by_map
returns-in-Ok-clause-by_map g c =
    rw c.in-Record.is (kept_by_record _ _ _ _ c.in-Record.place c.in-Record.request c.in-Ok.answer c.in-Ok.ensures.sound c.in-Ok.ensures.by_map
    (no_put_by_look c.in-Record.place c.in-Record.request (ap is_look (sym c.in-Record.is) ∙ c.requires)))

pub returns-in-Err-clause-by_map : goal.returns-in-Err-clause-by_map
returns-in-Err-clause-by_map g c = kept_by_none _ _ _ _ c.args.asks.now c.in-Err.error c.in-Err.ensures.sound c.in-Err.ensures.by_map

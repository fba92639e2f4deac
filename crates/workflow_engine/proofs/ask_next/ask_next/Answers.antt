use Rattle.std.proofs.Common.{refl}
use Rattle.run_rules.specs.Answers.{by_record}
use Rattle.job_reuse.specs.Form.{AreInForm}
use Rattle.workflow_engine.proofs.ByMap.{if_read_by_record, kept_by_host, kept_by_none, no_put, put_by_host, put_by_record}
use Rattle.workflow_engine.proofs.ask_next.ask_next.Goals as goal

pub returns-in-Ok-clause-answers : goal.returns-in-Ok-clause-answers
returns-in-Ok-clause-answers g c = rw c.in-Record.is (by_record c.in-Record.place c.in-Record.request c.in-Ok.answer c.in-Ok.ensures.answers)

pub returns-in-Host-clause-by_map : goal.returns-in-Host-clause-by_map
returns-in-Host-clause-by_map g c = rw c.in-Host.is (record { keeps = λ read. kept_by_host _ _ c.in-Host.place c.in-Host.request c.ask_host.result })

pub returns-in-Ok-clause-by_map : goal.returns-in-Ok-clause-by_map
returns-in-Ok-clause-by_map g c =
    rw c.in-Record.is (if_read_by_record _ _ _ _ c.in-Record.place c.in-Record.request c.in-Ok.answer c.in-Ok.ensures.sound c.in-Ok.ensures.by_map)

pub returns-in-Err-clause-by_map : goal.returns-in-Err-clause-by_map
returns-in-Err-clause-by_map g c = record { keeps = λ read. kept_by_none _ _ _ _ c.args.asks.now c.in-Err.error c.in-Err.ensures.sound c.in-Err.ensures.by_map }

pub returns-in-Host-clause-form : goal.returns-in-Host-clause-form
returns-in-Host-clause-form g c = rw c.in-Host.is (put_by_host AreInForm c.in-Host.place c.in-Host.request c.ask_host.result)

pub returns-in-Ok-clause-form : goal.returns-in-Ok-clause-form
returns-in-Ok-clause-form g c = rw c.in-Record.is (put_by_record AreInForm c.in-Record.place c.in-Record.request c.in-Ok.answer c.in-Ok.ensures.form)

pub returns-in-Err-clause-form : goal.returns-in-Err-clause-form
returns-in-Err-clause-form g c = no_put AreInForm _ refl

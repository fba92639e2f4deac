use Rattle.std.proofs.Common.{◌≡◌, [], Err, refl, sym, subst, append-nil, ◌∙◌}
use Rattle.run_rules.specs.Recorded.{lines_of}
use Rattle.run_rules.specs.Reports.{Concludes, entries_of}
use Rattle.run_rules.specs.declared.outcome.RunFault.{RunFault}
use Rattle.run_rules.specs.declared.setting.Setting.{Setting}
use Rattle.workflow_engine.proofs.Nothing.{nothing_asked, err_is}
use Rattle.workflow_engine.proofs.Blamed.{hosts_fault, named_rise}
use Rattle.workflow_engine.proofs.Recorded.{blames_record}
use Rattle.workflow_engine.proofs.ByMap.{nothing_kept}
use Rattle.workflow_engine.proofs.Numbered.{none_numbered}
use Rattle.workflow_engine.proofs.PutKept.{puts_read}
use Rattle.workflow_engine.proofs.drive.run.Goals as goal

pub returns-in_err-core-clause-run : goal.returns-in_err-core-clause-run
returns-in_err-core-clause-run g c =
    let none : c.from_residual.result ≡ Err RunFault.OutOfMemory = err_is c.from_residual.result _ RunFault.OutOfMemory c.from_residual.ensures.1 (λ e same. same ∙ c.in_err-core.ensures.err) in
    rw none (record {
      run = record {
        gained = [];
        logged = sym (append-nil (g.H.Host.log c.args.host.now));
        lines = [];
        recorded = sym (append-nil (g.R.Record.log c.args.rows.now));
        rising = (none_numbered 0).rising;
        run = record {
          transcript = [];
          entries = refl;
          commands = refl;
          concluded = nothing_asked c.each_has_least.ensures c.args.process.now c.args.inputs.now c.args.options;
        };
      };
      map = nothing_kept _ _ [] refl;
    })

pub returns-in_err-core-clause-fault : goal.returns-in_err-core-clause-fault
returns-in_err-core-clause-fault g c =
    let none : c.from_residual.result ≡ Err RunFault.OutOfMemory = err_is c.from_residual.result _ RunFault.OutOfMemory c.from_residual.ensures.1 (λ e same. same ∙ c.in_err-core.ensures.err) in
    rw none tt

pub returns-clause-run : goal.returns-clause-run
returns-clause-run g c =
    let t = c.drive.new.core.transcript in
    let concluded = subst (λ (setting : Setting). Concludes setting t c.finish.result) (c.drive.ensures.setting ∙ c.in_ok-core.ensures.ok.setting) c.finish.ensures.concluded in
    record {
      run = record {
        gained = entries_of t;
        logged = c.close_all.ensures.logged ∙ c.drive.ensures.logged;
        lines = lines_of t;
        recorded = c.drive.ensures.recorded;
        rising = c.drive.ensures.numbered.rising;
        run = record {
          transcript = t;
          entries = refl;
          commands = refl;
          concluded = concluded;
        };
      };
      map = c.drive.ensures.by_map.keeps (puts_read _ t c.finish.result concluded c.drive.ensures.answers c.drive.ensures.form);
    }

pub returns-clause-fault : goal.returns-clause-fault
returns-clause-fault g c = hosts_fault _ _ _ _ (c.close_all.ensures.logged ∙ c.drive.ensures.logged) c.finish.ensures.faults

pub returns-in_err-core-clause-record : goal.returns-in_err-core-clause-record
returns-in_err-core-clause-record g c =
    let none : c.from_residual.result ≡ Err RunFault.OutOfMemory = err_is c.from_residual.result _ RunFault.OutOfMemory c.from_residual.ensures.1 (λ e same. same ∙ c.in_err-core.ensures.err) in
    rw none (record { gained = []; logged = sym (append-nil _); told = tt })

pub returns-clause-record : goal.returns-clause-record
returns-clause-record g c =
    let ran = returns-clause-run g c in
    blames_record _ _ _ _ _ _ _ _ ran.run.recorded ran.run.run

pub returns-clause-rising : goal.returns-clause-rising
returns-clause-rising g c = named_rise (entries_of c.drive.new.core.transcript) c.finish.result c.drive.ensures.numbered.rising c.finish.ensures.faults

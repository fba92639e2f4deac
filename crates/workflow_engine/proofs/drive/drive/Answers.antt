use Rattle.std.proofs.Common.{◌≡◌, ◌≢◌, ◌++◌, ◌∙◌, rules, refl, sym, ap, append-nil}
use Rattle.proc_host.specs.Log.{starts}
use Rattle.job_reuse.specs.Form.{AreInForm}
use Rattle.run_rules.specs.Recorded.{lines_of}
use Rattle.run_rules.specs.Reports.{entries_of}
use Rattle.run_rules.specs.declared.request.Request.{Request}
use Rattle.workflow_engine.specs.Gains.{commands_by, entries_by}
use Rattle.workflow_engine.specs.inner.Mapped.{pairs_by}
use Rattle.workflow_engine.proofs.ByMap.{if_read_on, no_put, nothing_kept, put_more}
use Rattle.workflow_engine.proofs.PutKept.{answers_on, no_answer}
use Rattle.workflow_engine.proofs.Numbered.{none_numbered, starts-append}
use Rattle.workflow_engine.proofs.Telling.{flies_on, grown_on, numbered_on}
use Rattle.workflow_engine.proofs.drive.drive.Goals as goal

pub loop-host-init : goal.loop-host-init
loop-host-init g c = record {
  setting = refl;
  logged = rw c.requires.first (sym (append-nil _));
  recorded = rw c.requires.first (sym (append-nil _));
  by_map = record { keeps = λ read. nothing_kept _ _ _ c.requires.first };
  answers = no_answer _ c.requires.first;
  form = no_put AreInForm _ c.requires.first;
  flying = λ going. c.requires.flying;
  numbered = rw c.requires.first (none_numbered _);
  covered = c.requires.covered;
}

pub loop-host-preserved : goal.loop-host-preserved
loop-host-preserved g c =
    let going : c.loop-host.core.asks ≢ Request.Finished = search rules in
    let asked = sym c.next-in-loop-host.ensures.asked in
    let pairs : c.tell.new.core.transcript ≡ c.loop-host.core.transcript ++ pairs_by c.next-in-loop-host.result.now c.ask_next-told.result =
    c.tell.ensures.told.pairs ∙ ap (λ (asks : Request). c.loop-host.core.transcript ++ pairs_by asks c.ask_next-told.result) asked in
    let entries : entries_of c.tell.new.core.transcript ≡ entries_of c.loop-host.core.transcript ++ entries_by c.next-in-loop-host.result.now c.ask_next-told.result =
    c.tell.ensures.told.entries ∙ ap (λ (asks : Request). entries_of c.loop-host.core.transcript ++ entries_by asks c.ask_next-told.result) asked in
    let lines : lines_of c.tell.new.core.transcript ≡ lines_of c.loop-host.core.transcript ++ commands_by c.next-in-loop-host.result.now c.ask_next-told.result =
    c.tell.ensures.told.lines ∙ ap (λ (asks : Request). lines_of c.loop-host.core.transcript ++ commands_by asks c.ask_next-told.result) asked in
    record {
      setting = c.tell.ensures.told.setting ∙ c.loop-host.invariant.setting;
      logged = grown_on (g.H.Host.log c.args.host.now) (g.H.Host.log c.loop-host.host) _ (entries_of c.loop-host.core.transcript) _ _
          c.ask_next-told.ensures.logged c.loop-host.invariant.logged entries;
      recorded = grown_on (g.R.Record.log c.args.rows.now) (g.R.Record.log c.loop-host.rows) _ (lines_of c.loop-host.core.transcript) _ _
          c.ask_next-told.ensures.recorded c.loop-host.invariant.recorded lines;
      by_map = if_read_on _ _ _ (g.R.Record.holds c.args.rows.now) (g.R.Record.holds c.loop-host.rows) _ c.loop-host.core.transcript _ _
          c.loop-host.invariant.by_map c.ask_next-told.ensures.by_map pairs;
      answers = answers_on c.loop-host.core.transcript _ (g.H.Host.running c.loop-host.host) c.next-in-loop-host.result.now c.ask_next-told.result
          c.loop-host.invariant.answers c.ask_next-told.ensures.answers pairs;
      form = put_more AreInForm c.loop-host.core.transcript _ _ c.loop-host.invariant.form c.ask_next-told.ensures.form pairs;
      flying = flies_on c.loop-host.core c.tell.new.core (g.H.Host.running c.loop-host.host) _ c.ask_next-told.result c.tell.ensures.told.flying
          (c.loop-host.invariant.flying going) c.ask_next-told.ensures.running c.ask_next-told.ensures.kept;
      numbered = numbered_on (starts (g.H.Host.log c.args.host.now)) (entries_of c.loop-host.core.transcript) (entries_of c.tell.new.core.transcript)
          (g.H.Host.running c.loop-host.host) c.next-in-loop-host.result.now c.ask_next-told.result
          (starts (g.H.Host.log c.loop-host.host)) entries c.ask_next-told.ensures.answers c.ask_next-told.ensures.numbered
          (ap starts c.loop-host.invariant.logged ∙ starts-append (g.H.Host.log c.args.host.now) (entries_of c.loop-host.core.transcript)) c.loop-host.invariant.numbered;
      covered = c.ask_next-told.ensures.covered;
    }

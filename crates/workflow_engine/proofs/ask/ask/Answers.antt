use Rattle.proc_host.specs.Answers.{is_measured, is_staged, is_listed, is_stored, is_delivered, is_discarded}
use Rattle.proc_host.specs.declared.call.HostAnswer.{HostAnswer}
use Rattle.proc_host.specs.declared.call.HostRequest.{HostRequest}
use Rattle.workflow_engine.proofs.Calls.{answer_told, fetch_told, head_told, such_told}
use Rattle.workflow_engine.proofs.ask.ask.Goals as goal

pub returns-in-Stage-clause-answers : goal.returns-in-Stage-clause-answers
returns-in-Stage-clause-answers g c =
    rw c.in-Stage.is (answer_told (g.H.Host.running c.args.host.now) (HostRequest.Stage c.in-Stage.plan c.in-Stage.number) (λ _. HostAnswer.Done) c.stage.result c.done.result c.done.ensures
    (λ _. is_staged c.in-Stage.plan c.in-Stage.number) c.stage.ensures.own)

pub returns-in-Measure-clause-answers : goal.returns-in-Measure-clause-answers
returns-in-Measure-clause-answers g c =
    rw c.in-Measure.is (answer_told (g.H.Host.running c.args.host.now) (HostRequest.Measure c.in-Measure.path) (λ measure. HostAnswer.Measured measure) c.measure.result c.measured.result c.measured.ensures
    (λ measure. is_measured c.in-Measure.path measure) c.measure.ensures.own)

pub returns-in-Head-clause-answers : goal.returns-in-Head-clause-answers
returns-in-Head-clause-answers g c =
    rw c.in-Head.is (head_told (g.H.Host.running c.args.host.now) c.in-Head.path c.in-Head.limit c.head.result c.read.result c.read.ensures c.head.ensures.within
    c.head.ensures.own)

pub returns-in-Scan-clause-answers : goal.returns-in-Scan-clause-answers
returns-in-Scan-clause-answers g c =
    rw c.in-Scan.is (such_told (g.H.Host.running c.args.host.now) (HostRequest.Scan c.in-Scan.folder) _ (λ found. HostAnswer.Listed found) c.scan.result c.listed.result c.listed.ensures
    c.scan.ensures.paths (λ found paths. is_listed c.in-Scan.folder found paths) c.scan.ensures.own)

pub returns-in-Deliver-clause-answers : goal.returns-in-Deliver-clause-answers
returns-in-Deliver-clause-answers g c =
    rw c.in-Deliver.is (answer_told (g.H.Host.running c.args.host.now) (HostRequest.Deliver c.in-Deliver.plan) (λ _. HostAnswer.Done) c.deliver.result c.done-in-Deliver.result c.done-in-Deliver.ensures
    (λ _. is_delivered c.in-Deliver.plan) c.deliver.ensures.own)

pub returns-in-Fetch-clause-answers : goal.returns-in-Fetch-clause-answers
returns-in-Fetch-clause-answers g c =
    rw c.in-Fetch.is (fetch_told (g.H.Host.running c.args.host.now) c.in-Fetch.key c.in-Fetch.number c.in-Fetch.files c.fetch.result c.fetched.result c.fetched.ensures c.fetch.ensures.among
    c.fetch.ensures.own)

pub returns-in-Store-clause-answers : goal.returns-in-Store-clause-answers
returns-in-Store-clause-answers g c =
    rw c.in-Store.is (answer_told (g.H.Host.running c.args.host.now) (HostRequest.Store c.in-Store.key c.in-Store.folder c.in-Store.files) (λ _. HostAnswer.Done) c.store.result c.done-in-Store.result c.done-in-Store.ensures
    (λ _. is_stored c.in-Store.key c.in-Store.folder c.in-Store.files) c.store.ensures.own)

pub returns-in-Discard-clause-answers : goal.returns-in-Discard-clause-answers
returns-in-Discard-clause-answers g c =
    rw c.in-Discard.is (answer_told (g.H.Host.running c.args.host.now) (HostRequest.Discard c.in-Discard.key) (λ _. HostAnswer.Done) c.discard.result c.done-in-Discard.result c.done-in-Discard.ensures
    (λ _. is_discarded c.in-Discard.key) c.discard.ensures.own)

-- What comes of what the machine is told.
use Rattle.std.specs.Prelude.{◌≢◌, IfOk, OnErr, OnOk}
use Rattle.std.proofs.Common.{◌≡◌, ◌∙◌, ℕ, ◌+◌, List, ◌∷◌, ◌++◌, [], Result, Ok, Err, sym, ap, subst}
use Rattle.std.proofs.lemmas.List.{append-nil, append_assoc}
use Rattle.std.proofs.lemmas.List.Elements.{filter_map-append}
use Rattle.std.specs.declared.alloc.AllocError.{AllocError}
use Rattle.proc_host.specs.Log.{starts}
use Rattle.proc_host.specs.declared.call.Entry.{Entry}
use Rattle.run_core.specs.Core.{Took}
use Rattle.run_core.specs.Machine.{Machine}
use Rattle.run_rules.specs.Answers.{MayAnswer, by_host, by_record, flying_after}
use Rattle.run_rules.specs.Recorded.{command_entry, lines_of}
use Rattle.run_rules.specs.declared.outcome.RunFault.{RunFault}
use Rattle.run_rules.specs.declared.request.Answer.{Answer}
use Rattle.run_rules.specs.declared.request.Pair.{Pair}
use Rattle.run_rules.specs.declared.request.Request.{Request}
use Rattle.workflow_engine.specs.Gains.{entries_by}
use Rattle.workflow_engine.specs.inner.Numbered.{AreNumbered, NumbersNext}
use Rattle.workflow_engine.specs.inner.Told.{IsTold, flying_told}
use Rattle.workflow_engine.proofs.Numbered.{numbered_more}

flies_by : (result : Result (Unit {0}) RunFault) (asks : Request) (Flies : Type 0) → OnOk result (asks ≢ Request.Finished → Flies) → OnErr result (asks ≡ Request.Finished) →
    asks ≢ Request.Finished → Flies
flies_by (Ok done) asks Flies flies ends going = flies going
flies_by (Err fault) asks Flies flies ends going = absurd (going ends)

lines_more : (t : List Pair) (pair : Pair) → lines_of (t ++ pair ∷ []) ≡ lines_of t ++ lines_of (pair ∷ [])
lines_more t pair = filter_map-append (λ (p : Pair). command_entry p.request p.answer) t (pair ∷ [])

pub took_told : (old : Machine) (answer : Answer) (result : Result (Unit {0}) RunFault) (new : Machine) → Took old answer result new → IsTold old (Ok answer) new
took_told old answer result new took = record {
  setting = took.setting;
  pairs = took.pair;
  entries = took.entries;
  lines = ap lines_of took.pair ∙ lines_more old.transcript (record { request = old.asks; answer = answer });
  flying = flies_by result new.asks _ took.flying took.finished;
  steps = took.steps;
}

-- What one question leaves

pub grown_on : {X : Type 0} (before now later entries more gain : List X) → later ≡ now ++ gain → now ≡ before ++ entries → more ≡ entries ++ gain → later ≡ before ++ more
grown_on {X = X} before now later entries more gain is so grown =
    is ∙ ap (λ (l : List X). l ++ gain) so ∙ append_assoc before entries gain ∙ ap (λ (l : List X). before ++ l) (sym grown)

pub flies_on : (core new : Machine) (running later : List ℕ) (told : Result Answer AllocError) → (new.asks ≢ Request.Finished → new.flying ≡ flying_told core.flying told) →
    core.flying ≡ running → IfOk told (λ answer. later ≡ flying_after running answer) → OnErr told (later ≡ running) → new.asks ≢ Request.Finished → new.flying ≡ later
flies_on core new running later (Ok answer) flies same runs kept going = flies going ∙ ap (λ (ns : List ℕ). flying_after ns answer) same ∙ sym runs
flies_on core new running later (Err error) flies same runs kept going = flies going ∙ same ∙ sym kept

still_numbered : (before : ℕ) (entries more : List Entry) → more ≡ entries ++ [] → AreNumbered before entries → AreNumbered before more
still_numbered before entries more is so_far = subst (λ (es : List Entry). AreNumbered before es) (sym (is ∙ append-nil entries)) so_far

numbered_by : (before : ℕ) (entries more : List Entry) {flying : List ℕ} {asks : Request} {answer : Answer} (n : ℕ) → MayAnswer flying asks answer →
    more ≡ entries ++ entries_by asks (Ok answer) → NumbersNext n answer → n ≡ before + starts entries → AreNumbered before entries → AreNumbered before more
numbered_by before entries more n (by_host place request answer can) is numbered same so_far =
    subst (λ (es : List Entry). AreNumbered before es) (sym is)
    (numbered_more before entries (record { request = request; answer = answer }) so_far (subst (λ (k : ℕ). NumbersNext k (Answer.Host answer)) same numbered))
numbered_by before entries more n (by_record place request answer can) is numbered same so_far = still_numbered before entries more is so_far

pub numbered_on : (before : ℕ) (entries more : List Entry) (flying : List ℕ) (asks : Request) (told : Result Answer AllocError) (n : ℕ) → more ≡ entries ++ entries_by asks told →
    IfOk told (MayAnswer flying asks) → IfOk told (NumbersNext n) → n ≡ before + starts entries → AreNumbered before entries → AreNumbered before more
numbered_on before entries more flying asks (Ok answer) n is may numbered same so_far = numbered_by before entries more n may is numbered same so_far
numbered_on before entries more flying asks (Err error) n is may numbered same so_far = still_numbered before entries more is so_far

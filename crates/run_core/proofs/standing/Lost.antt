-- What comes where memory ran out.
use Rattle.std.specs.Prelude.{◌≢◌}
use Rattle.std.proofs.Common.{◌≡◌, ◌∙◌, ℕ, ◌<◌, ◌≤◌, List, [], ◌∷◌, ◌++◌, length, Err, refl, sym, ap, subst, arith, append_assoc, append-nil}
use Rattle.proc_host.specs.Answers.{fault_of, has_ended, has_failed}
use Rattle.proc_host.specs.declared.call.Entry.{Entry}
use Rattle.proc_host.specs.declared.call.HostAnswer.{HostAnswer}
use Rattle.proc_host.specs.declared.call.HostRequest.{HostRequest}
use Rattle.job_graph.specs.Words.{JobPlace}
use Rattle.run_rules.specs.Answers.{MayAnswer, by_host, by_record}
use Rattle.run_rules.specs.Events.{Progress}
use Rattle.run_rules.specs.Plans.{InForce, PlansSoFar}
use Rattle.run_rules.specs.Reports.{AreWaits, IsWait}
use Rattle.run_rules.specs.Run.{Goes}
use Rattle.run_rules.specs.Scene.{Scene}
use Rattle.run_rules.specs.declared.outcome.RunFault.{RunFault}
use Rattle.run_rules.specs.declared.request.Answer.{Answer}
use Rattle.run_rules.specs.declared.request.Pair.{Pair}
use Rattle.run_rules.specs.declared.request.Request.{Request}
use Rattle.run_rules.specs.declared.setting.Options.{Options}
use Rattle.run_core.specs.declared.state.Course.{Course}
use Rattle.run_core.specs.declared.state.Given.{Given}
use Rattle.run_core.specs.declared.state.Phase.{Phase}
use Rattle.run_core.specs.declared.state.Turn.{Turn}
use Rattle.run_core.specs.inner.Attempts.{StaysBounded, answers_left}
use Rattle.run_core.specs.inner.Course.{Past, past_of}
use Rattle.run_core.specs.inner.Follows.{AsksOf, FollowsFrom}
use Rattle.run_core.specs.inner.Standing.{Blames, IsLostAt, RanOut, draining, lost, pairs_ahead}
use Rattle.run_core.specs.inner.Turn.{lost_after, lost_with, waits}
use Rattle.run_core.specs.Core.{IsLanded, collect_lost, none_flies}
use Rattle.run_core.proofs.standing.Flown.{FliesAfter, flies_on, none_waited_for}
use Rattle.run_core.proofs.standing.Tickets.{fewer_without}

-- The turn

lost_by : (past : Past) (tickets : List ℕ) → past.tickets ≡ tickets → IsLostAt past (lost_with tickets)
lost_by past [] is = lost
lost_by past (ticket ∷ tickets) is = draining (λ none. let never : ticket ∷ tickets ≡ [] = sym is ∙ none in cc)

pub lost_at : (past : Past) → IsLostAt past (lost_after past)
lost_at past = lost_by past past.tickets refl

few_by : (options : Options) (past : Past) (tickets : List ℕ) → past.tickets ≡ tickets → answers_left options past (lost_with tickets).phase ≤ length past.tickets
few_by options past [] is = omega arith
few_by options past (ticket ∷ tickets) is = omega arith

pub lost_few : (options : Options) (past : Past) → answers_left options past (lost_after past).phase ≤ length past.tickets
lost_few options past = few_by options past past.tickets refl

bounded_by : (options : Options) (past : Past) (tickets : List ℕ) → StaysBounded options past (lost_with tickets).phase
bounded_by options past [] = tt
bounded_by options past (ticket ∷ tickets) = tt

pub lost_bounded : (options : Options) (past : Past) → StaysBounded options past (lost_after past).phase
lost_bounded options past = bounded_by options past past.tickets

blames_by : (entries : List Entry) (past : Past) (tickets : List ℕ) → Blames entries past (lost_with tickets).phase
blames_by entries past [] = tt
blames_by entries past (ticket ∷ tickets) = tt

pub lost_blames : (entries : List Entry) (past : Past) → Blames entries past (lost_after past).phase
lost_blames entries past = blames_by entries past past.tickets

ahead_by : (past : Past) (tickets : List ℕ) → past.tickets ≡ tickets → pairs_ahead past (lost_with tickets).phase ≤ length past.tickets
ahead_by past [] is = omega arith
ahead_by past (ticket ∷ tickets) is = omega arith

-- there is room for the children that are in flight alone
pub lost_room : (past : Past) → pairs_ahead past (lost_after past).phase ≤ length past.tickets
lost_room past = ahead_by past past.tickets refl

drains_by : (tickets : List ℕ) → (lost_with tickets).asks ≢ Request.Finished → lost_with tickets ≡ waits HostRequest.Collect Phase.Draining
drains_by [] asks = absurd (asks refl)
drains_by (ticket ∷ tickets) asks = refl

-- while it asks something, it asks for their ends
pub lost_drains : (past : Past) → (lost_after past).asks ≢ Request.Finished → lost_after past ≡ waits HostRequest.Collect Phase.Draining
lost_drains past asks = drains_by past.tickets asks

-- The transcript

pub lost_now : (s : Scene) (t : List Pair) (happened : Progress) (plans : PlansSoFar) (past : Past) → Goes s (InForce s) t happened plans →
    RanOut s t past (lost_after past)
lost_now s t happened plans past goes = record {
  front = t;
  tail = [];
  pairs = sym (append-nil t);
  happened = happened;
  plans = plans;
  goes = goes;
  collects = tt;
  at = lost_at past;
}

collects_more : (tail : List Pair) (pair : Pair) → AreWaits tail → IsWait pair → AreWaits (tail ++ pair ∷ [])
collects_more [] pair all is = (is, tt)
collects_more (p ∷ tail) pair all is = (all.0, collects_more tail pair all.1 is)

pub lost_more : (s : Scene) (t : List Pair) (pair : Pair) (old new : Past) (before turn : Turn) → RanOut s t old before →
    pair.request ≡ Request.Host [] HostRequest.Collect → IsLostAt new turn → RanOut s (t ++ pair ∷ []) new turn
lost_more s t pair old new before turn out is at = record {
  front = out.front;
  tail = out.tail ++ pair ∷ [];
  pairs = ap (λ (all : List Pair). all ++ pair ∷ []) out.pairs ∙ append_assoc out.front out.tail (pair ∷ []);
  happened = out.happened;
  plans = out.plans;
  goes = out.goes;
  collects = collects_more out.tail pair out.collects is;
  at = at;
}

-- Who flies

pub landed_when_none : (old : List ℕ) (next : Request) (answer : Answer) (new : List ℕ) → new ≡ [] → FliesAfter old next answer new → IsLanded old answer
landed_when_none old next answer new none (flies_on its_answer its_new is) = none_flies answer (sym is ∙ none)
landed_when_none old next answer new none (none_waited_for its_new is ends) = collect_lost

asks_by : (past : Past) (tickets : List ℕ) → past.tickets ≡ tickets → past.tickets ≡ [] → (lost_with tickets).asks ≡ Request.Finished
asks_by past [] is none = refl
asks_by past (ticket ∷ tickets) is none = let never : ticket ∷ tickets ≡ [] = sym is ∙ none in cc

flies_lost_by : (old : List ℕ) (next : Request) (answer : Answer) (past : Past) (new : List ℕ) → past.tickets ≡ new → FliesAfter old next answer new →
    FliesAfter old (lost_after past).asks answer new
flies_lost_by old next answer past new same (flies_on its_answer its_new is) = flies_on its_answer its_new is
flies_lost_by old next answer past new same (none_waited_for its_new is ends) = none_waited_for its_new is (asks_by past past.tickets refl (same ∙ is))

-- where memory ran out then
pub flies_lost : (old : List ℕ) (next : Request) (answer : Answer) (past : Past) → FliesAfter old next answer past.tickets →
    FliesAfter old (lost_after past).asks answer past.tickets
flies_lost old next answer past flies = flies_lost_by old next answer past past.tickets refl flies

none_by : (past : Past) (tickets : List ℕ) → past.tickets ≡ tickets → (lost_with tickets).phase ≡ Phase.Ended (Err RunFault.OutOfMemory) → past.tickets ≡ []
none_by past [] is ended = is
none_by past (ticket ∷ tickets) is ended = absurd cc

-- it has ended once none flies
pub none_when_lost : (past : Past) → (lost_after past).phase ≡ Phase.Ended (Err RunFault.OutOfMemory) → past.tickets ≡ []
none_when_lost past ended = none_by past past.tickets refl ended

-- What drains

-- where children were waited for after memory ran out
pub record Drained (old : Course) (answer : Answer) (turn : Turn) (new : Course) : Type 0 where
  pub is : turn ≡ lost_after (past_of new)
  pub flies : FliesAfter old.tickets.items turn.asks answer new.tickets.items
  pub fewer : length new.tickets.items < length old.tickets.items

pub some_there : (tickets : List ℕ) → tickets ≢ [] → 0 < length tickets
some_there [] some = absurd (some refl)
some_there (ticket ∷ tickets) some = omega arith

module _ (given : Given) (old : Course) (turn : Turn) (new : Course) where
  failed_collect : (place : JobPlace) (call : HostRequest) → AsksOf old (Request.Host place call) Phase.Draining → old.tickets.items ≢ [] → turn ≡ lost_with [] →
      new.tickets.items ≡ [] → Drained old (Answer.Host (HostAnswer.Failed (fault_of call))) turn new
  failed_collect place HostRequest.Collect fits some is none = record {
    is = is ∙ ap lost_with (sym none);
    flies = none_waited_for _ none (ap (λ (t : Turn). t.asks) is);
    fewer = subst (λ (ns : List ℕ). length ns < length old.tickets.items) (sym none) (some_there old.tickets.items some);
  }
  failed_collect place call fits some is none = absurd fits

  pub step_drains : (asks : Request) (answer : Answer) → MayAnswer old.tickets.items asks answer → AsksOf old asks Phase.Draining → old.tickets.items ≢ [] →
      FollowsFrom given old (record { asks = asks; phase = Phase.Draining }) answer turn new → Drained old answer turn new
  step_drains asks answer (by_host place request its (has_ended ending flies)) fits some follows = record {
    is = follows.is;
    flies = flies_on _ _ follows.tickets;
    fewer = subst (λ (ns : List ℕ). length ns < length old.tickets.items) (sym follows.tickets) (fewer_without old.tickets.items ending.ticket flies);
  }
  step_drains asks answer (by_host place request its (has_failed call)) fits some follows = failed_collect place call fits some follows.0 follows.1
  step_drains asks answer (by_host place request its can) fits some follows = absurd fits
  step_drains asks answer (by_record place request its can) fits some follows = absurd follows

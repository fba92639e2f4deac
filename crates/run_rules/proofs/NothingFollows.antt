-- Of any scene: a run has one end, and where it has come to it no request is allowed.
use Rattle.std.specs.Prelude.{◌||◌, Contains, not}
use Rattle.std.specs.List.{list_all, list_any}
use Rattle.std.proofs.lemmas.List.Elements.{All-contains}
use Rattle.std.proofs.lemmas.List.Sums.{AllPass-from_list_all}
use Rattle.std.proofs.Common.{◌≡◌, ◌∙◌, ℕ, ◌<◌, Bool, true, false, List, [], ◌∷◌, Option, Some, None, refl, sym, ap, subst, arith}
use Rattle.proc_host.specs.declared.call.HostRequest.{HostRequest}
use Rattle.job_graph.specs.Unfold.{is_at}
use Rattle.job_key.specs.Key.{Key}
use Rattle.run_rules.specs.declared.request.RecordRequest.{RecordRequest}
use Rattle.run_rules.specs.declared.request.Request.{Request}
use Rattle.staging.specs.declared.plan.StagePlan.{StagePlan}
use Rattle.job_graph.specs.Words.{Fields, JobPlace}
use Rattle.run_rules.specs.Scene.{Scene}
use Rattle.run_rules.specs.Delivered.{any_file}
use Rattle.run_rules.specs.Events.{nothing_due, Progress, in_flight, has_no_find, is_looked_up, is_measured, delivered_at, unfolding_at}
use Rattle.run_rules.specs.End.{End, succeeds_with, is_lost_collect, settled}
use Rattle.run_rules.specs.EndsSo.{EndsSo, IsDelivered, no_file, copied, lost, fails, succeeds}
use Rattle.plan_checker.specs.declared.plan.Mark.{Mark}
use Rattle.run_rules.specs.Allowed.{Allowed, IsFree, MayDeliver, MayFind, due, due_in}
use Rattle.run_rules.proofs.Finding.{found_in}
use Rattle.run_rules.proofs.Places.{same_place}
use Rattle.run_rules.proofs.events.Places.{IsFound, found_is}

pub yes_and_no : (b : Bool) → b ≡ true → b ≡ false → ⊥
yes_and_no b is is_not = let never : true ≡ false = sym is ∙ is_not in cc

some_and_none : {X : Type 0} (o : Option X) (x : X) → o ≡ Some x → o ≡ None → ⊥
some_and_none o x is is_not = let never : Some x ≡ None = sym is ∙ is_not in cc

pub some_in_none : {X : Type 0} (xs : List X) (x : X) → xs ≡ [] → Contains xs x → ⊥
some_in_none xs x is_none there =
    let here : Contains [] x = subst (λ ys. Contains ys x) is_none there in
    let within : here.0 < 0 = here.1 in omega arith

pub not_due : (s : Scene) (f : Progress) (request : Request) → f.work ≡ nothing_due → due s f ≡ Some request → ⊥
not_due s f request idle is = some_and_none (due s f) request is (ap (due_in s f.events) idle)

same_some : {X : Type 0} (o : Option X) (x y : X) → o ≡ Some x → o ≡ Some y → x ≡ y
same_some o x y one other = let same : Some x ≡ Some y = sym one ∙ other in cc

yes_if_none : {X : Type 0} (xs : List X) (test : X → Bool) (x : X) → list_all test xs ≡ true → Contains xs x → test x ≡ false → ⊥
yes_if_none {X = X} xs test x all there is_not =
    yes_and_no (test x) (All-contains (λ (y : X). test y ≡ true) xs x (AllPass-from_list_all test xs all) there) is_not

module _ (s : Scene) (f : Progress) (marks : List Mark) where
  abbrev lost_one : Bool
  lost_one = list_any is_lost_collect f.events

  after_lost : (request : Request) → f.work ≡ nothing_due → lost_one ≡ true → Allowed s f marks request → ⊥
  after_lost (Request.Host place (HostRequest.Measure path)) idle is may = yes_and_no lost_one is may.still.collects
  after_lost (Request.Host place (HostRequest.Stage plan number)) idle is may = yes_and_no lost_one is may.free.still.collects
  after_lost (Request.Host place (HostRequest.Start launch)) idle is may = not_due s f (Request.Host place (HostRequest.Start launch)) idle may
  after_lost (Request.Host place HostRequest.Collect) idle is may = yes_and_no lost_one is may.collects
  after_lost (Request.Host place (HostRequest.Scan folder)) idle is may = not_due s f (Request.Host place (HostRequest.Scan folder)) idle may
  after_lost (Request.Host place (HostRequest.Head path limit)) idle is may = not_due s f (Request.Host place (HostRequest.Head path limit)) idle may
  after_lost (Request.Host place (HostRequest.Fetch key number files)) idle is may = yes_and_no lost_one is may.free.still.collects
  after_lost (Request.Host place (HostRequest.Store key folder files)) idle is may = not_due s f (Request.Host place (HostRequest.Store key folder files)) idle may
  after_lost (Request.Host place (HostRequest.Discard key)) idle is may = not_due s f (Request.Host place (HostRequest.Discard key)) idle may
  after_lost (Request.Host place (HostRequest.Deliver plan)) idle is may = yes_and_no lost_one is may.busy.free.still.collects
  after_lost (Request.Record place (RecordRequest.Find its_key)) idle is may = yes_and_no lost_one is may.still.collects
  after_lost (Request.Record place (RecordRequest.Put row)) idle is may = not_due s f (Request.Record place (RecordRequest.Put row)) idle may
  after_lost (Request.Record place (RecordRequest.Touch its_key)) idle is may = not_due s f (Request.Record place (RecordRequest.Touch its_key)) idle may
  after_lost (Request.Record place (RecordRequest.DropArchive its_key)) idle is may = not_due s f (Request.Record place (RecordRequest.DropArchive its_key)) idle may
  after_lost Request.Finished idle is may = not_due s f Request.Finished idle may

  after_failure : (end : End) (request : Request) → f.work ≡ nothing_due → in_flight f.events ≡ [] → settled s f.events ≡ Some end →
      Allowed s f marks request → ⊥
  after_failure end (Request.Host place (HostRequest.Measure path)) idle landed is may = some_and_none (settled s f.events) end is may.still.unsettled
  after_failure end (Request.Host place (HostRequest.Stage plan number)) idle landed is may = some_and_none (settled s f.events) end is may.free.still.unsettled
  after_failure end (Request.Host place (HostRequest.Start launch)) idle landed is may = not_due s f (Request.Host place (HostRequest.Start launch)) idle may
  after_failure end (Request.Host place HostRequest.Collect) idle landed is may = some_in_none (in_flight f.events) may.flying.0 landed may.flying.1
  after_failure end (Request.Host place (HostRequest.Scan folder)) idle landed is may = not_due s f (Request.Host place (HostRequest.Scan folder)) idle may
  after_failure end (Request.Host place (HostRequest.Head path limit)) idle landed is may = not_due s f (Request.Host place (HostRequest.Head path limit)) idle may
  after_failure end (Request.Host place (HostRequest.Fetch key number files)) idle landed is may = some_and_none (settled s f.events) end is may.free.still.unsettled
  after_failure end (Request.Host place (HostRequest.Store key folder files)) idle landed is may = not_due s f (Request.Host place (HostRequest.Store key folder files)) idle may
  after_failure end (Request.Host place (HostRequest.Discard key)) idle landed is may = not_due s f (Request.Host place (HostRequest.Discard key)) idle may
  after_failure end (Request.Host place (HostRequest.Deliver plan)) idle landed is may = some_and_none (settled s f.events) end is may.busy.free.still.unsettled
  after_failure end (Request.Record place (RecordRequest.Find its_key)) idle landed is may = some_and_none (settled s f.events) end is may.still.unsettled
  after_failure end (Request.Record place (RecordRequest.Put row)) idle landed is may = not_due s f (Request.Record place (RecordRequest.Put row)) idle may
  after_failure end (Request.Record place (RecordRequest.Touch its_key)) idle landed is may = not_due s f (Request.Record place (RecordRequest.Touch its_key)) idle may
  after_failure end (Request.Record place (RecordRequest.DropArchive its_key)) idle landed is may =
      not_due s f (Request.Record place (RecordRequest.DropArchive its_key)) idle may
  after_failure end Request.Finished idle landed is may = not_due s f Request.Finished idle may

  after_delivery : (outputs delivered : Fields) (place : JobPlace) (plan : StagePlan) → (unfolding_at s f.events).result ≡ Some outputs →
      IsDelivered s f.events outputs delivered → MayDeliver s f marks place plan → ⊥
  after_delivery outputs delivered place plan result (no_file none only) may =
      let same : may.outputs ≡ outputs = same_some (unfolding_at s f.events).result may.outputs outputs may.result result in
      yes_and_no (any_file outputs) (subst (λ (fields : Fields). any_file fields ≡ true) same may.files) none
  after_delivery outputs delivered place plan result (copied its_plan is delivery) may = some_and_none (delivered_at f.events) its_plan is may.only

  -- where the row of no job is looked for any more, none may be
  pub no_find : (place : JobPlace) (its_key : Key) → IsFree s f → MayFind s f place its_key → ⊥
  no_find place its_key free may =
      let it : IsFound (unfolding_at s f.events).jobs place may.job = found_is (unfolding_at s f.events).jobs place may.job may.known in
      let here : may.job.place ≡ place = same_place may.job.place place it.same in
      yes_if_none (unfolding_at s f.events).jobs (has_no_find f.events) may.job free.looked_up (found_in (is_at place) (unfolding_at s f.events).jobs may.job may.known)
      (ap (λ b. not b || is_looked_up f.events may.job.place) may.reusable ∙ ap (is_looked_up f.events) here ∙ may.unasked)

  pub over : {end : End} (request : Request) → EndsSo s f marks end → Allowed s f marks request → ⊥
  over request (lost idle is) may = after_lost request idle is may
  over request (fails end idle collects landed is) may = after_failure end request idle landed is may
  over (Request.Host place (HostRequest.Measure path)) (succeeds outputs delivered busy landed result is) may =
      yes_if_none s.paths (is_measured f.events) path busy.free.measured may.known may.unmeasured
  over (Request.Host place (HostRequest.Stage plan number)) (succeeds outputs delivered busy landed result is) may = busy.no_stage place plan number may
  over (Request.Host place (HostRequest.Start launch)) (succeeds outputs delivered busy landed result is) may = not_due s f (Request.Host place (HostRequest.Start launch)) busy.free.still.idle may
  over (Request.Host place HostRequest.Collect) (succeeds outputs delivered busy landed result is) may =
      some_in_none (in_flight f.events) may.flying.0 landed may.flying.1
  over (Request.Host place (HostRequest.Scan folder)) (succeeds outputs delivered busy landed result is) may = not_due s f (Request.Host place (HostRequest.Scan folder)) busy.free.still.idle may
  over (Request.Host place (HostRequest.Fetch key number files)) (succeeds outputs delivered busy landed result is) may = busy.no_fetch place key number files may
  over (Request.Host place (HostRequest.Store key folder files)) (succeeds outputs delivered busy landed result is) may = not_due s f (Request.Host place (HostRequest.Store key folder files)) busy.free.still.idle may
  over (Request.Host place (HostRequest.Discard key)) (succeeds outputs delivered busy landed result is) may = not_due s f (Request.Host place (HostRequest.Discard key)) busy.free.still.idle may
  over (Request.Host place (HostRequest.Head path limit)) (succeeds outputs delivered busy landed result is) may = not_due s f (Request.Host place (HostRequest.Head path limit)) busy.free.still.idle may
  over (Request.Host place (HostRequest.Deliver plan)) (succeeds outputs delivered busy landed result is) may =
      after_delivery outputs delivered place plan result is may
  over (Request.Record place (RecordRequest.Find its_key)) (succeeds outputs delivered busy landed result is) may = no_find place its_key busy.free may
  over (Request.Record place (RecordRequest.Put row)) (succeeds outputs delivered busy landed result is) may = not_due s f (Request.Record place (RecordRequest.Put row)) busy.free.still.idle may
  over (Request.Record place (RecordRequest.Touch its_key)) (succeeds outputs delivered busy landed result is) may = not_due s f (Request.Record place (RecordRequest.Touch its_key)) busy.free.still.idle may
  over (Request.Record place (RecordRequest.DropArchive its_key)) (succeeds outputs delivered busy landed result is) may =
      not_due s f (Request.Record place (RecordRequest.DropArchive its_key)) busy.free.still.idle may
  over Request.Finished (succeeds outputs delivered busy landed result is) may = not_due s f Request.Finished busy.free.still.idle may

  -- a result is delivered in one way
  one_delivery : {outputs one other : Fields} → IsDelivered s f.events outputs one → IsDelivered s f.events outputs other → one ≡ other
  one_delivery (no_file none only) (no_file none_too only_too) = refl
  one_delivery (no_file none only) (copied plan is delivery) = absurd (some_and_none (delivered_at f.events) plan is only)
  one_delivery (copied plan is delivery) (no_file none only) = absurd (some_and_none (delivered_at f.events) plan is only)
  one_delivery (copied plan is delivery) (copied other is_too delivery_too) =
      ap (λ (p : StagePlan). p.value) (same_some (delivered_at f.events) plan other is is_too)

  pub one_end : {one other : End} → EndsSo s f marks one → EndsSo s f marks other → one ≡ other
  one_end (lost idle is) (lost idle_too is_too) = refl
  one_end (lost idle is) (fails end idle_too collects landed settles) = absurd (yes_and_no _ is collects)
  one_end (lost idle is) (succeeds outputs delivered busy landed result its) = absurd (yes_and_no _ is busy.free.still.collects)
  one_end (fails end idle collects landed settles) (lost idle_too is) = absurd (yes_and_no _ is collects)
  one_end (fails end idle collects landed settles) (fails other idle_too collects_too landed_too settles_too) = same_some _ end other settles settles_too
  one_end (fails end idle collects landed settles) (succeeds outputs delivered busy landed_too result its) =
      absurd (some_and_none _ end settles busy.free.still.unsettled)
  one_end (succeeds outputs delivered busy landed result its) (lost idle is) = absurd (yes_and_no _ is busy.free.still.collects)
  one_end (succeeds outputs delivered busy landed result its) (fails end idle collects landed_too settles) =
      absurd (some_and_none _ end settles busy.free.still.unsettled)
  one_end (succeeds outputs delivered busy landed result its) (succeeds others elsewhere busy_too landed_too result_too its_too) =
      let same : outputs ≡ others = same_some _ outputs others result result_too in
      ap (λ (o : Fields). succeeds_with o delivered) same
      ∙ ap (succeeds_with others) (one_delivery (subst (λ (o : Fields). IsDelivered s f.events o delivered) same its) its_too)

-- while a child is in flight there is no end
pub flies_on : {s : Scene} {f : Progress} {marks : List Mark} {end : End} {x : ℕ × JobPlace} {xs : List (ℕ × JobPlace)} → EndsSo s f marks end →
    list_any is_lost_collect f.events ≡ false → in_flight f.events ≡ x ∷ xs → ⊥
flies_on (lost idle is) collects flies = yes_and_no _ is collects
flies_on {x = x} {xs = xs} (fails end idle is landed settles) collects flies = let never : x ∷ xs ≡ [] = sym flies ∙ landed in cc
flies_on {x = x} {xs = xs} (succeeds outputs delivered busy landed result its) collects flies = let never : x ∷ xs ≡ [] = sym flies ∙ landed in cc

-- What is known once one more place is learned.
use Rattle.std.proofs.Common.{◌≡◌, ◌∙◌, ℕ, List, [], ◌∷◌, ◌++◌, map, Bool, Option, Some, None, true, Ok, Err, refl, sym, ap, subst, length, take, arith}
use Rattle.std.specs.Prelude.{MatchOption}
use Rattle.std.specs.Global.{Vec}
use Rattle.std.proofs.Math.Seq.{take-append_seam}
use Rattle.std.proofs.lemmas.List.{length_push, map-append}
use Rattle.document_links.specs.declared.process.Process.{Process}
use Rattle.input_files.specs.Measured.{Measures}
use Rattle.job_graph.specs.inner.Elements.{IsIn}
use Rattle.job_graph.specs.declared.fault.UnfoldError.{UnfoldError}
use Rattle.job_graph.specs.declared.growth.KnownJob.{KnownJob}
use Rattle.job_graph.specs.declared.kept.Kept.{Kept}
use Rattle.job_graph.specs.declared.made.Resolved.{Resolved as KeptResolved}
use Rattle.job_graph.specs.declared.outcome.Outputs.{Outputs}
use Rattle.job_graph.specs.declared.progress.Progress.{Progress}
use Rattle.job_graph.specs.Words.{Fields}
use Rattle.job_graph.specs.Apart.{ids_differ}
use Rattle.job_graph.specs.Jobs.{Job, Walk, Walker, result_in, those_named}
use Rattle.job_graph.specs.Equations.{meaning_of}
use Rattle.job_graph.specs.Unfold.{Resolved, Fault, made_by, with_met, first_fault, Unfolded, unfolded, known_from, entries_from}
use Rattle.job_graph.specs.KnownJobs.{jobs_in, known_of}
use Rattle.job_graph.specs.Unfolding.{Blames}
use Rattle.job_graph.specs.Beside.{is_one_open}
use Rattle.job_graph.specs.inner.Growth.{AreCounted, IsAhead, IsOfOneProcess, Unfolds, UnfoldsTo, walk_in}
use Rattle.job_graph.specs.inner.Ended.{ended_of}
use Rattle.job_graph.specs.inner.Inside.{Follows, IsFlagged, Stands, walks_in}
use Rattle.job_graph.specs.inner.Kept.{KeepsRoot, met_by}
use Rattle.job_graph.specs.inner.Outputs.{result_of}
use Rattle.job_graph.specs.inner.Views.{resolved_of}
use Rattle.job_graph.proofs.AheadOf.{ahead, kept_open}
use Rattle.job_graph.proofs.Flags.{no_flags}
use Rattle.job_graph.proofs.laws_of_walks.Open.{more_jobs, more_fault, unfolded_same}

-- the last one is taken off again
pub popped : {X : Type 0} (before now after : List X) (x : X) (found : Option X) → now ≡ before ++ x ∷ [] →
    MatchOption found ((now ≡ []) × (after ≡ [])) (λ last. now ≡ after ++ last ∷ []) → after ≡ before
popped before now after x None is off =
    let none : length (before ++ x ∷ []) ≡ 0 = ap length (sym is ∙ off.0) in absurd (omega (arith, length_push before x))
popped before now after x (Some last) is off =
    let same : before ++ x ∷ [] ≡ after ++ last ∷ [] = sym is ∙ off in
    let as_many : length (before ++ x ∷ []) ≡ length (after ++ last ∷ []) = ap length same in
    let as_long : length after ≡ length before = omega (arith, length_push before x, length_push after last) in
    sym (take-append_seam after (last ∷ [])) ∙ ap (λ (n : ℕ). take n (after ++ last ∷ [])) as_long ∙ ap (take (length before)) (sym same) ∙ take-append_seam before (x ∷ [])

-- ---- of an unfolding

abbrev pub with_learned : Progress → List KeptResolved → Vec Bool → Progress
with_learned held learned flags = record held { facts = record held.facts { learned = learned }; ended = flags }

abbrev task : Measures → Process → Fields → Walker
task measures process fields made = meaning_of measures made process [] fields

same_walks : (old new : Progress) → IsOfOneProcess old new → walks_in new ≡ walks_in old
same_walks old new same =
    ap (λ (measures : Measures). task measures new.process.now new.fields) same.measures
    ∙ ap (λ (process : Process). task old.facts.measures process new.fields) same.process
    ∙ ap (λ (fields : Fields). task old.facts.measures old.process.now fields) same.fields

walk_is : (walks : Walker) (learned : List Resolved) (held : Progress) → walks_in held ≡ walks → map resolved_of held.facts.learned ≡ learned →
    walk_in held ≡ walks (made_by learned)
walk_is walks learned held walker places =
    ap (λ (found : List Resolved). walks_in held (made_by found)) places ∙ ap (λ (w : Walker). w (made_by learned)) walker

-- what is known after one walk, where these jobs were known
pub knows_after : (walks : Walker) (past : List Job) (learned : List Resolved) (held new : Progress) →
    walks_in held ≡ walks → map resolved_of held.facts.learned ≡ learned → jobs_in held.known ≡ past → AreCounted held.known held.entries →
    (unfolded walks learned).jobs ≡ with_met past (walks (made_by learned)).met → (unfolded walks learned).fault ≡ first_fault past (walks (made_by learned)).met →
    ids_differ held.process.now ≡ true → IsAhead held → IsFlagged held → Unfolds held new (Ok tt) → Follows walks learned new
knows_after walks past learned held new walker places known counted all fault apart ahead flagged unfolds =
    let found : UnfoldsTo held new (Ok tt) = unfolds.unfolds ahead counted in
    let walk : walk_in held ≡ walks (made_by learned) = walk_is walks learned held walker places in
    let jobs : jobs_in new.known ≡ (unfolded walks learned).jobs =
    found.grown.0 ∙ ap (λ (jobs : List Job). with_met jobs (walk_in held).met) known ∙ ap (λ (w : Walk). with_met past w.met) walk ∙ sym all in
    record {
      walker = same_walks held new unfolds.same ∙ walker;
      places = ap (map resolved_of) unfolds.learned ∙ places;
      jobs = jobs;
      parents = found.grown.2.parents ∙ ap (known_from []) jobs;
      entries = found.grown.2.count ∙ ap (entries_from 0 []) jobs;
      fault = fault ∙ sym (ap (λ (w : Walk). first_fault past w.met) walk) ∙ sym (ap (λ (jobs : List Job). first_fault jobs (walk_in held).met) known) ∙ found.grown.1;
      result = found.result ∙ ap (λ (found : List Resolved). result_in (made_by found) (walk_in held)) places ∙ ap (result_in (made_by learned)) walk;
      outs = found.outs ∙ ap (λ (w : Walk). those_named w.outs) walk;
      apart = ap ids_differ unfolds.same.process ∙ apart;
      kept = unfolds.root;
      ended = unfolds.ended flagged;
    }

pub blames_after : (walks : Walker) (past : List Job) (learned : List Resolved) (held new : Progress) (error : UnfoldError) →
    walks_in held ≡ walks → map resolved_of held.facts.learned ≡ learned → jobs_in held.known ≡ past → AreCounted held.known held.entries →
    (unfolded walks learned).fault ≡ first_fault past (walks (made_by learned)).met →
    IsAhead held → Unfolds held new (Err error) → Blames (unfolded walks learned).fault error
blames_after walks past learned held new error walker places known counted fault ahead unfolds =
    let walk : walk_in held ≡ walks (made_by learned) = walk_is walks learned held walker places in
    let same : first_fault (jobs_in held.known) (walk_in held).met ≡ (unfolded walks learned).fault =
    ap (λ (jobs : List Job). first_fault jobs (walk_in held).met) known ∙ ap (λ (w : Walk). first_fault past w.met) walk ∙ sym fault in
    subst (λ (found : Option Fault). Blames found error) same (unfolds.unfolds ahead counted)

-- before any job has run

none_counted : (known : List KnownJob) (entries : ℕ) → known ≡ [] → entries ≡ 0 → AreCounted known entries
none_counted known entries none zero = record {
  parents = ap (map known_of) none ∙ sym (ap (λ (before : List KnownJob). known_from [] (jobs_in before)) none);
  count = zero ∙ sym (ap (λ (before : List KnownJob). entries_from 0 [] (jobs_in before)) none);
}

none_ahead : (held : Progress) → held.known ≡ [] → held.kept ≡ None → IsAhead held
none_ahead held known kept = record {
  seen = λ m at. absurd (subst (λ (k : Option Kept). IsIn m (met_by held.facts held.fields held.process.now k)) kept at);
  met = λ job at. absurd (subst (λ (k : List KnownJob). IsIn job (jobs_in k)) known at);
}

pub knows_first : (walks : Walker) (held new : Progress) → walks_in held ≡ walks → held.facts.learned ≡ [] → held.known ≡ [] → held.entries ≡ 0 →
    held.ended.items ≡ [] → held.kept ≡ None → ids_differ held.process.now ≡ true → Unfolds held new (Ok tt) → Follows walks [] new
knows_first walks held new walker learned known entries ended kept apart unfolds =
    knows_after walks [] [] held new walker (ap (map resolved_of) learned) (ap jobs_in known) (none_counted held.known held.entries known entries) refl refl apart (none_ahead held known kept) (no_flags held known ended) unfolds

-- once one more place is learned

is_counted : (walks : Walker) (learned : List Resolved) (old : Progress) → Follows walks learned old → AreCounted old.known old.entries
is_counted walks learned old knows =
    record { parents = knows.parents ∙ ap (known_from []) (sym knows.jobs); count = knows.entries ∙ ap (entries_from 0 []) (sym knows.jobs) }

more_places : (learned : List Resolved) (before more : List KeptResolved) (resolved : KeptResolved) → map resolved_of before ≡ learned → more ≡ before ++ resolved ∷ [] →
    map resolved_of more ≡ learned ++ resolved_of resolved ∷ []
more_places learned before more resolved places is =
    ap (map resolved_of) is ∙ map-append resolved_of before (resolved ∷ []) ∙ ap (λ (front : List Resolved). front ++ resolved_of resolved ∷ []) places

module _ (old : Progress) (resolved : KeptResolved) (more : List KeptResolved) (flags : Vec Bool) (is : more ≡ old.facts.learned ++ resolved ∷ []) (stands : Stands old) where
  is_ahead : IsAhead (with_learned old more flags)
  is_ahead = record { seen = (ahead old resolved more is stands).seen; met = (ahead old resolved more is stands).met }

pub knows_more : (walks : Walker) (learned : List Resolved) (old new : Progress) (resolved : KeptResolved) (more : List KeptResolved) (flags : Vec Bool) → Stands old → Follows walks learned old →
    more ≡ old.facts.learned ++ resolved ∷ [] → flags.items ≡ ended_of (map resolved_of more) old.known → Unfolds (with_learned old more flags) new (Ok tt) →
    Follows walks (learned ++ resolved_of resolved ∷ []) new
knows_more walks learned old new resolved more flags stands knows is flagged unfolds =
    knows_after walks (unfolded walks learned).jobs (learned ++ resolved_of resolved ∷ []) (with_learned old more flags) new
    knows.walker (more_places learned old.facts.learned more resolved knows.places is) knows.jobs (is_counted walks learned old knows)
    (more_jobs walks learned (resolved_of resolved)) (more_fault walks learned (resolved_of resolved) knows.fault) knows.apart (is_ahead old resolved more flags is stands) flagged unfolds

pub blames_more : (walks : Walker) (learned : List Resolved) (old new : Progress) (resolved : KeptResolved) (more : List KeptResolved) (flags : Vec Bool) (error : UnfoldError) → Stands old → Follows walks learned old →
    more ≡ old.facts.learned ++ resolved ∷ [] → Unfolds (with_learned old more flags) new (Err error) → Blames (unfolded walks (learned ++ resolved_of resolved ∷ [])).fault error
blames_more walks learned old new resolved more flags error stands knows is unfolds =
    blames_after walks (unfolded walks learned).jobs (learned ++ resolved_of resolved ∷ []) (with_learned old more flags) new error
    knows.walker (more_places learned old.facts.learned more resolved knows.places is) knows.jobs (is_counted walks learned old knows)
    (more_fault walks learned (resolved_of resolved) knows.fault) (is_ahead old resolved more flags is stands) unfolds

pub knows_still : (walks : Walker) (learned : List Resolved) (old new : Progress) (more less : List KeptResolved) (flags later : Vec Bool) (error : UnfoldError) → Follows walks learned old →
    less ≡ old.facts.learned → later.items ≡ ended_of (map resolved_of less) new.known → Unfolds (with_learned old more flags) new (Err error) →
    Follows walks learned (with_learned new less later)
knows_still walks learned old new more less flags later error knows is flagged unfolds = record {
  walker = same_walks (with_learned old more flags) new unfolds.same ∙ knows.walker;
  places = ap (map resolved_of) is ∙ knows.places;
  jobs = ap jobs_in unfolds.alike.jobs ∙ knows.jobs;
  parents = ap (map known_of) unfolds.alike.jobs ∙ knows.parents;
  entries = unfolds.alike.entries ∙ knows.entries;
  fault = knows.fault;
  result = ap result_of unfolds.alike.outputs ∙ knows.result;
  outs = ap (λ (outputs : Outputs). outputs.named.items) unfolds.alike.outputs ∙ knows.outs;
  apart = ap ids_differ unfolds.same.process ∙ knows.apart;
  kept = subst (λ (k : Option Kept). KeepsRoot (record new.facts { learned = less }) new.fields new.process.now k) (sym unfolds.none) tt;
  ended = flagged;
}

-- once one more place is learned, while a job beside it is open

still_knows : (walks : Walker) (learned : List Resolved) (old : Progress) (one : Resolved) (more : List KeptResolved) (flags : Vec Bool) → map resolved_of more ≡ learned ++ one ∷ [] →
    Follows walks learned old → unfolded walks (learned ++ one ∷ []) ≡ unfolded walks learned →
    KeepsRoot (record old.facts { learned = more }) old.fields old.process.now old.kept → flags.items ≡ ended_of (map resolved_of more) old.known →
    Follows walks (learned ++ one ∷ []) (with_learned old more flags)
still_knows walks learned old one more flags places knows same kept flagged = record {
  walker = knows.walker;
  places = places;
  jobs = knows.jobs ∙ sym (ap (λ (u : Unfolded). u.jobs) same);
  parents = knows.parents ∙ sym (ap (λ (u : Unfolded). known_from [] u.jobs) same);
  entries = knows.entries ∙ sym (ap (λ (u : Unfolded). entries_from 0 [] u.jobs) same);
  fault = ap (λ (u : Unfolded). u.fault) same ∙ knows.fault;
  result = knows.result ∙ sym (ap (λ (u : Unfolded). u.result) same);
  outs = knows.outs ∙ sym (ap (λ (u : Unfolded). u.outs) same);
  apart = knows.apart;
  kept = kept;
  ended = flagged;
}

pub knows_open : (walks : Walker) (learned : List Resolved) (old : Progress) (resolved : KeptResolved) (more : List KeptResolved) (flags : Vec Bool) → Stands old → Follows walks learned old →
    more ≡ old.facts.learned ++ resolved ∷ [] →
    is_one_open (map resolved_of old.facts.learned) (resolved_of resolved).place (jobs_in old.known) ≡ true →
    flags.items ≡ ended_of (map resolved_of more) old.known → Follows walks (learned ++ resolved_of resolved ∷ []) (with_learned old more flags)
knows_open walks learned old resolved more flags stands knows is waits flagged =
    let one : Resolved = resolved_of resolved in
    let through : walks_in old ≡ walks = knows.walker in
    let here : is_one_open learned one.place (unfolded (walks_in old) learned).jobs ≡ true =
    sym (ap (λ (found : List Resolved). is_one_open found one.place (jobs_in old.known)) knows.places
    ∙ ap (λ (jobs : List Job). is_one_open learned one.place jobs) (knows.jobs ∙ ap (λ (w : Walker). (unfolded w learned).jobs) (sym through))) ∙ waits in
    let none : (unfolded (walks_in old) learned).fault ≡ None = ap (λ (w : Walker). (unfolded w learned).fault) through ∙ knows.fault in
    subst (λ (w : Walker). Follows w (learned ++ one ∷ []) (with_learned old more flags)) through
    (still_knows (walks_in old) learned old one more flags (more_places learned old.facts.learned more resolved knows.places is)
    (subst (λ (w : Walker). Follows w learned old) (sym through) knows)
    (unfolded_same old.process.now old.fields old.facts.measures knows.apart learned one here none)
    (kept_open old resolved more is stands waits) flagged)

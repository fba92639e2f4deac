-- Known jobs: no two are at one place, each is met again, and each that is met is known.
use Rattle.std.proofs.Common.{◌≡◌, ◌∙◌, ◌≢◌, inl, inr, ℕ, zero, suc, ◌<◌, List, [], ◌∷◌, ◌++◌, map, length, reverse, find, Bool, true, false, cond, Option, Some, None, fold, option_map, bytes_eq, refl, sym, ap, ap₂, subst, arith}
use Rattle.std.specs.Prelude.{◌&&◌, ◌||◌, filter_map, Contains, is_some, slice_index_or}
use Rattle.std.specs.List.{AllByRecursion, IsDistinct, list_any, list_all}
use Rattle.std.proofs.lemmas.List.{reverse-reverse}
use Rattle.std.proofs.lemmas.List.Elements.{All-contains, All-from_recursion}
use Rattle.std.proofs.lemmas.List.Folds.{list_any-append}
use Rattle.std.proofs.lemmas.Slice.Eq.{bytes_eq-Decides}
use Rattle.cwl_value.specs.Erased.{fields_erased}
use Rattle.cwl_value.specs.declared.place.Segment.{Segment}
use Rattle.cwl_process.specs.declared.tool.Tool.{Tool}
use Rattle.document_links.specs.declared.process.Process.{Process}
use Rattle.input_files.specs.Measured.{Measures}
use Rattle.job_graph.specs.Agrees.{Agrees, AgreesKnown}
use Rattle.job_graph.specs.Apart.{ids_differ}
use Rattle.job_graph.specs.Words.{Fields, JobPlace, segment_eq, is_same_place}
use Rattle.job_graph.specs.Inputs.{root_fields}
use Rattle.job_graph.specs.Made.{fields_made}
use Rattle.job_graph.specs.Jobs.{Job, Met, met_job, met_fault, Made, Walker, is_well, all_named}
use Rattle.job_graph.specs.Equations.{walker}
use Rattle.job_graph.specs.Eval.{Key, World, made_in, eval}
use Rattle.job_graph.specs.More.{Stays}
use Rattle.job_graph.specs.Unfold.{Resolved, is_at, outputs_at, job_met, is_known, with_job, with_met, met_after, jobs_after, made_by, unfolded}
use Rattle.job_graph.proofs.laws_of_walks.Part.{AllIn, and_left, and_right, neither_one, neither_other}
use Rattle.job_graph.proofs.laws_of_walks.Places.{Apart, walk_places}
use Rattle.job_graph.specs.inner.Elements.{IsIn}
use Rattle.job_graph.proofs.laws_of_walks.Learned.{walks_through, in_part, earlier_met, well_of, walk_grows, agrees_on}

-- ---- places

segment_itself : (s : Segment) → segment_eq s s ≡ true
segment_itself s = ap₂ (λ (a b : Bool). a && b) ((bytes_eq-Decides s.step s.step).1 refl) ((bytes_eq-Decides s.index s.index).1 refl)

place_itself : (place : JobPlace) → is_same_place place place ≡ true
place_itself [] = refl
place_itself (s ∷ place) = ap₂ (λ (a b : Bool). a && b) (segment_itself s) (place_itself place)

abbrev segment_with : List ℕ → List ℕ → Segment
segment_with step index = record { step = step; index = index }

segment_same : (s t : Segment) → segment_eq s t ≡ true → s ≡ t
segment_same s t is =
    ap₂ segment_with ((bytes_eq-Decides s.step t.step).0 (and_left (bytes_eq s.step t.step) (bytes_eq s.index t.index) is)) ((bytes_eq-Decides s.index t.index).0 (and_right (bytes_eq s.step t.step) (bytes_eq s.index t.index) is))

pub same_place : (p q : JobPlace) → is_same_place p q ≡ true → p ≡ q
same_place [] [] is = refl
same_place [] (t ∷ q) is = absurd cc
same_place (s ∷ p) [] is = absurd cc
same_place (s ∷ p) (t ∷ q) is = ap₂ (λ (x : Segment) (xs : JobPlace). x ∷ xs) (segment_same s t (and_left (segment_eq s t) (is_same_place p q) is)) (same_place p q (and_right (segment_eq s t) (is_same_place p q) is))

-- ---- no two known jobs are at one place

abbrev places : List Job → List JobPlace
places jobs = map (λ (job : Job). job.place) jobs

all_push : (P : JobPlace → Type 0) (jobs : List Job) (job : Job) → AllByRecursion P (places jobs) → P job.place → AllByRecursion P (places (jobs ++ job ∷ []))
all_push P [] job all last = (last, tt)
all_push P (k ∷ ks) job all last = (all.0, all_push P ks job all.1 last)

distinct_push : (jobs : List Job) (job : Job) → is_known jobs job ≡ false → IsDistinct is_same_place (places jobs) → IsDistinct is_same_place (places (jobs ++ job ∷ []))
unfolding IsDistinct
distinct_push [] job new distinct = (tt, tt)
distinct_push (k ∷ ks) job new distinct = (
  all_push (λ place. is_same_place k.place place ≡ false) ks job distinct.0 (neither_one (is_same_place k.place job.place) (is_known ks job) new),
  distinct_push ks job (neither_other (is_same_place k.place job.place) (is_known ks job) new) distinct.1,
)

distinct_with : (jobs : List Job) (job : Job) (known : Bool) → is_known jobs job ≡ known → IsDistinct is_same_place (places jobs) → IsDistinct is_same_place (places (cond known jobs (jobs ++ job ∷ [])))
distinct_with jobs job true is distinct = distinct
distinct_with jobs job false is distinct = distinct_push jobs job is distinct

distinct_put : (new jobs : List Job) → IsDistinct is_same_place (places jobs) → IsDistinct is_same_place (places (fold with_job jobs new))
distinct_put [] jobs distinct = distinct
distinct_put (job ∷ new) jobs distinct = distinct_put new (with_job jobs job) (distinct_with jobs job (is_known jobs job) refl distinct)

none_distinct : IsDistinct is_same_place (places [])
unfolding IsDistinct
none_distinct = tt

after_distinct : (walks : Walker) (latest : List Resolved) → IsDistinct is_same_place (places (jobs_after walks latest))
after_distinct walks [] = distinct_put (filter_map job_met (met_after walks [])) [] none_distinct
after_distinct walks (r ∷ earlier) = distinct_put (filter_map job_met (met_after walks (r ∷ earlier))) (jobs_after walks earlier) (after_distinct walks earlier)

pub known_distinct : (walks : Walker) (learned : List Resolved) → IsDistinct is_same_place (map (λ (job : Job). job.place) (unfolded walks learned).jobs)
known_distinct walks learned = after_distinct walks (reverse learned)

-- ---- what is put to known jobs

module _ (P : Job → Type 0) where
  all_last : (jobs : List Job) (job : Job) → AllByRecursion P jobs → P job → AllByRecursion P (jobs ++ job ∷ [])
  all_last [] job all last = (last, tt)
  all_last (k ∷ ks) job all last = (all.0, all_last ks job all.1 last)

  all_with : (known : Bool) (jobs : List Job) (job : Job) → AllByRecursion P jobs → P job → AllByRecursion P (cond known jobs (jobs ++ job ∷ []))
  all_with true jobs job all last = all
  all_with false jobs job all last = all_last jobs job all last

  pub all_put : (new jobs : List Job) → AllByRecursion P jobs → AllByRecursion P new → AllByRecursion P (fold with_job jobs new)
  all_put [] jobs all more = all
  all_put (job ∷ new) jobs all more = all_put new (with_job jobs job) (all_with (is_known jobs job) jobs job all more.0) more.1

or_true : (a b : Bool) → b ≡ true → (a || b) ≡ true
or_true true b is = refl
or_true false b is = is

pub still_known : (b : Bool) (jobs : List Job) (job other : Job) → is_known jobs other ≡ true → is_known (cond b jobs (jobs ++ job ∷ [])) other ≡ true
still_known true jobs job other is = is
still_known false jobs job other is = list_any-append (is_at other.place) jobs (job ∷ []) ∙ ap (λ (b : Bool). b || list_any (is_at other.place) (job ∷ [])) is

itself_known : (b : Bool) (jobs : List Job) (job : Job) → is_known jobs job ≡ b → is_known (cond b jobs (jobs ++ job ∷ [])) job ≡ true
itself_known true jobs job is = is
itself_known false jobs job is =
    list_any-append (is_at job.place) jobs (job ∷ []) ∙ or_true (is_known jobs job) (list_any (is_at job.place) (job ∷ [])) (ap (λ (b : Bool). b || false) (place_itself job.place))

stays_known : (new jobs : List Job) (job : Job) → is_known jobs job ≡ true → is_known (fold with_job jobs new) job ≡ true
stays_known [] jobs job is = is
stays_known (k ∷ new) jobs job is = stays_known new (with_job jobs k) job (still_known (is_known jobs k) jobs k job is)

pub same_job : (a b : Job) → met_job a ≡ met_job b → a ≡ b
same_job a b is = cc

pub met_known : (met : List Met) (jobs : List Job) (job : Job) → IsIn (met_job job) met → is_known (with_met jobs met) job ≡ true
met_known [] jobs job at = absurd at
met_known (met_job k ∷ met) jobs job (inl here) =
    subst (λ (j : Job). is_known (with_met (with_job jobs k) met) j ≡ true) (sym (same_job job k here)) (stays_known (filter_map job_met met) (with_job jobs k) k (itself_known (is_known jobs k) jobs k refl))
met_known (met_job k ∷ met) jobs job (inr later) = met_known met (with_job jobs k) job later
met_known (met_fault place cause ∷ met) jobs job (inl here) = absurd cc
met_known (met_fault place cause ∷ met) jobs job (inr later) = met_known met jobs job later

-- ---- the job that is found at a place

abbrev pub Found : (Job → Type 0) → JobPlace → Option Job → Type 0
Found P place found = (job : Job) × (found ≡ Some job) × P job × (is_same_place job.place place ≡ true)

first_found : (P : Job → Type 0) (place : JobPlace) (job : Job) (jobs : List Job) (here : Bool) → is_same_place job.place place ≡ here → P job → (list_any (is_at place) jobs ≡ true → Found P place (find (is_at place) jobs))
    → (here || list_any (is_at place) jobs) ≡ true → Found P place (cond here (Some job) (find (is_at place) jobs))
first_found P place job jobs true is holds rest some = (job, refl, holds, is)
first_found P place job jobs false is holds rest some = rest some

pub found_in : (P : Job → Type 0) (place : JobPlace) (jobs : List Job) → AllByRecursion P jobs → list_any (is_at place) jobs ≡ true → Found P place (find (is_at place) jobs)
found_in P place [] all some = absurd cc
found_in P place (job ∷ jobs) all some = first_found P place job jobs (is_at place job) refl all.0 (λ rest. found_in P place jobs all.1 rest) some

-- ---- jobs of one walk at one place are one

pub in_all : (G : Job → Type 0) (met : List Met) → AllIn G met → (job : Job) → IsIn (met_job job) met → G job
in_all G [] all job at = absurd at
in_all G (met_job k ∷ met) all job (inl here) = subst G (sym (same_job job k here)) all.0
in_all G (met_job k ∷ met) all job (inr later) = in_all G met all.1 job later
in_all G (met_fault place cause ∷ met) all job (inl here) = absurd cc
in_all G (met_fault place cause ∷ met) all job (inr later) = in_all G met all.1 job later

one_at : (met : List Met) → Apart met → (a b : Job) → IsIn (met_job a) met → IsIn (met_job b) met → a.place ≡ b.place → a ≡ b
one_at [] apart a b at bt same = absurd at
one_at (met_job k ∷ met) apart a b (inl at) (inl bt) same = same_job a k at ∙ sym (same_job b k bt)
one_at (met_job k ∷ met) apart a b (inl at) (inr bt) same =
    absurd (in_all (λ other. other.place ≢ k.place) met apart.0 b bt (sym same ∙ ap (λ (j : Job). j.place) (same_job a k at)))
one_at (met_job k ∷ met) apart a b (inr at) (inl bt) same =
    absurd (in_all (λ other. other.place ≢ k.place) met apart.0 a at (same ∙ ap (λ (j : Job). j.place) (same_job b k bt)))
one_at (met_job k ∷ met) apart a b (inr at) (inr bt) same = one_at met apart.1 a b at bt same
one_at (met_fault place cause ∷ met) apart a b (inl at) bt same = absurd cc
one_at (met_fault place cause ∷ met) apart a b (inr at) (inl bt) same = absurd cc
one_at (met_fault place cause ∷ met) apart a b (inr at) (inr bt) same = one_at met apart a b at bt same

-- ---- elements by their places in a list

in_of : (m : Met) (met : List Met) (k : ℕ) → k < length met → slice_index_or met k m ≡ m → IsIn m met
in_of m [] k within is = absurd (omega arith)
in_of m (x ∷ xs) zero within is = inl (sym is)
in_of m (x ∷ xs) (suc k) within is = inr (in_of m xs k (omega arith) is)

contains_of : (m : Met) (met : List Met) → IsIn m met → Contains met m
contains_of m [] at = absurd at
contains_of m (x ∷ xs) (inl here) = (zero, omega arith, sym here)
contains_of m (x ∷ xs) (inr later) = let rest : Contains xs m = contains_of m xs later in (suc rest.0, omega arith, rest.2)

pub listed : (whole met : List Met) → ((m : Met) → IsIn m met → IsIn m whole) → AllByRecursion (λ (job : Job). IsIn (met_job job) whole) (filter_map job_met met)
listed whole [] means = tt
listed whole (met_job job ∷ met) means = (means (met_job job) (inl refl), listed whole met (λ m at. means m (inr at)))
listed whole (met_fault place cause ∷ met) means = listed whole met (λ m at. means m (inr at))

pub all_means : (P Q : Job → Type 0) → ((job : Job) → P job → Q job) → (jobs : List Job) → AllByRecursion P jobs → AllByRecursion Q jobs
all_means P Q means [] all = tt
all_means P Q means (job ∷ jobs) all = (means job all.0, all_means P Q means jobs all.1)

-- ---- jobs whose outputs are known

pub well_in : (made : Made) (met : List Met) → list_all (is_well made) met ≡ true → (job : Job) → IsIn (met_job job) met → is_some (made job) ≡ true
well_in made [] well job at = absurd at
well_in made (x ∷ xs) well job (inl here) = ap (is_well made) here ∙ and_left (is_well made x) (list_all (is_well made) xs) well
well_in made (x ∷ xs) well job (inr later) = well_in made xs (and_right (is_well made x) (list_all (is_well made) xs) well) job later

pub known_some : (found : Option Fields) (f : Fields → Fields) → is_some (option_map f found) ≡ true → is_some found ≡ true
known_some None f some = some
known_some (Some outputs) f some = refl

by_well : (made : Made) (met : List Met) (outs : Option Fields) (job : Job) → IsIn (met_job job) met → made job ≡ None → (well : Bool) → list_all (is_well made) met ≡ well → cond well outs None ≡ None
by_well made met outs job at none true is =
    let some : is_some (made job) ≡ true = well_in made met is job at in
    let gone : is_some (made job) ≡ false = ap is_some none in
    absurd cc
by_well made met outs job at none false is = refl

pub not_there : (made : Made) (met : List Met) (outs : Option Fields) (job : Job) → IsIn (met_job job) met → made job ≡ None → cond (list_all (is_well made) met) outs None ≡ None
not_there made met outs job at none = by_well made met outs job at none (list_all (is_well made) met) refl

module _ (process : Process) (fields : Fields) (measures : Measures) where
  abbrev walks : Walker
  walks = walks_through process fields measures

  abbrev IsMetAfter : List Resolved → Job → Type 0
  IsMetAfter latest job = IsIn (met_job job) (met_after walks latest)

  -- each known job is met
  after_met : (latest : List Resolved) → AllByRecursion (IsMetAfter latest) (jobs_after walks latest)
  after_met [] = all_put (IsMetAfter []) (filter_map job_met (met_after walks [])) [] tt (listed (met_after walks []) (met_after walks []) (λ m at. at))
  after_met (r ∷ earlier) =
      all_put (IsMetAfter (r ∷ earlier)) (filter_map job_met (met_after walks (r ∷ earlier))) (jobs_after walks earlier)
      (all_means (IsMetAfter earlier) (IsMetAfter (r ∷ earlier))
      (λ job at. in_part (met_job job) (met_after walks earlier) (met_after walks (r ∷ earlier)) (earlier_met process fields measures (made_by []) r earlier) at) (jobs_after walks earlier) (after_met earlier))
      (listed (met_after walks (r ∷ earlier)) (met_after walks (r ∷ earlier)) (λ m at. at))

  -- each job that is met is known
  pub after_known : (latest : List Resolved) (job : Job) → IsMetAfter latest job → is_known (jobs_after walks latest) job ≡ true
  after_known [] job at = met_known (met_after walks []) [] job at
  after_known (r ∷ earlier) job at = met_known (met_after walks (r ∷ earlier)) (jobs_after walks earlier) job at

  pub in_order : (learned : List Resolved) → met_after walks (reverse learned) ≡ (walks (made_by learned)).met
  in_order learned = ap (λ (known : List Resolved). (walks (made_by known)).met) (reverse-reverse learned)

  pub known_met : (learned : List Resolved) → AllByRecursion (λ (job : Job). IsIn (met_job job) (walks (made_by learned)).met) (unfolded walks learned).jobs
  known_met learned = subst (λ (met : List Met). AllByRecursion (λ (job : Job). IsIn (met_job job) met) (unfolded walks learned).jobs) (in_order learned) (after_met (reverse learned))

  -- the job that is met at a place is the one that is known there
  pub met_found : ids_differ process ≡ true → (learned : List Resolved) (job : Job) → IsIn (met_job job) (walks (made_by learned)).met → find (is_at job.place) (unfolded walks learned).jobs ≡ Some job
  met_found apart learned job at =
      let known : is_known (unfolded walks learned).jobs job ≡ true = after_known (reverse learned) job (subst (IsIn (met_job job)) (sym (in_order learned)) at) in
      let found : Found (λ k. IsIn (met_job k) (walks (made_by learned)).met) job.place (find (is_at job.place) (unfolded walks learned).jobs) =
      found_in (λ k. IsIn (met_job k) (walks (made_by learned)).met) job.place (unfolded walks learned).jobs (known_met learned) known in
      let one : found.0 ≡ job = one_at (walks (made_by learned)).met (walk_places measures (made_by learned) process apart [] fields).1 found.0 job found.2 at (same_place found.0.place job.place found.3) in
      found.1 ∙ ap Some one

  stays_as : (before : Option Fields) (given_by : Option Fields) → ((outputs : Fields) → before ≡ Some outputs → given_by ≡ Some outputs) → Stays before given_by
  stays_as None given_by means = tt
  stays_as (Some outputs) given_by means = means outputs refl

  -- where a world agrees with the known jobs, it does with those that are met
  pub known_agree : (key : Tool → Fields → Key) (world : World) → ids_differ process ≡ true → (learned : List Resolved) → AgreesKnown key world walks learned → Agrees key world walks learned
  known_agree key world apart learned agrees = λ job at.
      stays_as (outputs_at learned job.place) (world (key job.tool job.inputs))
      (λ outputs is. agrees job.place job outputs (met_found apart learned job (in_of (met_job job) (walks (made_by learned)).met at.0 at.1 at.2)) is)

  -- as the laws say it

  pub met_is_known : (learned : List Resolved) (job : Job) → ids_differ process ≡ true → Contains (walks (made_by learned)).met (met_job job) → find (is_at job.place) (unfolded walks learned).jobs ≡ Some job
  met_is_known learned job apart at = met_found apart learned job (in_of (met_job job) (walks (made_by learned)).met at.0 at.1 at.2)

  pub is_met : (learned : List Resolved) (job : Job) → Contains (unfolded walks learned).jobs job → IsIn (met_job job) (walks (made_by learned)).met
  is_met learned job at =
      All-contains (λ (job : Job). IsIn (met_job job) (walks (made_by learned)).met) (unfolded walks learned).jobs job
      (All-from_recursion (λ (job : Job). IsIn (met_job job) (walks (made_by learned)).met) (unfolded walks learned).jobs (known_met learned)) at

  pub known_is_met : (learned : List Resolved) (job : Job) → Contains (unfolded walks learned).jobs job → Contains (walks (made_by learned)).met (met_job job)
  known_is_met learned job at = contains_of (met_job job) (walks (made_by learned)).met (is_met learned job at)

  pub each_learned : (learned : List Resolved) (outputs : Fields) (job : Job) → (unfolded walks learned).result ≡ Some outputs → Contains (unfolded walks learned).jobs job → is_some (outputs_at learned job.place) ≡ true
  each_learned learned outputs job is at =
      known_some (outputs_at learned job.place) (fields_made job.place)
      (well_in (made_by learned) (walks (made_by learned)).met (well_of (list_all (is_well (made_by learned)) (walks (made_by learned)).met) (all_named (walks (made_by learned)).outs) outputs is).0 job (is_met learned job at))

-- computing every job fails where a known job does
module _ (process : Process) (given : Fields) (measures : Measures) where
  abbrev handed : Fields
  handed = root_fields process given measures

  abbrev the_walks : Walker
  the_walks = walker process given measures

  pub job_fails : (key : Tool → Fields → Key) (world : World) (learned : List Resolved) (job : Job) → Agrees key world the_walks learned → Contains (unfolded the_walks learned).jobs job → world (key job.tool job.inputs) ≡ None
      → eval key world process given measures ≡ None
  job_fails key world learned job rightly at fails =
      ap (option_map fields_erased)
      (not_there (made_in key world) (the_walks (made_in key world)).met (all_named (the_walks (made_in key world)).outs) job
      (in_part (met_job job) (the_walks (made_by learned)).met (the_walks (made_in key world)).met
      (walk_grows process handed measures (made_by learned) (made_in key world) (agrees_on key world process given measures learned rightly)).met (is_met process handed measures learned job at))
      (ap (option_map (fields_made job.place)) fails))

-- Flags of the known jobs: what sets them, and what they say once they are set.
use Rattle.std.proofs.Common.{◌≡◌, ◌∙◌, ℕ, List, [], ◌∷◌, ◌++◌, map, length, take, drop, find, get_or, set, subst, zero, suc, ◌<◌, Bool, true, false, cond, Option, Some, None, option_map, refl, sym, ap, ap₂, arith}
use Rattle.std.specs.Prelude.{◌||◌, is_some, not}
use Rattle.std.specs.List.{list_any, zip}
use Rattle.std.proofs.Math.Seq.{get_or-append_seam}
use Rattle.std.proofs.lemmas.List.{length-map, length_push, map-append, take-append-drop}
use Rattle.job_graph.specs.declared.costs.Costs.{Costs}
use Rattle.job_graph.specs.declared.growth.KnownJob.{KnownJob}
use Rattle.job_graph.specs.declared.made.Resolved.{Resolved as KeptResolved}
use Rattle.job_graph.specs.declared.progress.Progress.{Progress}
use Rattle.job_graph.specs.Words.{Fields, JobPlace, is_same_place}
use Rattle.job_graph.specs.KnownJobs.{jobs_in, known_of}
use Rattle.job_graph.specs.Made.{any_made}
use Rattle.job_graph.specs.PresentJobGraph.{needed_among, vertex_of}
use Rattle.job_graph.specs.Unfold.{Resolved, is_at, outputs_at}
use Rattle.job_graph.specs.inner.Ended.{ended_after, ended_of, has_ended, needed_by, vertex_by}
use Rattle.job_graph.specs.inner.Index.{IsNumberAt}
use Rattle.job_graph.specs.inner.Inside.{IsFlagged}
use Rattle.job_graph.specs.inner.Views.{resolved_of}
use Rattle.job_graph.proofs.GoingOn.{same_at}
use Rattle.job_graph.proofs.Index.{some_known}
use Rattle.job_graph.proofs.Marks.{same_either_way}

-- ---- once one more place is learned

abbrev found_at : Option Resolved → Bool
found_at found = is_some (option_map (λ r. r.outputs) found)

at_last : (one : Resolved) (same : Bool) → found_at (cond same (Some one) None) ≡ (false || same)
at_last one true = refl
at_last one false = refl

past_one : (r : Resolved) (here same : Bool) (later before : Option Resolved) → found_at later ≡ (found_at before || same) →
    found_at (cond here (Some r) later) ≡ (found_at (cond here (Some r) before) || same)
past_one r true same later before is = refl
past_one r false same later before is = is

-- outputs are there where they were, or where the places are the same
pub one_more : (learned : List Resolved) (one : Resolved) (place : JobPlace) →
    is_some (outputs_at (learned ++ one ∷ []) place) ≡ (is_some (outputs_at learned place) || is_same_place one.place place)
one_more [] one place = at_last one (is_same_place one.place place)
one_more (r ∷ rs) one place =
    past_one r (is_same_place r.place place) (is_same_place one.place place)
    (find (λ r. is_same_place r.place place) (rs ++ one ∷ [])) (find (λ r. is_same_place r.place place) rs) (one_more rs one place)

pub ended_more : (learned : List Resolved) (one : Resolved) (known : List KnownJob) →
    map (ended_after one.place) (zip (ended_of learned known) known) ≡ ended_of (learned ++ one ∷ []) known
ended_more learned one [] = refl
ended_more learned one (k ∷ ks) =
    ap₂ (λ (b : Bool) (bs : List Bool). b ∷ bs)
    (ap (λ (same : Bool). has_ended learned k || same) (same_either_way k.job.place one.place) ∙ sym (one_more learned one k.job.place))
    (ended_more learned one ks)

same_last : {X : Type 0} (before early : List X) (one last : X) → before ++ one ∷ [] ≡ early ++ last ∷ [] → one ≡ last
same_last before early one last is =
    let lengths : length (before ++ one ∷ []) ≡ length (early ++ last ∷ []) = ap length is in
    let as_many : length before ≡ length early = omega (arith, length_push before one, length_push early last) in
    sym (get_or-append_seam before one [] last) ∙ ap₂ (λ xs (n : ℕ). get_or xs n last) is as_many ∙ get_or-append_seam early last [] last

none_last : {X : Type 0} (before : List X) (one : X) → [] ≡ before ++ one ∷ [] → ⊥
none_last before one is = let none : 0 ≡ length (before ++ one ∷ []) = ap length is in absurd (omega (arith, length_push before one))

module _ (learned : List KeptResolved) (known : List KnownJob) (flags after : List Bool) where
  pub flags_none : learned ≡ [] → (before : List KeptResolved) (one : KeptResolved) → learned ≡ before ++ one ∷ [] → flags ≡ ended_of (map resolved_of before) known →
      after ≡ ended_of (map resolved_of learned) known
  flags_none none before one is were = absurd (none_last before one (sym none ∙ is))

  pub flags_last : (early : List KeptResolved) (last : KeptResolved) → learned ≡ early ++ last ∷ [] → after ≡ map (ended_after last.at.place) (zip flags known) →
      (before : List KeptResolved) (one : KeptResolved) → learned ≡ before ++ one ∷ [] → flags ≡ ended_of (map resolved_of before) known →
      after ≡ ended_of (map resolved_of learned) known
  flags_last early last at_end set before one is were =
      set
      ∙ ap₂ (λ (r : KeptResolved) (fs : List Bool). map (ended_after r.at.place) (zip fs known)) (same_last early before last one (sym at_end ∙ is)) were
      ∙ ended_more (map resolved_of before) (resolved_of one) known
      ∙ ap (λ (places : List Resolved). ended_of places known) (sym (map-append resolved_of before (one ∷ [])) ∙ ap (map resolved_of) (sym is))

-- ---- the flag of one place

as_it_was : (f b : Bool) → (b ≡ true → ⊥) → (f || b) ≡ f
as_it_was true b never = refl
as_it_was false true never = absurd (never refl)
as_it_was false false never = refl

none_at : (place : JobPlace) (flags : List Bool) (known : List KnownJob) → length flags ≡ length known
    → ((m : ℕ) (k : KnownJob) → m < length known → k ≡ get_or known m k → is_same_place k.job.place place ≡ true → ⊥) → flags ≡ map (ended_after place) (zip flags known)
none_at place [] [] long none = refl
none_at place [] (k ∷ ks) long none = absurd (omega (arith, long))
none_at place (f ∷ fs) [] long none = absurd (omega (arith, long))
none_at place (f ∷ fs) (k ∷ ks) long none =
    let as_many : length fs ≡ length ks = omega (arith, long) in
    ap₂ (λ (b : Bool) (bs : List Bool). b ∷ bs) (sym (as_it_was f (is_same_place k.job.place place) (none 0 k (omega arith) refl)))
    (none_at place fs ks as_many (λ m t below at. none (suc m) t (omega (arith, below)) at))

set_at : (place : JobPlace) (flags : List Bool) (known : List KnownJob) (n : ℕ) → length flags ≡ length known → n < length known
    → ((k : KnownJob) → k ≡ get_or known n k → is_same_place k.job.place place ≡ true)
    → ((m : ℕ) (k : KnownJob) → m < length known → k ≡ get_or known m k → is_same_place k.job.place place ≡ true → n ≡ m) → set flags n true ≡ map (ended_after place) (zip flags known)
set_at place [] [] n long below here one = absurd (omega (arith, below))
set_at place [] (k ∷ ks) n long below here one = absurd (omega (arith, long))
set_at place (f ∷ fs) [] n long below here one = absurd (omega (arith, long))
set_at place (f ∷ fs) (k ∷ ks) zero long below here one =
    let as_many : length fs ≡ length ks = omega (arith, long) in
    ap₂ (λ (b : Bool) (bs : List Bool). b ∷ bs) (sym (ended f (is_same_place k.job.place place) (here k refl)))
    (none_at place fs ks as_many (λ m t within at same. let no : 0 ≡ suc m = one (suc m) t (omega (arith, within)) at same in absurd (omega (arith, no))))
  where
    ended : (f b : Bool) → b ≡ true → (f || b) ≡ true
    ended true b is = refl
    ended false b is = is
set_at place (f ∷ fs) (k ∷ ks) (suc n) long below here one =
    let as_many : length fs ≡ length ks = omega (arith, long) in
    let less : n < length ks = omega (arith, below) in
    ap₂ (λ (b : Bool) (bs : List Bool). b ∷ bs) (sym (as_it_was f (is_same_place k.job.place place) (λ same. let no : suc n ≡ 0 = one 0 k (omega arith) refl same in absurd (omega (arith, no)))))
    (set_at place fs ks n as_many less here (λ m t within at same. let equal : suc n ≡ suc m = one (suc m) t (omega (arith, within)) at same in omega (arith, equal)))

module _ (place : JobPlace) (flags : List Bool) (known : List KnownJob) (long : length flags ≡ length known) where
  pub flag_set : (n : ℕ) → IsNumberAt place known (Some n) → list_any (is_at place) (jobs_in known) ≡ true → set flags n true ≡ map (ended_after place) (zip flags known)
  flag_set n one some =
      let found : (m : ℕ) × ((k : KnownJob) × ((m < length known) × ((k ≡ get_or known m k) × (is_same_place k.job.place place ≡ true)))) = some_known known place some in
      let same : Some n ≡ Some found.0 = one found.0 found.1.0 found.1.1.0 found.1.1.1.0 found.1.1.1.1 in
      let number : n ≡ found.0 = one_of n found.0 same in
      set_at place flags known n long (subst (λ (m : ℕ). m < length known) (sym number) found.1.1.0)
      (λ k at. subst (λ (t : KnownJob). is_same_place t.job.place place ≡ true)
      (same_at known found.0 found.1.0 k found.1.1.0 found.1.1.1.0 (subst (λ (m : ℕ). k ≡ get_or known m k) number at)) found.1.1.1.1)
      (λ m k below at is. one_of n m (one m k below at is))
    where
      one_of : (n m : ℕ) → Some n ≡ Some m → n ≡ m
      one_of n m is = cc

  pub flag_left : (found : Option ℕ) → ((n : ℕ) → found ≡ Some n → ⊥) → IsNumberAt place known found → flags ≡ map (ended_after place) (zip flags known)
  flag_left found other one = none_at place flags known long (λ m k below at is. other m (one m k below at is))

-- ---- once more jobs are known

pub flags_grow : (learned : List Resolved) (old new : List KnownJob) (before after : List Bool) → take (length old) new ≡ old → before ≡ ended_of learned old →
    after ≡ before ++ ended_of learned (drop (length before) new) → after ≡ ended_of learned new
flags_grow learned old new before after front were grown =
    let as_many : length before ≡ length old = ap length were ∙ length-map old (has_ended learned) in
    grown
    ∙ ap₂ (λ (flags : List Bool) (n : ℕ). flags ++ ended_of learned (drop n new)) (were ∙ ap (ended_of learned) (sym front)) as_many
    ∙ sym (map-append (has_ended learned) (take (length old) new) (drop (length old) new))
    ∙ ap (ended_of learned) (take-append-drop (length old) new)

-- ---- of an unfolding

-- there are as many flags as jobs
pub flags_fit : (held : Progress) (known : List KnownJob) → IsFlagged held → known ≡ held.known → length held.ended.items ≡ length known
flags_fit held known flagged is =
    ap length flagged ∙ length-map held.known (has_ended (map resolved_of held.facts.learned)) ∙ ap length (sym is)

pub no_flags : (held : Progress) → held.known ≡ [] → held.ended.items ≡ [] → IsFlagged held
no_flags held known none = none ∙ sym (ap (ended_of (map resolved_of held.facts.learned)) known)

-- what is set at the place that was learned last
pub flags_more : (old : Progress) (resolved : KeptResolved) (more : List KeptResolved) (known : List KnownJob) (flags : List Bool) → IsFlagged old →
    more ≡ old.facts.learned ++ resolved ∷ [] → known ≡ old.known →
    ((before : List KeptResolved) (one : KeptResolved) → more ≡ before ++ one ∷ [] → old.ended.items ≡ ended_of (map resolved_of before) known → flags ≡ ended_of (map resolved_of more) known) →
    flags ≡ ended_of (map resolved_of more) old.known
flags_more old resolved more known flags flagged is same set =
    set old.facts.learned resolved is (flagged ∙ ap (ended_of (map resolved_of old.facts.learned)) (sym same)) ∙ ap (ended_of (map resolved_of more)) same

-- ---- vertices by flags

pub needs_by : (learned : List Resolved) (outs : Fields) (known : List KnownJob) → map (needed_by outs) (zip (ended_of learned known) known) ≡ needed_among learned outs (jobs_in known)
needs_by learned outs [] = refl
needs_by learned outs (k ∷ ks) = ap (λ (bs : List Bool). needed_by outs (has_ended learned k, k) ∷ bs) (needs_by learned outs ks)

-- while no job made a File or Directory in the outputs, a job is needed where it is open
stays_open : (flag made : Bool) → made ≡ false → not flag ≡ (not flag || made)
stays_open true made none = sym none
stays_open false made none = refl

pub open_are_needed : (outs : Fields) (flags : List Bool) (known : List KnownJob) → ((job : JobPlace) → any_made job outs ≡ false) → length flags ≡ length known →
    map not flags ≡ map (needed_by outs) (zip flags known)
open_are_needed outs [] known none as_many = refl
open_are_needed outs (b ∷ bs) [] none as_many = absurd (omega (arith, as_many))
open_are_needed outs (b ∷ bs) (k ∷ ks) none as_many =
    ap₂ (λ (one : Bool) (rest : List Bool). one ∷ rest) (stays_open b (any_made k.job.place outs) (none k.job.place)) (open_are_needed outs bs ks none (omega (arith, as_many)))

-- of what the fields are, where they are lent
pub needs_are : (held : Progress) (needed : List Bool) (outs : Fields) (flags : List Bool) (known : List KnownJob) → IsFlagged held →
    needed ≡ map (needed_by outs) (zip flags known) → outs ≡ held.outputs.named.items → flags ≡ held.ended.items → known ≡ held.known →
    needed ≡ needed_among (map resolved_of held.facts.learned) held.outputs.named.items (jobs_in held.known)
needs_are held needed outs flags known flagged made outs_are flags_are known_are =
    made
    ∙ ap (λ (named : Fields). map (needed_by named) (zip flags known)) outs_are
    ∙ ap₂ (λ (fs : List Bool) (ks : List KnownJob). map (needed_by held.outputs.named.items) (zip fs ks)) (flags_are ∙ flagged) known_are
    ∙ needs_by (map resolved_of held.facts.learned) held.outputs.named.items held.known

pub vertices_by : (learned : List Resolved) (outs : Fields) (known : List KnownJob) (costs : List Costs) →
    map vertex_by (zip (needed_among learned outs (jobs_in known)) (zip known costs)) ≡ map (vertex_of learned outs) (zip (map known_of known) costs)
vertices_by learned outs [] costs = refl
vertices_by learned outs (k ∷ ks) [] = refl
vertices_by learned outs (k ∷ ks) (c ∷ cs) = ap (λ vs. vertex_of learned outs (known_of k, c) ∷ vs) (vertices_by learned outs ks cs)

-- What an index by marks says of what was learned, and that it stays so.
use Rattle.std.proofs.Common.{◌≡◌, ◌∙◌, ◌⊎◌, inl, inr, ⊎_elim, get_or, ◌≤◌, ◌<◌, ℕ, zero, suc, List, [], ◌∷◌, ◌++◌, map, length, take, drop, find, Bool, true, false, cond, Option, Some, None, option_map, refl, sym, ap, ap₂, subst, arith}
use Rattle.std.specs.Prelude.{◌||◌, IfSome, is_some, MatchOption, OnErr, OnOk, Result, Ok, Err}
use Rattle.std.specs.BTreeMap.{BTreeMap, IsUnchanged, Updates, get, is_at}
use Rattle.std.specs.List.{list_any}
use Rattle.std.specs.Map.{lookup}
use Rattle.std.specs.Ordering.{is_eq, nat_cmp}
use Rattle.std.specs.declared.cmp.Ordering.{Ordering}
use Rattle.std.specs.declared.cmp.Ordering.TheVariants.{Less, Equal, Greater}
use Rattle.std.proofs.Math.ListN.{drop_of_length-le}
use Rattle.std.proofs.lemmas.List.{take-append-le}
use Rattle.std.proofs.lemmas.List.Folds.{list_any-append}
use Rattle.std.proofs.lemmas.Cmp.{nat_cmp_total, tied_itself}
use Rattle.std.proofs.lemmas.Map.Lookups.{exact_unsigned}
use Rattle.job_graph.specs.declared.made.Resolved.{Resolved as KeptResolved}
use Rattle.job_graph.specs.Words.{JobPlace, is_same_place}
use Rattle.job_graph.specs.KnownJobs.{jobs_in, number_at}
use Rattle.job_graph.specs.Unfold.{Resolved, outputs_at, is_at as at_job}
use Rattle.job_graph.specs.declared.growth.KnownJob.{KnownJob}
use Rattle.job_graph.specs.inner.Index.{AreApart, IsFirst, IsIndexed, IsNumberAt, at_known, at_learned, before, has_mark}
use Rattle.job_graph.specs.inner.Marks.{mark_of}
use Rattle.job_graph.specs.inner.Views.{resolved_of}
use Rattle.job_graph.proofs.Marks.{other_mark}
use Rattle.job_graph.proofs.laws_of_walks.Known.{same_place}
use Rattle.job_graph.proofs.laws_of_walks.Part.{neither_one, neither_other}

pub none_after : (learned : List KeptResolved) (first : ℕ) → length learned < first → [] ≡ drop first learned
none_after learned first after = sym (drop_of_length-le learned (omega (arith, after)))

-- ---- none passes in a part of a list

module _ {X : Type 0} (p : X → Bool) where
  of_all : (n : ℕ) (xs : List X) → list_any p xs ≡ false → list_any p (take n xs) ≡ false
  of_all zero xs none = refl
  of_all (suc n) [] none = refl
  of_all (suc n) (x ∷ xs) none =
      ap₂ (λ (a b : Bool). a || b) (neither_one (p x) (list_any p xs) none) (of_all n xs (neither_other (p x) (list_any p xs) none))

  of_fewer : (n m : ℕ) (xs : List X) → m ≤ n → list_any p (take n xs) ≡ false → list_any p (take m xs) ≡ false
  of_fewer n zero xs less none = refl
  of_fewer zero (suc m) xs less none = absurd (omega (arith, less))
  of_fewer (suc n) (suc m) [] less none = refl
  of_fewer (suc n) (suc m) (x ∷ xs) less none =
      ap₂ (λ (a b : Bool). a || b) (neither_one (p x) (list_any p (take n xs)) none)
      (of_fewer n m xs (omega (arith, less)) (neither_other (p x) (list_any p (take n xs)) none))

  taken : (n m : ℕ) (xs : List X) → list_any p (take m xs) ≡ false → list_any p (take m (take n xs)) ≡ false
  taken n zero xs none = refl
  taken zero (suc m) xs none = refl
  taken (suc n) (suc m) [] none = refl
  taken (suc n) (suc m) (x ∷ xs) none =
      ap₂ (λ (a b : Bool). a || b) (neither_one (p x) (list_any p (take m xs)) none) (taken n m xs (neither_other (p x) (list_any p (take m xs)) none))

  with_last : (n : ℕ) (xs : List X) (x : X) → list_any p (take n xs) ≡ false → p x ≡ false → list_any p (take n (xs ++ x ∷ [])) ≡ false
  with_last zero xs x none last = refl
  with_last (suc n) [] x none last = ap₂ (λ (a b : Bool). a || b) last (of_all n [] refl)
  with_last (suc n) (y ∷ ys) x none last =
      ap₂ (λ (a b : Bool). a || b) (neither_one (p y) (list_any p (take n ys)) none) (with_last n ys x (neither_other (p y) (list_any p (take n ys)) none) last)

  without_last : (n : ℕ) (xs : List X) (x : X) → list_any p (take n (xs ++ x ∷ [])) ≡ false → list_any p (take n xs) ≡ false
  without_last zero xs x none = refl
  without_last (suc n) [] x none = refl
  without_last (suc n) (y ∷ ys) x none =
      ap₂ (λ (a b : Bool). a || b) (neither_one (p y) (list_any p (take n (ys ++ x ∷ []))) none)
      (without_last n ys x (neither_other (p y) (list_any p (take n (ys ++ x ∷ []))) none))

  before_more : (o : Option ℕ) (xs : List X) (x : X) → list_any p (before o xs) ≡ false → p x ≡ false → list_any p (before o (xs ++ x ∷ [])) ≡ false
  before_more None xs x none last = list_any-append p xs (x ∷ []) ∙ ap₂ (λ (a b : Bool). a || (b || false)) none last
  before_more (Some n) xs x none last = with_last n xs x none last

  before_less : (o : Option ℕ) (xs : List X) (x : X) → list_any p (before o (xs ++ x ∷ [])) ≡ false → list_any p (before o xs) ≡ false
  before_less None xs x none = neither_one (list_any p xs) (list_any p (x ∷ [])) (sym (list_any-append p xs (x ∷ [])) ∙ none)
  before_less (Some n) xs x none = without_last n xs x none

  before_first : (o : Option ℕ) (xs : List X) (first : ℕ) → list_any p (before o xs) ≡ false → IsFirst o (length xs) first → list_any p (take first xs) ≡ false
  before_first None xs first none is = of_all first xs none
  before_first (Some n) xs first none is = of_fewer n first xs is.0 none

is_within : (o : Option ℕ) (end first : ℕ) → IsFirst o end first → first ≤ end
is_within None end first is = omega (arith, is)
is_within (Some n) end first is = is.1

-- ---- what is found

pub is_equal : (o : Ordering) → is_eq o ≡ true → o ≡ Equal
is_equal Less is = absurd cc
is_equal Equal is = refl
is_equal Greater is = absurd cc

pub itself : (n : ℕ) → is_eq (nat_cmp n n) ≡ true
itself n = ap is_eq (tied_itself nat_cmp_total n)

pub not_both : (b : Bool) → b ≡ true → b ≡ false → ⊥
not_both true is none = absurd cc
not_both false is none = absurd cc

module _ (place : JobPlace) where
  abbrev at_place : Resolved → Bool
  at_place r = is_same_place r.place place

  not_there : (x : KeptResolved) → has_mark at_learned (mark_of place) x ≡ false → at_place (resolved_of x) ≡ false
  not_there x none = other_mark x.at.place place (λ same.
      not_both (has_mark at_learned (mark_of place) x) (ap (λ (mark : ℕ). is_eq (nat_cmp mark (mark_of place))) same ∙ itself (mark_of place)) none)

  none_found : (xs : List KeptResolved) → list_any (has_mark at_learned (mark_of place)) xs ≡ false → find at_place (map resolved_of xs) ≡ None
  none_found [] none = refl
  none_found (x ∷ xs) none =
      ap (λ (b : Bool). cond b (Some (resolved_of x)) (find at_place (map resolved_of xs))) (not_there x (neither_one (has_mark at_learned (mark_of place) x) (list_any (has_mark at_learned (mark_of place)) xs) none))
      ∙ none_found xs (neither_other (has_mark at_learned (mark_of place) x) (list_any (has_mark at_learned (mark_of place)) xs) none)

  found_later : (n : ℕ) (xs : List KeptResolved) → list_any (has_mark at_learned (mark_of place)) (take n xs) ≡ false → find at_place (map resolved_of xs) ≡ find at_place (map resolved_of (drop n xs))
  found_later zero xs none = refl
  found_later (suc n) [] none = refl
  found_later (suc n) (x ∷ xs) none =
      ap (λ (b : Bool). cond b (Some (resolved_of x)) (find at_place (map resolved_of xs))) (not_there x (neither_one (has_mark at_learned (mark_of place) x) (list_any (has_mark at_learned (mark_of place)) (take n xs)) none))
      ∙ found_later n xs (neither_other (has_mark at_learned (mark_of place) x) (list_any (has_mark at_learned (mark_of place)) (take n xs)) none)

none_before : {X : Type 0} (place_of : X → JobPlace) (firsts : BTreeMap ℕ ℕ) (xs : List X) (place : JobPlace) (mark : ℕ) (o : Option ℕ) → IsIndexed place_of firsts xs → mark ≡ mark_of place → get nat_cmp firsts mark ≡ o
    → list_any (has_mark place_of (mark_of place)) (before o xs) ≡ false
none_before place_of firsts xs place mark o indexed is got =
    subst (λ (m : ℕ). list_any (has_mark place_of m) (before o xs) ≡ false) is (subst (λ (found : Option ℕ). list_any (has_mark place_of mark) (before found xs) ≡ false) got (indexed mark))

pub outputs_nowhere : (firsts : BTreeMap ℕ ℕ) (learned : List KeptResolved) (place : JobPlace) (mark : ℕ) → IsIndexed at_learned firsts learned → mark ≡ mark_of place → get nat_cmp firsts mark ≡ None
    → outputs_at (map resolved_of learned) place ≡ None
outputs_nowhere firsts learned place mark indexed is got =
    ap (option_map (λ r. r.outputs)) (none_found place learned (none_before at_learned firsts learned place mark None indexed is got))

pub outputs_later : (firsts : BTreeMap ℕ ℕ) (learned : List KeptResolved) (place : JobPlace) (mark first : ℕ) → IsIndexed at_learned firsts learned → mark ≡ mark_of place → get nat_cmp firsts mark ≡ Some first
    → outputs_at (map resolved_of learned) place ≡ outputs_at (map resolved_of (drop first learned)) place
outputs_later firsts learned place mark first indexed is got =
    ap (option_map (λ r. r.outputs)) (found_later place first learned (none_before at_learned firsts learned place mark (Some first) indexed is got))

-- ---- whether a job is known

module _ (place : JobPlace) where
  not_at : (x : KnownJob) → has_mark at_known (mark_of place) x ≡ false → is_same_place x.job.place place ≡ false
  not_at x none = other_mark x.job.place place (λ same.
      not_both (has_mark at_known (mark_of place) x) (ap (λ (mark : ℕ). is_eq (nat_cmp mark (mark_of place))) same ∙ itself (mark_of place)) none)

  none_known : (xs : List KnownJob) → list_any (has_mark at_known (mark_of place)) xs ≡ false → list_any (at_job place) (jobs_in xs) ≡ false
  none_known [] none = refl
  none_known (x ∷ xs) none =
      ap₂ (λ (a b : Bool). a || b) (not_at x (neither_one (has_mark at_known (mark_of place) x) (list_any (has_mark at_known (mark_of place)) xs) none))
      (none_known xs (neither_other (has_mark at_known (mark_of place) x) (list_any (has_mark at_known (mark_of place)) xs) none))

  known_after : (n : ℕ) (xs : List KnownJob) → list_any (has_mark at_known (mark_of place)) (take n xs) ≡ false → list_any (at_job place) (jobs_in (drop n xs)) ≡ list_any (at_job place) (jobs_in xs)
  known_after zero xs none = refl
  known_after (suc n) [] none = refl
  known_after (suc n) (x ∷ xs) none =
      known_after n xs (neither_other (has_mark at_known (mark_of place) x) (list_any (has_mark at_known (mark_of place)) (take n xs)) none)
      ∙ sym (ap (λ (b : Bool). b || list_any (at_job place) (jobs_in xs)) (not_at x (neither_one (has_mark at_known (mark_of place) x) (list_any (has_mark at_known (mark_of place)) (take n xs)) none)))

pub known_nowhere : (firsts : BTreeMap ℕ ℕ) (known : List KnownJob) (place : JobPlace) (mark : ℕ) → IsIndexed at_known firsts known → mark ≡ mark_of place → get nat_cmp firsts mark ≡ None
    → list_any (at_job place) (jobs_in known) ≡ false
known_nowhere firsts known place mark indexed is got = none_known place known (none_before at_known firsts known place mark None indexed is got)

pub known_later : (firsts : BTreeMap ℕ ℕ) (known : List KnownJob) (place : JobPlace) (mark first : ℕ) → IsIndexed at_known firsts known → mark ≡ mark_of place → get nat_cmp firsts mark ≡ Some first
    → list_any (at_job place) (jobs_in (drop first known)) ≡ list_any (at_job place) (jobs_in known)
known_later firsts known place mark first indexed is got = known_after place first known (none_before at_known firsts known place mark (Some first) indexed is got)

-- ---- known jobs are at different places

an_element : (xs : List KnownJob) (n : ℕ) → n < length xs → (x : KnownJob) × (x ≡ get_or xs n x)
an_element [] n below = absurd (omega (arith, below))
an_element (x ∷ xs) zero below = (x, refl)
an_element (x ∷ xs) (suc n) below = let less : n < length xs = omega (arith, below) in an_element xs n less

in_whole : (xs : List KnownJob) (c n : ℕ) → n < length (take c xs) → n < length xs
in_whole xs zero n below = absurd (omega (arith, below))
in_whole [] (suc c) n below = absurd (omega (arith, below))
in_whole (x ∷ xs) (suc c) zero below = omega arith
in_whole (x ∷ xs) (suc c) (suc n) below = let less : n < length (take c xs) = omega (arith, below) in omega (arith, in_whole xs c n less)

same_in : (xs : List KnownJob) (c n : ℕ) (d : KnownJob) → n < length (take c xs) → get_or (take c xs) n d ≡ get_or xs n d
same_in xs zero n d below = absurd (omega (arith, below))
same_in [] (suc c) n d below = refl
same_in (x ∷ xs) (suc c) zero d below = refl
same_in (x ∷ xs) (suc c) (suc n) d below = let less : n < length (take c xs) = omega (arith, below) in same_in xs c n d less

in_parts : (xs : List KnownJob) (one : KnownJob) (n : ℕ) (s : KnownJob) → n < length (xs ++ one ∷ []) → s ≡ get_or (xs ++ one ∷ []) n s
    → ((n < length xs) × (s ≡ get_or xs n s)) ⊎ ((n ≡ length xs) × (s ≡ one))
in_parts [] one zero s below at = inr (refl, at)
in_parts [] one (suc n) s below at = absurd (omega (arith, below))
in_parts (x ∷ xs) one zero s below at = inl (omega arith, at)
in_parts (x ∷ xs) one (suc n) s below at =
    let less : n < length (xs ++ one ∷ []) = omega (arith, below) in
    ⊎_elim (λ front. inl (omega (arith, front.0), front.1)) (λ last. inr (ap suc last.0, last.1)) (in_parts xs one n s less at)

pub turned_place : (s t one : JobPlace) → s ≡ one → is_same_place s t ≡ true → is_same_place t one ≡ true
turned_place s t one is same =
    let equal : s ≡ t = same_place s t same in
    subst (λ (p : JobPlace). is_same_place t p ≡ true) is (subst (λ (p : JobPlace). is_same_place p s ≡ true) equal (subst (λ (p : JobPlace). is_same_place s p ≡ true) (sym equal) same))

pub any_known : (known : List KnownJob) (place : JobPlace) (n : ℕ) (k : KnownJob) → n < length known → k ≡ get_or known n k → is_same_place k.job.place place ≡ true → list_any (at_job place) (jobs_in known) ≡ true
any_known [] place n k below at same = absurd (omega (arith, below))
any_known (x ∷ xs) place zero k below at same = ap (λ (y : KnownJob). is_same_place y.job.place place || list_any (at_job place) (jobs_in xs)) (sym at) ∙ ap (λ (b : Bool). b || list_any (at_job place) (jobs_in xs)) same
any_known (x ∷ xs) place (suc n) k below at same =
    let less : n < length xs = omega (arith, below) in or_true (is_same_place x.job.place place) (list_any (at_job place) (jobs_in xs)) (any_known xs place n k less at same)
  where
    or_true : (a b : Bool) → b ≡ true → (a || b) ≡ true
    or_true true b is = refl
    or_true false b is = is

pub some_known : (known : List KnownJob) (place : JobPlace) → list_any (at_job place) (jobs_in known) ≡ true
    → (m : ℕ) × ((k : KnownJob) × ((m < length known) × ((k ≡ get_or known m k) × (is_same_place k.job.place place ≡ true))))
some_known [] place some = absurd (not_both false some refl)
some_known (x ∷ xs) place some = by (is_same_place x.job.place place) refl some (some_known xs place)
  where
    by : (b : Bool) → is_same_place x.job.place place ≡ b → (is_same_place x.job.place place || list_any (at_job place) (jobs_in xs)) ≡ true
        → (list_any (at_job place) (jobs_in xs) ≡ true → (m : ℕ) × ((k : KnownJob) × ((m < length xs) × ((k ≡ get_or xs m k) × (is_same_place k.job.place place ≡ true)))))
        → (m : ℕ) × ((k : KnownJob) × ((m < length (x ∷ xs)) × ((k ≡ get_or (x ∷ xs) m k) × (is_same_place k.job.place place ≡ true))))
    by true is some rest = (0, (x, (omega arith, (refl, is))))
    by false is some rest =
        let found : (m : ℕ) × ((k : KnownJob) × ((m < length xs) × ((k ≡ get_or xs m k) × (is_same_place k.job.place place ≡ true)))) =
        rest (sym (ap (λ (b : Bool). b || list_any (at_job place) (jobs_in xs)) is) ∙ some) in
        (suc found.0, (found.1.0, (omega (arith, found.1.1.0), (found.1.1.1.0, found.1.1.1.1))))

-- where it is known nowhere, it has no number
pub no_number : (known : List KnownJob) (place : JobPlace) → list_any (at_job place) (jobs_in known) ≡ false → IsNumberAt place known None
no_number known place none = λ n k below at same. absurd (not_both (list_any (at_job place) (jobs_in known)) (any_known known place n k below at same) none)

pub one_number_at : (known : List KnownJob) (place : JobPlace) → AreApart known → (found : Option ℕ) → is_some found ≡ list_any (at_job place) (jobs_in known)
    → IfSome found (λ m. (m < length known) × ((k : KnownJob) → k ≡ get_or known m k → is_same_place k.job.place place ≡ true)) → IsNumberAt place known found
one_number_at known place apart None is at = no_number known place (sym is)
one_number_at known place apart (Some m) is at = λ n k below here same.
    let other : (t : KnownJob) × (t ≡ get_or known m t) = an_element known m at.0 in
    let one_place : k.job.place ≡ place = same_place k.job.place place same in
    let other_place : other.0.job.place ≡ place = same_place other.0.job.place place (at.1 other.0 other.1) in
    ap Some (sym (apart n m k other.0 below here at.0 other.1 (subst (λ (p : JobPlace). is_same_place k.job.place p ≡ true) (sym other_place) same)))

-- the first of the known jobs at a place has its number
abbrev Numbered : List KnownJob → JobPlace → Option ℕ → Type 0
Numbered known place None = list_any (at_job place) (jobs_in known) ≡ false
Numbered known place (Some n) = (k : KnownJob) × ((n < length known) × ((k ≡ get_or known n k) × (is_same_place k.job.place place ≡ true)))

numbered : (known : List KnownJob) (place : JobPlace) → Numbered known place (number_at place (jobs_in known))
numbered [] place = refl
numbered (x ∷ xs) place = by (numbered xs place) (is_same_place x.job.place place) refl
  where
    later : is_same_place x.job.place place ≡ false → (o : Option ℕ) → Numbered xs place o → Numbered (x ∷ xs) place (option_map suc o)
    later is None none = ap (λ (b : Bool). b || list_any (at_job place) (jobs_in xs)) is ∙ none
    later is (Some n) at = (at.0, (omega (arith, at.1.0), (at.1.1.0, at.1.1.1)))

    by : Numbered xs place (number_at place (jobs_in xs)) → (b : Bool) → is_same_place x.job.place place ≡ b → Numbered (x ∷ xs) place (cond (is_same_place x.job.place place) (Some 0) (option_map suc (number_at place (jobs_in xs))))
    by rest true is =
        let P : Bool → Type 0 = λ b. Numbered (x ∷ xs) place (cond b (Some 0) (option_map suc (number_at place (jobs_in xs)))) in
        subst P (sym is) (x, (omega arith, (refl, is)))
    by rest false is =
        let P : Bool → Type 0 = λ b. Numbered (x ∷ xs) place (cond b (Some 0) (option_map suc (number_at place (jobs_in xs)))) in
        subst P (sym is) (later is (number_at place (jobs_in xs)) rest)

pub number_is : (known : List KnownJob) (place : JobPlace) (found : Option ℕ) → is_some found ≡ list_any (at_job place) (jobs_in known) → IsNumberAt place known found → found ≡ number_at place (jobs_in known)
number_is known place found some one = by (number_at place (jobs_in known)) refl (numbered known place)
  where
    nothing : (o : Option ℕ) → is_some o ≡ false → o ≡ None
    nothing None is = refl
    nothing (Some n) is = absurd (not_both true refl is)

    by : (o : Option ℕ) → number_at place (jobs_in known) ≡ o → Numbered known place o → found ≡ number_at place (jobs_in known)
    by None e none = nothing found (some ∙ none) ∙ sym e
    by (Some n) e at = one n at.0 at.1.0 at.1.1.0 at.1.1.1 ∙ sym e

pub none_apart : (known : List KnownJob) → known ≡ [] → AreApart known
none_apart known none = λ n m s t below at within there same. let no : length known ≡ 0 = ap length none in absurd (omega (arith, no, below))

pub cut_apart : (known : List KnownJob) (c : ℕ) → AreApart known → AreApart (take c known)
cut_apart known c apart = λ n m s t below at within there same.
    apart n m s t (in_whole known c n below) (at ∙ same_in known c n s below) (in_whole known c m within) (there ∙ same_in known c m t within) same

pub pushed_apart : (known : List KnownJob) (one : KnownJob) → list_any (at_job one.job.place) (jobs_in known) ≡ false → AreApart known → AreApart (known ++ one ∷ [])
pushed_apart known one new apart = λ n m s t below at within there same.
    ⊎_elim (λ front. ⊎_elim (λ other. apart n m s t front.0 front.1 other.0 other.1 same)
    (λ last. absurd (not_both (list_any (at_job one.job.place) (jobs_in known)) (any_known known one.job.place n s front.0 front.1 (subst (λ (k : KnownJob). is_same_place s.job.place k.job.place ≡ true) last.1 same)) new))
    (in_parts known one m t within there))
    (λ last. ⊎_elim (λ other. absurd (not_both (list_any (at_job one.job.place) (jobs_in known)) (any_known known one.job.place m t other.0 other.1
    (turned_place s.job.place t.job.place one.job.place (ap (λ (k : KnownJob). k.job.place) last.1) same)) new))
    (λ also. last.0 ∙ sym also.0) (in_parts known one m t within there))
    (in_parts known one n s below at)

-- ---- what stays indexed

module _ {X : Type 0} (place_of : X → JobPlace) where
  pub none_indexed : (firsts : BTreeMap ℕ ℕ) (learned : List X) → learned ≡ [] → IsIndexed place_of firsts learned
  none_indexed firsts learned none mark =
      subst (λ (xs : List X). list_any (has_mark place_of mark) (before (get nat_cmp firsts mark) xs) ≡ false) (sym none) (by (get nat_cmp firsts mark))
    where
      by : (o : Option ℕ) → list_any (has_mark place_of mark) (before o []) ≡ false
      by None = refl
      by (Some n) = of_all (has_mark place_of mark) n [] refl

  pub same_indexed : (old new : BTreeMap ℕ ℕ) (learned : List X) → IsIndexed place_of old learned → IsUnchanged old new → IsIndexed place_of new learned
  same_indexed old new learned indexed same mark =
      subst (λ (es : List (ℕ × ℕ)). list_any (has_mark place_of mark) (before (lookup (is_at (nat_cmp mark)) es) learned) ≡ false) (sym same) (indexed mark)

  pub popped_indexed : (firsts : BTreeMap ℕ ℕ) (old new : List X) (found : Option X) → IsIndexed place_of firsts old
      → MatchOption found ((old ≡ []) × (new ≡ [])) (λ last. old ≡ new ++ last ∷ []) → IsIndexed place_of firsts new
  popped_indexed firsts old new None indexed off mark = none_indexed firsts new off.1 mark
  popped_indexed firsts old new (Some last) indexed off mark =
      before_less (has_mark place_of mark) (get nat_cmp firsts mark) new last
      (subst (λ (xs : List X). list_any (has_mark place_of mark) (before (get nat_cmp firsts mark) xs) ≡ false) off (indexed mark))

  module _ (old new : BTreeMap ℕ ℕ) (learned : List X) (mark first : ℕ) (indexed : IsIndexed place_of old learned) (is : IsFirst (get nat_cmp old mark) (length learned) first) (put : Updates nat_cmp old new mark (Some first)) where
    none_first : (q : ℕ) → is_at (nat_cmp mark) q ≡ true → list_any (has_mark place_of q) (take first learned) ≡ false
    none_first q same =
        subst (λ (m : ℕ). list_any (has_mark place_of m) (take first learned) ≡ false) (exact_unsigned mark q (is_equal (nat_cmp mark q) same))
        (before_first (has_mark place_of mark) (get nat_cmp old mark) learned first (indexed mark) is)

    pub put_indexed : IsIndexed place_of new learned
    put_indexed q = subst (λ (o : Option ℕ). list_any (has_mark place_of q) (before o learned) ≡ false) (sym (put.0 q)) (by (is_at (nat_cmp mark) q) refl)
      where
        by : (same : Bool) → is_at (nat_cmp mark) q ≡ same → list_any (has_mark place_of q) (before (cond same (Some first) (get nat_cmp old q)) learned) ≡ false
        by true same = none_first q same
        by false other = indexed q

    pub pushed_indexed : (one : X) → mark ≡ mark_of (place_of one) → IsIndexed place_of new (learned ++ one ∷ [])
    pushed_indexed one marked q = subst (λ (o : Option ℕ). list_any (has_mark place_of q) (before o (learned ++ one ∷ [])) ≡ false) (sym (put.0 q)) (by (is_at (nat_cmp mark) q) refl)
      where
        by : (same : Bool) → is_at (nat_cmp mark) q ≡ same → list_any (has_mark place_of q) (before (cond same (Some first) (get nat_cmp old q)) (learned ++ one ∷ [])) ≡ false
        by true same =
            ap (list_any (has_mark place_of q)) (take-append-le first learned (one ∷ []) (is_within (get nat_cmp old mark) (length learned) first is)) ∙ none_first q same
        by false other = before_more (has_mark place_of q) (get nat_cmp old q) learned one (indexed q) (ap (λ (m : ℕ). is_at (nat_cmp m) q) (sym marked) ∙ other)

    pub pushed_or_not : {T E : Type 0} (result : Result T E) (after : List X) (one : X) → mark ≡ mark_of (place_of one) → OnOk result (after ≡ learned ++ one ∷ []) → OnErr result (after ≡ learned) → IsIndexed place_of new after
    pushed_or_not (Ok done) after one marked ok err = subst (IsIndexed place_of new) (sym ok) (pushed_indexed one marked)
    pushed_or_not (Err error) after one marked ok err = subst (IsIndexed place_of new) (sym err) put_indexed

  pub cut_indexed : (firsts : BTreeMap ℕ ℕ) (xs : List X) (n : ℕ) → IsIndexed place_of firsts xs → IsIndexed place_of firsts (take n xs)
  cut_indexed firsts xs n indexed mark = by (get nat_cmp firsts mark) (indexed mark)
    where
      by : (o : Option ℕ) → list_any (has_mark place_of mark) (before o xs) ≡ false → list_any (has_mark place_of mark) (before o (take n xs)) ≡ false
      by None none = of_all (has_mark place_of mark) n xs none
      by (Some m) none = taken (has_mark place_of mark) n m xs none

-- The children in flight: each has a ticket and a job of its own, one more where a job is started, and one less where a child has ended.
use Rattle.std.specs.Prelude.{◌||◌, not, slice_index_or}
use Rattle.std.specs.List.{AllByRecursion, IsDistinct, list_any, remove}
use Rattle.std.specs.Map.{keys_of, values_of}
use Rattle.std.specs.Bool.{nat_eq}
use Rattle.std.proofs.Common.{◌≡◌, ◌∙◌, ◌<◌, ◌==◌, ℕ, zero, suc, Bool, true, false, cond, List, [], ◌∷◌, ◌++◌, length, filter, fold, refl, sym, ap, subst, arith}
use Rattle.std.proofs.lemmas.Bool.{eq-eqb, ne_eqb, or_parts}
use Rattle.std.proofs.lemmas.Cmp.{nat_eq_equiv}
use Rattle.std.proofs.lemmas.List.{map-append}
use Rattle.std.proofs.lemmas.List.Elements.{filter_passes}
use Rattle.std.proofs.lemmas.List.Folds.{list_any-append, list_any_none}
use Rattle.std.proofs.lemmas.Map.Keys.{IsDistinct-cons, IsDistinct-head, IsDistinct-push, IsDistinct-tail}
use Rattle.std.proofs.lemmas.Map.Made.{IsDistinct-keys_filter}
use Rattle.proc_host.specs.Tickets.{IsFresh, without}
use Rattle.job_graph.specs.Words.{JobPlace, is_same_place}
use Rattle.run_rules.specs.Events.{Event, flight_after, in_flight, is_at_hand, is_held}
use Rattle.run_rules.proofs.events.Places.{same_place_equiv}
use Rattle.run_rules.proofs.events.Readings.{in_flight_after, is_at_hand_after}

-- a ticket and a place
abbrev pub Flight : Type 0
Flight = ℕ × JobPlace

-- whether a child of the job at a place is among them
abbrev pub is_flying : List Flight → JobPlace → Bool
is_flying flying place = list_any (λ f. is_same_place f.1 place) flying

-- those that are left once the child of a ticket has ended
abbrev pub landed : ℕ → List Flight → List Flight
landed ticket flying = filter (λ f. not (f.0 == ticket)) flying

-- no two have one ticket, and no two are of one job
pub record FlyApart (flying : List Flight) : Type 0 where
  pub tickets : IsDistinct nat_eq (keys_of flying)
  pub jobs : IsDistinct is_same_place (values_of flying)

-- Whether a job is held

pub is_held_after : (es new : List Event) (place : JobPlace) →
    is_held (es ++ new) place ≡ (is_flying (fold flight_after (in_flight es) new) place || (is_at_hand es place || is_at_hand new place))
is_held_after es new place =
    ap (λ (flying : List Flight). is_flying flying place || is_at_hand (es ++ new) place) (in_flight_after es new)
    ∙ ap (λ b. is_flying (fold flight_after (in_flight es) new) place || b) (is_at_hand_after es new place)

-- One more

pub flies_more : (flying : List Flight) (ticket : ℕ) (at place : JobPlace) →
    is_flying (flying ++ (ticket, at) ∷ []) place ≡ (is_flying flying place || (is_same_place at place || false))
flies_more flying ticket at place = list_any-append (λ (f : Flight). is_same_place f.1 place) flying ((ticket, at) ∷ [])

pub tickets_more : (flying : List Flight) (ticket : ℕ) (place : JobPlace) → keys_of (flying ++ (ticket, place) ∷ []) ≡ keys_of flying ++ ticket ∷ []
tickets_more flying ticket place = map-append (λ (f : Flight). f.0) flying ((ticket, place) ∷ [])

fresh_test : (ticket : ℕ) (n : ℕ) → not (n == ticket) ≡ true → nat_eq ticket n ≡ false
fresh_test ticket n other = ne_eqb ticket n (λ same. let never : false ≡ true = sym (ap not (eq-eqb n ticket (sym same))) ∙ other in absurd cc)

no_ticket : (ticket : ℕ) (running : List ℕ) → IsFresh ticket running → list_any (nat_eq ticket) running ≡ false
no_ticket ticket running fresh =
    list_any_none (nat_eq ticket) running
    (λ k d within. fresh_test ticket (slice_index_or running k d)
    (subst (λ (ns : List ℕ). (k : ℕ) (d : ℕ) → k < length ns → not (slice_index_or ns k d == ticket) ≡ true) fresh
    (filter_passes (λ n. not (n == ticket)) running) k d within))

no_job : (flying : List Flight) (place : JobPlace) → is_flying flying place ≡ false → list_any (is_same_place place) (values_of flying) ≡ false
no_job [] place none = refl
no_job (f ∷ flying) place none =
    let first : is_same_place f.1 place ≡ false = (or_parts (is_same_place f.1 place) (is_flying flying place) none).0 in
    ap (λ b. b || list_any (is_same_place place) (values_of flying)) (same_place_equiv.symm place f.1 ∙ first)
    ∙ no_job flying place (or_parts (is_same_place f.1 place) (is_flying flying place) none).1

-- a job is started that is not in flight, under a new ticket
pub start_flies_apart : (flying : List Flight) (ticket : ℕ) (place : JobPlace) → FlyApart flying → IsFresh ticket (keys_of flying) →
    is_flying flying place ≡ false → FlyApart (flying ++ (ticket, place) ∷ [])
start_flies_apart flying ticket place apart fresh none = record {
  tickets = subst (λ (ns : List ℕ). IsDistinct nat_eq ns) (sym (tickets_more flying ticket place))
      (IsDistinct-push nat_eq_equiv (keys_of flying) ticket apart.tickets (no_ticket ticket (keys_of flying) fresh));
  jobs = subst (λ (ps : List JobPlace). IsDistinct is_same_place ps) (sym (map-append (λ (f : Flight). f.1) flying ((ticket, place) ∷ [])))
      (IsDistinct-push same_place_equiv (values_of flying) place apart.jobs (no_job flying place none));
}

-- One less

left_by : (b : Bool) (f : Flight) (left : List Flight) (numbers : List ℕ) → keys_of left ≡ numbers → keys_of (cond b (f ∷ left) left) ≡ cond b (f.0 ∷ numbers) numbers
left_by true f left numbers same = ap (λ (ns : List ℕ). f.0 ∷ ns) same
left_by false f left numbers same = same

pub tickets_landed : (ticket : ℕ) (flying : List Flight) → keys_of (landed ticket flying) ≡ without ticket (keys_of flying)
tickets_landed ticket [] = refl
tickets_landed ticket (f ∷ flying) = left_by (not (f.0 == ticket)) f (landed ticket flying) (without ticket (keys_of flying)) (tickets_landed ticket flying)

kept_first : (b : Bool) (place : JobPlace) (f : Flight) (left : List Flight) → is_same_place place f.1 ≡ false →
    AllByRecursion (λ q. is_same_place place q ≡ false) (values_of left) → AllByRecursion (λ q. is_same_place place q ≡ false) (values_of (cond b (f ∷ left) left))
kept_first true place f left first all = (first, all)
kept_first false place f left first all = all

apart_first : (b : Bool) (f : Flight) (left : List Flight) → AllByRecursion (λ q. is_same_place f.1 q ≡ false) (values_of left) →
    IsDistinct is_same_place (values_of left) → IsDistinct is_same_place (values_of (cond b (f ∷ left) left))
apart_first true f left all apart = IsDistinct-cons is_same_place f.1 (values_of left) all apart
apart_first false f left all apart = apart

values_kept : (p : Flight → Bool) (place : JobPlace) (flying : List Flight) → AllByRecursion (λ q. is_same_place place q ≡ false) (values_of flying) →
    AllByRecursion (λ q. is_same_place place q ≡ false) (values_of (filter p flying))
values_kept p place [] all = tt
values_kept p place (f ∷ flying) all = kept_first (p f) place f (filter p flying) all.0 (values_kept p place flying all.1)

values_apart : (p : Flight → Bool) (flying : List Flight) → IsDistinct is_same_place (values_of flying) → IsDistinct is_same_place (values_of (filter p flying))
values_apart p [] apart = apart
values_apart p (f ∷ flying) apart =
    apart_first (p f) f (filter p flying) (values_kept p f.1 flying (IsDistinct-head is_same_place f.1 (values_of flying) apart))
    (values_apart p flying (IsDistinct-tail is_same_place f.1 (values_of flying) apart))

pub landing_leaves_apart : (flying : List Flight) (ticket : ℕ) → FlyApart flying → FlyApart (landed ticket flying)
landing_leaves_apart flying ticket apart = record {
  tickets = IsDistinct-keys_filter nat_eq (λ (f : Flight). not (f.0 == ticket)) flying apart.tickets;
  jobs = values_apart (λ (f : Flight). not (f.0 == ticket)) flying apart.jobs;
}

-- what is left where no child has this ticket
none_landed : (ticket : ℕ) (flying : List Flight) → AllByRecursion (λ n. nat_eq ticket n ≡ false) (keys_of flying) → landed ticket flying ≡ flying
none_landed ticket [] all = refl
none_landed ticket (f ∷ flying) all =
    ap (λ b. cond (not b) (f ∷ landed ticket flying) (landed ticket flying)) (nat_eq_equiv.symm f.0 ticket ∙ all.0)
    ∙ ap (λ (left : List Flight). f ∷ left) (none_landed ticket flying all.1)

other_ticket : (n : ℕ) (flying : List Flight) (k : ℕ) (f : Flight) → AllByRecursion (λ m. nat_eq n m ≡ false) (keys_of flying) →
    k < length flying → slice_index_or flying k f ≡ f → nat_eq n f.0 ≡ false
other_ticket n [] k f all within is = absurd (omega (arith, within))
other_ticket n (x ∷ flying) zero f all within is = ap (λ (y : Flight). nat_eq n y.0) (sym is) ∙ all.0
other_ticket n (x ∷ flying) (suc k) f all within is = other_ticket n flying k f all.1 (omega (arith, within)) is

-- one is taken out: the child of this ticket
pub landed_is_one_less : (flying : List Flight) (k : ℕ) (f : Flight) → IsDistinct nat_eq (keys_of flying) → k < length flying → slice_index_or flying k f ≡ f →
    landed f.0 flying ≡ remove flying k
landed_is_one_less [] k f apart within is = absurd (omega (arith, within))
landed_is_one_less (x ∷ flying) zero f apart within is =
    ap (λ b. cond (not b) (x ∷ landed f.0 flying) (landed f.0 flying)) (ap (λ (y : Flight). nat_eq y.0 f.0) is ∙ nat_eq_equiv.refl f.0)
    ∙ none_landed f.0 flying (subst (λ (y : Flight). AllByRecursion (λ m. nat_eq y.0 m ≡ false) (keys_of flying)) is
    (IsDistinct-head nat_eq x.0 (keys_of flying) apart))
landed_is_one_less (x ∷ flying) (suc k) f apart within is =
    ap (λ b. cond (not b) (x ∷ landed f.0 flying) (landed f.0 flying))
    (other_ticket x.0 flying k f (IsDistinct-head nat_eq x.0 (keys_of flying) apart) (omega (arith, within)) is)
    ∙ ap (λ (left : List Flight). x ∷ left)
    (landed_is_one_less flying k f (IsDistinct-tail nat_eq x.0 (keys_of flying) apart) (omega (arith, within)) is)

other_job : (place : JobPlace) (flying : List Flight) (k : ℕ) (f : Flight) → AllByRecursion (λ q. is_same_place place q ≡ false) (values_of flying) →
    k < length flying → slice_index_or flying k f ≡ f → is_same_place place f.1 ≡ false
other_job place [] k f all within is = absurd (omega (arith, within))
other_job place (x ∷ flying) zero f all within is = ap (λ (y : Flight). is_same_place place y.1) (sym is) ∙ all.0
other_job place (x ∷ flying) (suc k) f all within is = other_job place flying k f all.1 (omega (arith, within)) is

none_of_job : (place : JobPlace) (flying : List Flight) → AllByRecursion (λ q. is_same_place place q ≡ false) (values_of flying) → is_flying flying place ≡ false
none_of_job place [] all = refl
none_of_job place (f ∷ flying) all =
    ap (λ b. b || is_flying flying place) (same_place_equiv.symm f.1 place ∙ all.0) ∙ none_of_job place flying all.1

-- its job is not in flight any more
pub landed_flies_no_more : (flying : List Flight) (k : ℕ) (f : Flight) → IsDistinct is_same_place (values_of flying) → k < length flying →
    slice_index_or flying k f ≡ f → is_flying (remove flying k) f.1 ≡ false
landed_flies_no_more [] k f apart within is = absurd (omega (arith, within))
landed_flies_no_more (x ∷ flying) zero f apart within is =
    none_of_job f.1 flying (subst (λ (y : Flight). AllByRecursion (λ q. is_same_place y.1 q ≡ false) (values_of flying)) is
    (IsDistinct-head is_same_place x.1 (values_of flying) apart))
landed_flies_no_more (x ∷ flying) (suc k) f apart within is =
    ap (λ b. b || is_flying (remove flying k) f.1)
    (other_job x.1 flying k f (IsDistinct-head is_same_place x.1 (values_of flying) apart) (omega (arith, within)) is)
    ∙ landed_flies_no_more flying k f (IsDistinct-tail is_same_place x.1 (values_of flying) apart) (omega (arith, within)) is

-- and each other job is in flight as before
pub others_fly_on : (flying : List Flight) (k : ℕ) (f : Flight) (place : JobPlace) → k < length flying → slice_index_or flying k f ≡ f →
    is_same_place f.1 place ≡ false → is_flying (remove flying k) place ≡ is_flying flying place
others_fly_on [] k f place within is other = absurd (omega (arith, within))
others_fly_on (x ∷ flying) zero f place within is other =
    ap (λ b. b || is_flying flying place) (sym (ap (λ (y : Flight). is_same_place y.1 place) is ∙ other))
others_fly_on (x ∷ flying) (suc k) f place within is other =
    ap (λ b. is_same_place x.1 place || b) (others_fly_on flying k f place (omega (arith, within)) is other)

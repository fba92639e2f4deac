-- What is written into the states of the jobs.
use Rattle.std.specs.Prelude.{slice_get}
use Rattle.std.proofs.Common.{◌≡◌, ◌∙◌, inl, inr, ◌+◌, ◌<◌, ◌≤◌, ℕ, zero, suc, true, false, List, [], ◌∷◌, ◌++◌, length, Some, refl, sym, ap, arith}
use Rattle.std.proofs.Math.ListN.{set}
use Rattle.std.proofs.lemmas.Bool.{cases_lt}
use Rattle.std.proofs.lemmas.List.{get_or_append_left}
use Rattle.std.proofs.lemmas.Option.{get_or_from_slice_get}
use Rattle.run_core.specs.declared.job_states.JobState.{JobState}
use Rattle.run_core.specs.inner.JobStates.{NoneWaits, brought_in, given_up_in, load_state, loaded_in, missed_in, staged_in, state_at, untouched, waits_in}

pub staged_set : (states : List JobState) (number folder : ℕ) (state : JobState) → slice_get states number ≡ Some state →
    staged_in number folder states ≡ set states number (record state { waits = false; folder = folder; fetched = false })
staged_set [] number folder state there = absurd cc
staged_set (x ∷ states) zero folder state there =
    let same : x ≡ state = cc in ap (λ (s : JobState). record s { waits = false; folder = folder; fetched = false } ∷ states) same
staged_set (x ∷ states) (suc number) folder state there = ap (λ (others : List JobState). x ∷ others) (staged_set states number folder state there)

pub given_up_set : (states : List JobState) (number : ℕ) (state : JobState) → slice_get states number ≡ Some state →
    given_up_in number states ≡ set states number (record state { waits = true; gave_up = state.gave_up + 1 })
given_up_set [] number state there = absurd cc
given_up_set (x ∷ states) zero state there =
    let same : x ≡ state = cc in ap (λ (s : JobState). record s { waits = true; gave_up = s.gave_up + 1 } ∷ states) same
given_up_set (x ∷ states) (suc number) state there = ap (λ (others : List JobState). x ∷ others) (given_up_set states number state there)

-- one more job that was never touched changes nothing of one past it
pub staged_past : (states : List JobState) (number folder : ℕ) → length states ≤ number →
    staged_in number folder (states ++ untouched ∷ []) ≡ staged_in number folder states
staged_past [] zero folder past = refl
staged_past [] (suc number) folder past = refl
staged_past (x ∷ states) zero folder past = absurd (omega (arith, past))
staged_past (x ∷ states) (suc number) folder past = ap (λ (others : List JobState). x ∷ others) (staged_past states number folder (omega (arith, past)))

-- the state of a job that was touched
pub touched : (states : List JobState) (n : ℕ) (state : JobState) → slice_get states n ≡ Some state → state_at states n ≡ state
touched states n state is = get_or_from_slice_get states n state untouched is

-- none that is below the first so many waits where one more was never touched
pub none_waits_still : (states : List JobState) (count : ℕ) → count ≤ length states → NoneWaits states count → NoneWaits (states ++ untouched ∷ []) count
none_waits_still states count few none = λ n within.
    ap (λ (state : JobState). state.waits) (get_or_append_left states (untouched ∷ []) untouched n (omega (arith, within, few))) ∙ none n within

-- the job that is staged is one of those that were touched, and of so many where it and those before are
pub staged_within : (states : List JobState) (number folder : ℕ) → number < length (staged_in number folder states)
staged_within [] zero folder = omega arith
staged_within [] (suc number) folder = let within : number < length (staged_in number folder []) = staged_within [] number folder in omega (arith, within)
staged_within (x ∷ states) zero folder = omega arith
staged_within (x ∷ states) (suc number) folder =
    let within : number < length (staged_in number folder states) = staged_within states number folder in omega (arith, within)

pub staged_few : (states : List JobState) (number folder size : ℕ) → number < size → length states ≤ size → length (staged_in number folder states) ≤ size
staged_few [] zero folder size within few = omega (arith, within)
staged_few [] (suc number) folder zero within few = absurd (omega (arith, within))
staged_few [] (suc number) folder (suc size) within few =
    let later : length (staged_in number folder []) ≤ size = staged_few [] number folder size (omega (arith, within)) (omega arith) in omega (arith, later)
staged_few (x ∷ states) zero folder size within few = few
staged_few (x ∷ states) (suc number) folder zero within few = absurd (omega (arith, within))
staged_few (x ∷ states) (suc number) folder (suc size) within few =
    let later : length (staged_in number folder states) ≤ size = staged_few states number folder size (omega (arith, within)) (omega (arith, few)) in omega (arith, later)

-- a job whose files are fetched, and one whose fetch missed

pub loaded_set : (states : List JobState) (number folder : ℕ) (state : JobState) → slice_get states number ≡ Some state →
    loaded_in number folder states ≡ set states number (load_state folder state)
loaded_set [] number folder state there = absurd cc
loaded_set (x ∷ states) zero folder state there =
    let same : x ≡ state = cc in ap (λ (s : JobState). load_state folder s ∷ states) same
loaded_set (x ∷ states) (suc number) folder state there = ap (λ (others : List JobState). x ∷ others) (loaded_set states number folder state there)

pub loaded_past : (states : List JobState) (number folder : ℕ) → length states ≤ number →
    loaded_in number folder (states ++ untouched ∷ []) ≡ loaded_in number folder states
loaded_past [] zero folder past = refl
loaded_past [] (suc number) folder past = refl
loaded_past (x ∷ states) zero folder past = absurd (omega (arith, past))
loaded_past (x ∷ states) (suc number) folder past = ap (λ (others : List JobState). x ∷ others) (loaded_past states number folder (omega (arith, past)))

pub loaded_few : (states : List JobState) (number folder size : ℕ) → number < size → length states ≤ size → length (loaded_in number folder states) ≤ size
loaded_few [] zero folder size within few = omega (arith, within)
loaded_few [] (suc number) folder zero within few = absurd (omega (arith, within))
loaded_few [] (suc number) folder (suc size) within few =
    let later : length (loaded_in number folder []) ≤ size = loaded_few [] number folder size (omega (arith, within)) (omega arith) in omega (arith, later)
loaded_few (x ∷ states) zero folder size within few = few
loaded_few (x ∷ states) (suc number) folder zero within few = absurd (omega (arith, within))
loaded_few (x ∷ states) (suc number) folder (suc size) within few =
    let later : length (loaded_in number folder states) ≤ size = loaded_few states number folder size (omega (arith, within)) (omega (arith, few)) in omega (arith, later)

pub missed_set : (states : List JobState) (number : ℕ) (state : JobState) → slice_get states number ≡ Some state →
    missed_in number states ≡ set states number (record state { tried = true })
missed_set [] number state there = absurd cc
missed_set (x ∷ states) zero state there =
    let same : x ≡ state = cc in ap (λ (s : JobState). record s { tried = true } ∷ states) same
missed_set (x ∷ states) (suc number) state there = ap (λ (others : List JobState). x ∷ others) (missed_set states number state there)

pub missed_past : (states : List JobState) (number : ℕ) → length states ≤ number → missed_in number (states ++ untouched ∷ []) ≡ missed_in number states
missed_past [] zero past = refl
missed_past [] (suc number) past = refl
missed_past (x ∷ states) zero past = absurd (omega (arith, past))
missed_past (x ∷ states) (suc number) past = ap (λ (others : List JobState). x ∷ others) (missed_past states number (omega (arith, past)))

pub missed_few : (states : List JobState) (number size : ℕ) → number < size → length states ≤ size → length (missed_in number states) ≤ size
missed_few [] zero size within few = omega (arith, within)
missed_few [] (suc number) zero within few = absurd (omega (arith, within))
missed_few [] (suc number) (suc size) within few =
    let later : length (missed_in number []) ≤ size = missed_few [] number size (omega (arith, within)) (omega arith) in omega (arith, later)
missed_few (x ∷ states) zero size within few = few
missed_few (x ∷ states) (suc number) zero within few = absurd (omega (arith, within))
missed_few (x ∷ states) (suc number) (suc size) within few =
    let later : length (missed_in number states) ≤ size = missed_few states number size (omega (arith, within)) (omega (arith, few)) in omega (arith, later)

pub given_up_length : (states : List JobState) (number : ℕ) → length (given_up_in number states) ≡ length states
given_up_length [] zero = refl
given_up_length [] (suc number) = refl
given_up_length (x ∷ states) zero = refl
given_up_length (x ∷ states) (suc number) = ap suc (given_up_length states number)

pub brought_length : (states : List JobState) (number : ℕ) → length (brought_in number states) ≡ length states
brought_length [] zero = refl
brought_length [] (suc number) = refl
brought_length (x ∷ states) zero = refl
brought_length (x ∷ states) (suc number) = ap suc (brought_length states number)

pub brought_set : (states : List JobState) (number : ℕ) (state : JobState) → slice_get states number ≡ Some state →
    brought_in number states ≡ set states number (record state { at_hand = true })
brought_set [] number state there = absurd cc
brought_set (x ∷ states) zero state there =
    let same : x ≡ state = cc in ap (λ (s : JobState). record s { at_hand = true } ∷ states) same
brought_set (x ∷ states) (suc number) state there = ap (λ (others : List JobState). x ∷ others) (brought_set states number state there)

-- a job that doesn't wait was touched
waits_past : (states : List JobState) (n : ℕ) → length states ≤ n → waits_in states n ≡ true
waits_past [] n past = refl
waits_past (x ∷ states) zero past = absurd (omega (arith, past))
waits_past (x ∷ states) (suc n) past = waits_past states n (omega (arith, past))

pub taken_within : (states : List JobState) (n : ℕ) → waits_in states n ≡ false → n < length states
taken_within states n taken = elim (cases_lt n (length states)) [
  | inl within ↦ within
  | inr past ↦ (let never : true ≡ false = sym (waits_past states n past) ∙ taken in absurd cc)
]

pub touched_at : (states : List JobState) (n : ℕ) → n < length states → slice_get states n ≡ Some (state_at states n)
touched_at [] n within = absurd (omega (arith, within))
touched_at (x ∷ states) zero within = refl
touched_at (x ∷ states) (suc n) within = touched_at states n (omega (arith, within))

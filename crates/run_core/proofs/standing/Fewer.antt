-- Each answer is one of so many.
use Rattle.std.specs.Prelude.{◌*◌, IsSome, is_some}
use Rattle.std.proofs.Common.{◌≡◌, ◌∙◌, ℕ, ◌+◌, ◌<◌, ◌≤◌, List, [], ◌∷◌, ◌++◌, length, reverse, Option, Some, None, true, false, Result, Err, refl, sym, ap, subst, arith, length-append}
use Rattle.std.proofs.lemmas.List.{length-reverse}
use Rattle.plain_data.specs.ByName.{with_value}
use Rattle.proc_host.specs.Answers.{fault_of, is_measured, is_staged, is_started, has_ended, is_listed, is_read, is_delivered, is_stored, is_discarded, has_failed, is_fetched}
use Rattle.proc_host.specs.declared.call.HostFault.{HostFault}
use Rattle.proc_host.specs.declared.child.ChildEnd.{ChildEnd}
use Rattle.cwl_process.specs.declared.tool.Tool.{Tool}
use Rattle.job_graph.specs.Unfold.{or_else}
use Rattle.job_graph.specs.Words.{Name, JobPlace}
use Rattle.run_rules.specs.Answers.{MayAnswer, by_host, by_record}
use Rattle.run_rules.specs.declared.outcome.Outcome.{Outcome}
use Rattle.run_rules.specs.declared.outcome.RunFault.{RunFault}
use Rattle.run_rules.specs.declared.request.Answer.{Answer}
use Rattle.run_rules.specs.declared.request.Request.{Request}
use Rattle.job_rows.specs.declared.refusal.RecordRefusal.{RecordRefusal}
use Rattle.plan_checker.specs.declared.graph.TheConstants.{MOST_VERTICES}
use Rattle.run_core.specs.declared.state.Course.{Course}
use Rattle.run_core.specs.declared.state.Filling.{Filling}
use Rattle.run_core.specs.declared.state.Flight.{Flight}
use Rattle.run_core.specs.declared.state.Given.{Given}
use Rattle.run_core.specs.declared.state.JobNext.{JobNext}
use Rattle.run_core.specs.declared.state.JobPhase.{JobPhase}
use Rattle.run_core.specs.declared.state.Kept.{Kept}
use Rattle.run_core.specs.declared.state.Measuring.{Measuring}
use Rattle.run_core.specs.declared.state.Phase.{Phase}
use Rattle.run_core.specs.declared.state.Reading.{Reading}
use Rattle.run_core.specs.declared.state.Turn.{Turn}
use Rattle.run_core.specs.inner.Attempts.{StaysBounded, answers_left, many_items, weight_of, weight_of_past, IsBounded}
use Rattle.run_core.specs.inner.Course.{Past, past_of, with_answer, place_at, known_in, store_note, with_note, with_loss, with_fault, fault_after}
use Rattle.run_core.specs.inner.Discards.{AfterDrop, AfterPut, DiscardsOn, DiscardsPast, discards_one, dropped_by, none_left as no_key_left}
use Rattle.run_core.specs.inner.Due.{Starts}
use Rattle.run_core.specs.inner.Follows.{AsksOf, FollowsFrom}
use Rattle.run_core.specs.inner.Measures.{MeasuresOn, all_measured, measures}
use Rattle.run_core.specs.inner.Picks.{AfterEnd, AfterFault, AfterFetch, AfterInputHead, AfterOutputHead, AfterTouch, LearnsRow, Picks, PicksAfter, PutsRow, Turns, agrees, badly, differs, for_now, touched_by, well}
use Rattle.staging.specs.declared.found.Found.{Found}
use Rattle.run_core.specs.inner.Turns.{PutsNext, its_turn, no_turn}
use Rattle.run_core.proofs.standing.Answered.{asks_none, asks_no_call, drops_no_call, puts_no_call, touches_no_call}
use Rattle.run_core.proofs.standing.Leaving.{KnowsSome, MayKnow, known_still, row_unlearned}
use Rattle.run_core.proofs.standing.Looked.{calls_at_most, collects_by_lists, collects_by_names, starts_at_most, weight_next}
use Rattle.run_core.proofs.standing.Weights.{landing_falls, picks_few, picks_last, picks_settled, staging_falls, start_rises, temporary_few, turns_few, unfolded_same, answer_falls, load_falls, loss_falls, row_learned_same}
use Rattle.run_rules.specs.declared.request.RecordAnswer.{RecordAnswer}
use Rattle.job_rows.specs.declared.row.Row.{Row}

-- a list whose last item comes next
pub record HasLast (left : List Name) : Type 0 where
  pub rest : List Name
  pub name : Name
  pub is : left ≡ rest ++ name ∷ []

-- a phase looks at one file at least, or at the row of a job that a graph may have and whose row was not looked for; and where the result is
-- delivered no child is in flight
abbrev pub LooksAtSome : Past → Phase → Type 0
LooksAtSome past (Phase.Measuring measuring) = HasLast measuring.left
LooksAtSome past (Phase.Finding number) = (past.looked_up ≤ number) × (number + 1 ≤ MOST_VERTICES)
LooksAtSome past (Phase.Working number (JobPhase.Filling filling)) = HasLast filling.left
LooksAtSome past (Phase.Working number (JobPhase.Reading kept reading)) = HasLast reading.left
LooksAtSome past (Phase.Delivering outputs) = past.tickets ≡ []
LooksAtSome past phase = Unit {0}

one_longer : (left rest : List Name) (name : Name) → left ≡ rest ++ name ∷ [] → length left ≡ length rest + 1
one_longer left rest name is = ap length is ∙ length-append rest (name ∷ [])

turned_long : (rest : List Name) → length (reverse rest) ≡ length rest
turned_long rest = length-reverse rest

-- Sums

below : (a w most weight : ℕ) → a ≤ w + most → most < weight → a < w + weight
below a w most weight few less = omega (arith, few, less)

below_staging : (a one w : ℕ) → a ≤ one + (3 * many_items + 6) → one + (3 * many_items + 8) ≤ w → a < w + 2
below_staging a one w few falls = omega (arith, few, falls)

below_start : (a one w : ℕ) → a ≤ one + 2 → one ≡ w + (2 * many_items + 4) → a < w + (2 * many_items + 7)
below_start a one w few rises = omega (arith, few, rises)

below_end : (a one w : ℕ) → a ≤ one + (2 * many_items + 4) → one + (2 * many_items + 4) ≡ w → a < w + 1
below_end a one w few falls = omega (arith, few, falls)

below_soon : (a one w : ℕ) → a ≤ one + 2 → one + (2 * many_items + 4) ≡ w → a < w + 1
below_soon a one w few falls = omega (arith, few, falls)

below_use : (one w : ℕ) → one + (3 * many_items + 8) ≤ w → one + 3 < w + 2
below_use one w falls = omega (arith, falls)

below_loss : (one w : ℕ) → one + (3 * many_items + 8) ≤ w → one + 4 < w + 2
below_loss one w falls = omega (arith, falls)

two_less : 2 ≤ 2 * many_items + 4
two_less = omega arith

settled_by : (first : Option (Result Outcome RunFault)) (end : Result Outcome RunFault) → IsSome (or_else first (Some end))
settled_by None end = refl
settled_by (Some one) end = refl

ended_none : (a b weight : ℕ) → a ≡ 0 → 0 < weight → a < b + weight
ended_none a b weight none some = omega (arith, none, some)

module _ (given : Given) (old : Course) where
  abbrev Before : ℕ
  Before = weight_of_past given.options (past_of old)

  abbrev Fewer : Turn → Course → ℕ → Type 0
  Fewer turn new weight = answers_left given.options (past_of new) turn.phase < weight_of_past given.options (past_of old) + weight

  -- at an end none comes
  none_left : (outcome : Result Outcome RunFault) (turn : Turn) (new : Course) (weight : ℕ) → turn.phase ≡ Phase.Ended outcome → 0 < weight → Fewer turn new weight
  none_left outcome turn new weight is some =
      ended_none (answers_left given.options (past_of new) turn.phase) Before weight (ap (answers_left given.options (past_of new)) is) some

  -- a fault that settles the end, or that is noted
  fault_weight : (o : Option (Result Outcome RunFault)) (place : JobPlace) (fault : HostFault) (past : Past) →
      weight_of_past given.options (fault_after o place fault past) ≡ weight_of_past given.options past
  fault_weight None place fault past = refl
  fault_weight (Some end) place fault past = refl

  fault_ends : (o : Option (Result Outcome RunFault)) (place : JobPlace) (fault : HostFault) (past : Past) → past.end ≡ o → IsSome (fault_after o place fault past).end
  fault_ends None place fault past is = settled_by past.end (Err (RunFault.Host fault []))
  fault_ends (Some end) place fault past is = ap is_some is

  settled_same : (place : JobPlace) (fault : HostFault) (settled : Course) → past_of settled ≡ with_fault place fault (past_of old) →
      (weight_of_past given.options (past_of settled) ≡ Before) × IsSome settled.end
  settled_same place fault settled is = (
    ap (weight_of_past given.options) is ∙ fault_weight old.end place fault (past_of old),
    subst (λ (p : Past). IsSome p.end) (sym is) (fault_ends old.end place fault (past_of old) refl),
  )

  fault_fewer : (place : JobPlace) (fault : HostFault) (turn : Turn) (new : Course) (weight : ℕ) → 1 < weight → AfterFault given old place fault turn new → Fewer turn new weight
  fault_fewer place fault turn new weight some after =
      let its : (weight_of_past given.options (past_of after.settled) ≡ Before) × IsSome after.settled.end = settled_same place fault after.settled after.past in
      below (answers_left given.options (past_of new) turn.phase) Before 1 weight
      (subst (λ w. answers_left given.options (past_of new) turn.phase ≤ w + 1) its.0 (picks_settled given.options given after.settled turn new its.1 after.picks)) some

  fault_tickets : (o : Option (Result Outcome RunFault)) (place : JobPlace) (fault : HostFault) (past : Past) → (fault_after o place fault past).tickets ≡ past.tickets
  fault_tickets None place fault past = refl
  fault_tickets (Some end) place fault past = refl

  last_fewer : (place : JobPlace) (fault : HostFault) (turn : Turn) (new : Course) → old.tickets.items ≡ [] → AfterFault given old place fault turn new → Fewer turn new 1
  last_fewer place fault turn new empty after =
      let its : (weight_of_past given.options (past_of after.settled) ≡ Before) × IsSome after.settled.end = settled_same place fault after.settled after.past in
      let none : after.settled.tickets.items ≡ [] = ap (λ (p : Past). p.tickets) after.past ∙ fault_tickets old.end place fault (past_of old) ∙ empty in
      let last : answers_left given.options (past_of new) turn.phase ≤ 0 = picks_last given.options given after.settled turn new its.1 none after.picks in
      sum_last (answers_left given.options (past_of new) turn.phase) Before last
    where
      sum_last : (a b : ℕ) → a ≤ 0 → a < b + 1
      sum_last a b none = omega (arith, none)

  -- A row was looked for, or the end is settled

  two_lower : (a w b : ℕ) → a ≤ w + 2 → w + 2 ≤ b → a < b + 2
  two_lower a w b few falls = omega (arith, few, falls)

  answer_fewer : (number : ℕ) (answer : RecordAnswer) (refusal : Option RecordRefusal) (noted learned : Course) (turn : Turn) (new : Course) → old.looked_up ≤ number →
      number + 1 ≤ MOST_VERTICES → (old.end ≡ None → KnowsSome old) → past_of noted ≡ with_answer number answer refusal (past_of old) → noted.known ≡ old.known →
      LearnsRow (place_at (known_in old.known) number) answer noted learned → Picks given learned turn new → Fewer turn new 2
  answer_fewer number answer None noted learned turn new left within knows past known learns picks =
      two_lower (answers_left given.options (past_of new) turn.phase) (weight_of_past given.options (past_of learned)) Before (picks_few given.options given learned turn new picks)
      (subst (λ w. w + 2 ≤ weight_of_past given.options (past_of old))
      (sym (row_learned_same given.options given (place_at (known_in old.known) number) answer noted learned (known_still old noted (ap (λ (p : Past). p.end) past) known knows) learns))
      (subst (λ (p : Past). weight_of_past given.options p + 2 ≤ weight_of_past given.options (past_of old)) (sym past)
      (answer_falls given.options (past_of old) number answer left within)))
  answer_fewer number answer (Some refusal) noted learned turn new left within knows past known learns picks =
      let over : IsSome noted.end = subst (λ (p : Past). IsSome p.end) (sym past) (settled_by old.end (Err (RunFault.Record refusal))) in
      let same : past_of learned ≡ past_of noted = row_unlearned (place_at (known_in old.known) number) answer noted learned over learns in
      below (answers_left given.options (past_of new) turn.phase) Before 1 2
      (subst (λ w. answers_left given.options (past_of new) turn.phase ≤ w + 1) (ap (weight_of_past given.options) (same ∙ past))
      (picks_settled given.options given learned turn new (subst (λ (p : Past). IsSome p.end) (sym same) over) picks)) (omega arith)

  -- Something is noted, and nothing is due

  after_fewer : (kept : Past) (turn : Turn) (new : Course) (weight : ℕ) → weight_of_past given.options kept ≡ Before → 2 < weight → PicksAfter given old kept turn new → Fewer turn new weight
  after_fewer kept turn new weight same some after =
      below (answers_left given.options (past_of new) turn.phase) Before 2 weight
      (subst (λ w. answers_left given.options (past_of new) turn.phase ≤ w + 2) (ap (weight_of_past given.options) after.past ∙ same)
      (picks_few given.options given after.noted turn new after.picks)) some

  -- Archives are discarded

  discards_few : (one : Course) (number : ℕ) (left : List Name) (turn : Turn) (new : Course) → weight_of_past given.options (past_of one) ≡ Before → DiscardsOn given one number left turn new →
      answers_left given.options (past_of new) turn.phase ≤ Before + (2 + length left)
  discards_few one number left turn new same (no_key_left none picks) =
      more (answers_left given.options (past_of new) turn.phase) Before (length left)
      (subst (λ w. answers_left given.options (past_of new) turn.phase ≤ w + 2) same (picks_few given.options given one turn new picks))
    where
      more : (a b l : ℕ) → a ≤ b + 2 → a ≤ b + (2 + l)
      more a b l few = omega (arith, few)
  discards_few one number left turn new same (discards_one rest key is turn_is past known) =
      subst (λ (t : Turn). answers_left given.options (past_of new) t.phase ≤ Before + (2 + length left)) (sym turn_is)
      (one_step (weight_of_past given.options (past_of new)) Before (length rest) (length left) (ap (weight_of_past given.options) past ∙ same) (one_longer left rest key is))
    where
      one_step : (a b r l : ℕ) → a ≡ b → l ≡ r + 1 → a + (3 + r) ≤ b + (2 + l)
      one_step a b r l is longer = omega (arith, is, longer)

  discards_fewer : (one : Course) (number : ℕ) (left : List Name) (turn : Turn) (new : Course) → weight_of_past given.options (past_of one) ≡ Before → DiscardsOn given one number left turn new →
      Fewer turn new (3 + length left)
  discards_fewer one number left turn new same on =
      below (answers_left given.options (past_of new) turn.phase) Before (2 + length left) (3 + length left) (discards_few one number left turn new same on) (omega arith)

  past_fewer : (number : ℕ) (left : List Name) (fault : HostFault) (turn : Turn) (new : Course) → DiscardsPast given old number left fault turn new → Fewer turn new (3 + length left)
  past_fewer number left fault turn new after = discards_fewer after.noted number left turn new (ap (weight_of_past given.options) after.past) after.on

  -- A row was put

  put_fewer : (number : ℕ) (answer : RecordAnswer) (turn : Turn) (new : Course) → AfterPut given old number answer turn new → Fewer turn new (many_items + 3)
  put_fewer number (RecordAnswer.Put gone) turn new after =
      few_gone (answers_left given.options (past_of new) turn.phase) Before (length (reverse gone)) (length gone) (discards_few old number (reverse gone) turn new refl after.on)
      (turned_long gone) after.few
    where
      few_gone : (a b l g : ℕ) → a ≤ b + (2 + l) → l ≡ g → g < many_items → a < b + (many_items + 3)
      few_gone a b l g few same many = omega (arith, few, same, many)
  put_fewer number (RecordAnswer.Refused refusal) turn new after = after_fewer _ turn new (many_items + 3) refl (omega arith) after
  put_fewer number (RecordAnswer.Found row) turn new after = absurd after
  put_fewer number RecordAnswer.Done turn new after = absurd after

  -- The use of an archive was noted

  touch_same : (place : JobPlace) (answer : RecordAnswer) (past : Past) → weight_of_past given.options (touched_by place answer past) ≡ weight_of_past given.options past
  touch_same place (RecordAnswer.Found row) past = refl
  touch_same place (RecordAnswer.Put gone) past = refl
  touch_same place RecordAnswer.Done past = refl
  touch_same place (RecordAnswer.Refused refusal) past = refl

  touch_fewer : (number : ℕ) (answer : RecordAnswer) (turn : Turn) (new : Course) → AfterTouch given old number answer turn new → Fewer turn new 3
  touch_fewer number answer turn new after = after_fewer _ turn new 3 (touch_same (place_at (known_in old.known) number) answer (past_of old)) (omega arith) after

  -- An archive was dropped

  drop_same : (place : JobPlace) (answer : RecordAnswer) (past : Past) → weight_of_past given.options (dropped_by place answer past) ≡ weight_of_past given.options past
  drop_same place (RecordAnswer.Found row) past = refl
  drop_same place (RecordAnswer.Put gone) past = refl
  drop_same place RecordAnswer.Done past = refl
  drop_same place (RecordAnswer.Refused refusal) past = refl

  drop_fewer : (number : ℕ) (answer : RecordAnswer) (turn : Turn) (new : Course) → AfterDrop old number answer turn new → Fewer turn new 4
  drop_fewer number answer turn new after =
      subst (λ (t : Turn). answers_left given.options (past_of new) t.phase < Before + 4) (sym after.is)
      (one_left (weight_of_past given.options (past_of new)) Before
      (ap (weight_of_past given.options) after.past ∙ drop_same (place_at (known_in old.known) number) answer (past_of old)))
    where
      one_left : (a b : ℕ) → a ≡ b → a + 3 < b + 4
      one_left a b is = omega (arith, is)

  -- Files were fetched

  fetch_fewer : (number : ℕ) (found : List Found) (turn : Turn) (new : Course) → IsBounded given.options (with_loss number (past_of old)) → AfterFetch old number found turn new →
      Fewer turn new 2
  fetch_fewer number found turn new bounded (agrees its turn_is past known) =
      subst (λ (t : Turn). answers_left given.options (past_of new) t.phase < Before + 2) (sym turn_is)
      (below_use (weight_of_past given.options (past_of new)) Before
      (subst (λ (p : Past). weight_of_past given.options p + (3 * many_items + 8) ≤ weight_of_past given.options (past_of old)) (sym past)
      (load_falls given.options (past_of old) number bounded)))
  fetch_fewer number found turn new bounded (differs other turn_is past known) =
      subst (λ (t : Turn). answers_left given.options (past_of new) t.phase < Before + 2) (sym turn_is)
      (below_loss (weight_of_past given.options (past_of new)) Before
      (subst (λ (p : Past). weight_of_past given.options p + (3 * many_items + 8) ≤ weight_of_past given.options (past_of old)) (sym past)
      (loss_falls given.options (past_of old) number bounded)))

  -- The files of a job are archived, or not, and its row is put

  store_fewer : (number : ℕ) (row : Row) (kept : Past) (turn : Turn) (new : Course) → weight_of_past given.options kept ≡ Before → PutsRow old number row kept turn new → Fewer turn new (many_items + 4)
  store_fewer number row kept turn new same after =
      subst (λ (t : Turn). answers_left given.options (past_of new) t.phase < Before + (many_items + 4)) (sym after.is)
      (put_left (weight_of_past given.options (past_of new)) Before (ap (weight_of_past given.options) after.past ∙ same))
    where
      put_left : (a b : ℕ) → a ≡ b → a + (many_items + 3) < b + (many_items + 4)
      put_left a b is = omega (arith, is)

  -- Measuring

  rest_shorter : {T : Type 0} (left : List Name) (found : List (Name × T)) (value : T) {new_left : List Name} {new_found : List (Name × T)} → HasLast left →
      PutsNext left found value new_left new_found → length new_left + 1 ≡ length left
  rest_shorter left found value last (no_turn none) =
      let long : length left ≡ length last.rest + 1 = one_longer left last.rest last.name last.is in
      let empty : length left ≡ 0 = ap length none in
      absurd (omega (arith, long, empty))
  rest_shorter left found value last (its_turn rest name is) = sym (one_longer left rest name is)

  measuring_fewer : (left : ℕ) (next : Measuring) (turn : Turn) (new : Course) → length next.left + 1 ≡ left → MeasuresOn given old next turn new → Fewer turn new (2 + left)
  measuring_fewer left next turn new shorter (all_measured known its_next its_new none unfolded picks) =
      below (answers_left given.options (past_of new) turn.phase) Before 2 (2 + left)
      (subst (λ w. answers_left given.options (past_of new) turn.phase ≤ w + 2) (unfolded_same given.options given _ [] old known unfolded)
      (picks_few given.options given known turn new picks)) (omega (arith, shorter))
  measuring_fewer left next turn new shorter (measures rest path its_new is same known) =
      subst (λ (p : Past). weight_of_past given.options p + (2 + length next.left) < weight_of_past given.options (past_of old) + (2 + left)) (sym same)
      (one_step (weight_of_past given.options (past_of old)) (length next.left) left shorter)
    where
      one_step : (w a b : ℕ) → a + 1 ≡ b → w + (2 + a) < w + (2 + b)
      one_step w a b is = omega (arith, is)

  -- The work on a job

  module _ (knows : old.end ≡ None → KnowsSome old) (turn : Turn) (new : Course) where
    -- so much is left where a job goes on
    turns_fewer : (number : ℕ) (next : JobNext) (most weight : ℕ) → 2 ≤ most → weight_next next ≤ most → most < weight → Turns given old number next turn new →
        Fewer turn new weight
    turns_fewer number next most weight two few less turns =
        below (answers_left given.options (past_of new) turn.phase) Before most weight (turns_few given.options given old number next turn new most two few knows turns) less

    input_fewer : (number : ℕ) (filling : Filling) (bytes : List ℕ) → HasLast filling.left → AfterInputHead given old number filling bytes turn new →
        Fewer turn new (2 * many_items + 7 + length filling.left)
    input_fewer number filling bytes last after =
        let shorter : length filling.left ≡ length last.rest + 1 = one_longer filling.left last.rest last.name last.is in
        let turned : length (reverse last.rest) ≡ length last.rest = turned_long last.rest in
        let starts : Starts after.site filling.staged (with_value last.name bytes filling.heads) (reverse last.rest) after.next = after.starts.each last.rest last.name last.is in
        turns_fewer number after.next (2 * many_items + 7 + length (reverse last.rest)) (2 * many_items + 7 + length filling.left) (omega arith)
        (starts_at_most after.site filling.staged _ (reverse last.rest) after.next starts) (omega (arith, shorter, turned)) after.turns

    output_fewer : (number : ℕ) (kept : Kept) (reading : Reading) (bytes : List ℕ) → HasLast reading.left → AfterOutputHead given old number kept reading bytes turn new →
        Fewer turn new (many_items + 4 + length reading.left)
    output_fewer number kept reading bytes last after =
        let shorter : length reading.left ≡ length last.rest + 1 = one_longer reading.left last.rest last.name last.is in
        let turned : length (reverse last.rest) ≡ length last.rest = turned_long last.rest in
        turns_fewer number after.next (many_items + 4 + length (reverse last.rest)) (many_items + 4 + length reading.left) (omega arith)
        (collects_by_names after.site kept reading.millis reading.found _ (reverse last.rest) after.next (after.collects.each last.rest last.name last.is))
        (omega (arith, shorter, turned)) after.turns

    end_fewer : (landed : Course) (flight : Flight) (tool : Tool) (ending : ChildEnd) → (landed.end ≡ None → KnowsSome landed) →
        weight_of_past given.options (past_of landed) + (2 * many_items + 4) ≡ Before → AfterEnd given landed flight tool ending turn new → Fewer turn new 1
    end_fewer landed flight tool ending still falls (well site next class site_is scans turns) =
        below_end (answers_left given.options (past_of new) turn.phase) (weight_of_past given.options (past_of landed)) Before
        (turns_few given.options given landed flight.job next turn new (2 * many_items + 4) two_less
        (subst (λ (n : JobNext). weight_next n ≤ 2 * many_items + 4) (sym scans.is) (omega arith)) still turns) falls
    end_fewer landed flight tool ending still falls (badly class turns) =
        below_soon (answers_left given.options (past_of new) turn.phase) (weight_of_past given.options (past_of landed)) Before
        (turns_few given.options given landed flight.job _ turn new 2 (omega arith) (omega arith) still turns) falls
    end_fewer landed flight tool ending still falls (for_now class temporary) =
        below_soon (answers_left given.options (past_of new) turn.phase) (weight_of_past given.options (past_of landed)) Before
        (temporary_few given.options given landed flight.job turn new temporary) falls

  -- Each answer

  module _ (turn : Turn) (new : Course) where
    pub step_fewer : (asks : Request) (phase : Phase) (answer : Answer) → MayAnswer old.tickets.items asks answer → AsksOf old asks phase → (phase ≡ Phase.Draining → ⊥) → MayKnow old phase →
        StaysBounded given.options (past_of old) phase → LooksAtSome (past_of old) phase →
        FollowsFrom given old (record { asks = asks; phase = phase }) answer turn new → Fewer turn new (weight_of phase)
    step_fewer asks (Phase.Measuring measuring) answer (by_host place request its (is_measured path measure)) fits goes knows bounded some follows =
        measuring_fewer (length measuring.left) follows.next turn new (rest_shorter measuring.left measuring.measures measure some follows.puts) follows.on
    step_fewer asks (Phase.Measuring measuring) answer (by_host place request its (has_failed call)) fits goes knows bounded some follows =
        fault_fewer place (fault_of call) turn new (2 + length measuring.left) (omega arith) follows
    step_fewer asks (Phase.Finding number) answer (by_host place request its can) fits goes knows bounded some follows = absurd (asks_no_call old place request number fits)
    step_fewer asks (Phase.Finding number) answer (by_record place request its can) fits goes knows bounded some follows =
        answer_fewer number its follows.refusal follows.noted follows.learned turn new some.0 some.1 knows follows.past follows.known follows.learns follows.picks
    step_fewer asks (Phase.Putting number) answer (by_host place request its can) fits goes knows bounded some follows = absurd (puts_no_call old place request number fits)
    step_fewer asks (Phase.Putting number) answer (by_record place request its can) fits goes knows bounded some follows = put_fewer number its turn new follows
    step_fewer asks (Phase.Touching number) answer (by_host place request its can) fits goes knows bounded some follows = absurd (touches_no_call old place request number fits)
    step_fewer asks (Phase.Touching number) answer (by_record place request its can) fits goes knows bounded some follows = touch_fewer number its turn new follows
    step_fewer asks (Phase.Dropping number) answer (by_host place request its can) fits goes knows bounded some follows = absurd (drops_no_call old place request number fits)
    step_fewer asks (Phase.Dropping number) answer (by_record place request its can) fits goes knows bounded some follows = drop_fewer number its turn new follows
    step_fewer asks (Phase.Fetching number) answer (by_host place request its (is_fetched its_key folder files found among)) fits goes knows bounded some follows =
        fetch_fewer number found turn new bounded follows
    step_fewer asks (Phase.Fetching number) answer (by_host place request its (has_failed call)) fits goes knows bounded some follows =
        fault_fewer place (fault_of call) turn new 2 (omega arith) follows
    step_fewer asks (Phase.Staging number) answer (by_host place request its (is_staged plan folder)) fits goes knows bounded some follows =
        below_staging (answers_left given.options (past_of new) turn.phase) (weight_of_past given.options (past_of follows.staged)) Before
        (turns_few given.options given follows.staged number follows.next turn new (3 * many_items + 6) (omega arith)
        (calls_at_most follows.site.options.now follows.site.folder follows.next follows.starts.calls)
        (known_still old follows.staged (ap (λ (p : Past). p.end) follows.past) follows.known knows) follows.turns)
        (subst (λ (p : Past). weight_of_past given.options p + (3 * many_items + 8) ≤ weight_of_past given.options (past_of old)) (sym follows.past)
        (staging_falls given.options (past_of old) number bounded))
    step_fewer asks (Phase.Staging number) answer (by_host place request its (has_failed call)) fits goes knows bounded some follows =
        fault_fewer place (fault_of call) turn new 2 (omega arith) follows
    step_fewer asks (Phase.Working number (JobPhase.Filling filling)) answer (by_host place request its (is_read path limit bytes short)) fits goes knows bounded some follows =
        input_fewer knows turn new number filling bytes some follows
    step_fewer asks (Phase.Working number (JobPhase.Filling filling)) answer (by_host place request its (has_failed call)) fits goes knows bounded some follows =
        fault_fewer place (fault_of call) turn new (2 * many_items + 7 + length filling.left) (omega arith) follows
    step_fewer asks (Phase.Working number (JobPhase.Starting kept)) answer (by_host place request its (is_started launch ticket fresh)) fits goes knows bounded some follows =
        below_start (answers_left given.options (past_of new) turn.phase) (weight_of_past given.options (past_of follows.started)) Before
        (picks_few given.options given follows.started turn new follows.picks)
        (ap (weight_of_past given.options) follows.past ∙ start_rises given.options (past_of old) number kept ticket)
    step_fewer asks (Phase.Working number (JobPhase.Starting kept)) answer (by_host place request its (has_failed call)) fits goes knows bounded some follows =
        fault_fewer place (fault_of call) turn new (2 * many_items + 7) (omega arith) follows
    step_fewer asks (Phase.Working number (JobPhase.Scanning kept millis)) answer (by_host place request its (is_listed folder found below)) fits goes knows bounded some follows =
        turns_fewer knows turn new number follows.next (2 * many_items + 3) (2 * many_items + 4) (omega arith)
        (collects_by_lists follows.site kept millis found [] follows.collects.wanted follows.next follows.collects.on) (omega arith) follows.turns
    step_fewer asks (Phase.Working number (JobPhase.Scanning kept millis)) answer (by_host place request its (has_failed call)) fits goes knows bounded some follows =
        fault_fewer place (fault_of call) turn new (2 * many_items + 4) (omega arith) follows
    step_fewer asks (Phase.Working number (JobPhase.Reading kept reading)) answer (by_host place request its (is_read path limit bytes short)) fits goes knows bounded some follows =
        output_fewer knows turn new number kept reading bytes some follows
    step_fewer asks (Phase.Working number (JobPhase.Reading kept reading)) answer (by_host place request its (has_failed call)) fits goes knows bounded some follows =
        fault_fewer place (fault_of call) turn new (many_items + 4 + length reading.left) (omega arith) follows
    step_fewer asks Phase.Collecting answer (by_host place request its (has_ended ending flies)) fits goes knows bounded some follows =
        end_fewer knows turn new follows.landed follows.flight follows.job.tool ending
        (known_still old follows.landed (ap (λ (p : Past). p.end) follows.taken.is) follows.known knows)
        (landing_falls given.options ending.ticket follows.flight (past_of old) (past_of follows.landed) follows.taken) follows.ends
    step_fewer asks Phase.Collecting answer (by_host place request its (has_failed call)) fits goes knows bounded some follows =
        none_left _ turn new 1 (ap (λ (t : Turn). t.phase) follows.0) (omega arith)
    step_fewer asks (Phase.Delivering outputs) answer (by_host place request its (is_delivered plan)) fits goes knows bounded some follows =
        none_left _ turn new 1 (ap (λ (t : Turn). t.phase) follows.0) (omega arith)
    step_fewer asks (Phase.Delivering outputs) answer (by_host place request its (has_failed call)) fits goes knows bounded some follows =
        last_fewer place (fault_of call) turn new some follows
    step_fewer asks (Phase.Storing number row) answer (by_host place request its (is_stored key folder files)) fits goes knows bounded some follows =
        store_fewer number (record row { archived = true }) (past_of old) turn new refl follows
    step_fewer asks (Phase.Storing number row) answer (by_host place request its (has_failed call)) fits goes knows bounded some follows =
        store_fewer number (record row { archived = false }) (with_note (store_note (place_at (known_in old.known) number) (fault_of call)) (past_of old)) turn new refl follows
    step_fewer asks (Phase.Discarding number left) answer (by_host place request its (is_discarded key)) fits goes knows bounded some follows =
        discards_fewer old number left turn new refl follows
    step_fewer asks (Phase.Discarding number left) answer (by_host place request its (has_failed call)) fits goes knows bounded some follows =
        past_fewer number left (fault_of call) turn new follows
    step_fewer asks Phase.Draining answer may fits goes knows bounded some follows = absurd (goes refl)
    step_fewer asks (Phase.Ended outcome) answer (by_host place request its can) fits goes knows bounded some follows = absurd (asks_none old place request outcome fits)
    step_fewer asks phase answer (by_host place request its can) fits goes knows bounded some follows = absurd fits
    step_fewer asks phase answer (by_record place request its can) fits goes knows bounded some follows = absurd follows

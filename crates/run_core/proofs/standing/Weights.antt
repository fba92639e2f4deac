-- Each choice of what comes next leaves few answers.
use Rattle.std.specs.Prelude.{◌-◌, ◌*◌, IsSome, is_some}
use Rattle.std.specs.List.{remove}
use Rattle.std.proofs.Common.{◌≡◌, ℕ, ◌+◌, ◌≤◌, List, [], ◌∷◌, ◌++◌, length, true, false, Option, Some, None, refl, sym, ap, subst, arith, length-append, ◌∙◌, Bool}
use Rattle.std.proofs.lemmas.List.Edits.{length-remove}
use Rattle.std.proofs.lemmas.Nat.{mul-le}
use Rattle.std.proofs.lemmas.Option.{slice_get_within}
use Rattle.plan_checker.specs.declared.graph.TheConstants.{MOST_VERTICES}
use Rattle.job_graph.specs.Jobs.{Job, Walker}
use Rattle.job_graph.specs.Unfold.{Resolved}
use Rattle.run_rules.specs.declared.setting.Options.{Options}
use Rattle.run_core.specs.declared.state.Course.{Course}
use Rattle.run_core.specs.declared.state.Flight.{Flight}
use Rattle.run_core.specs.declared.state.Given.{Given}
use Rattle.run_core.specs.declared.state.JobNext.{JobNext}
use Rattle.run_core.specs.declared.state.Kept.{Kept}
use Rattle.run_core.specs.declared.state.Phase.{Phase}
use Rattle.run_core.specs.declared.state.Turn.{Turn}
use Rattle.run_core.specs.inner.Attempts.{IsBounded, answers_left, many_items, most_stagings, tries_of, weight_of_past}
use Rattle.run_core.specs.inner.Course.{GivesUp, Past, TakesOut, again, known_in, past_of, too_often, with_staging, with_start, with_answer, place_at, with_load, with_loss}
use Rattle.run_core.specs.inner.Knows.{IsUnfolded, LearnsUnlessOver, fails as unfold_fails, knows as unfold_knows}
use Rattle.run_core.specs.inner.Picks.{AfterTemporary, Chooses, Delivers, Picks, Stages, Turns, asks, chooses, delivers, drains, ends_so, fails, gives, has_result, stages, succeeds_at_once, waits_for_one, Finds, fetches, finds, LearnsRow, PutsOrPicks, mismatches, repeats}
use Rattle.run_core.specs.inner.Fetches.{Fetches}
use Rattle.run_core.proofs.Plans.{replanned}
use Rattle.run_core.proofs.standing.Leaving.{KnowsSome, is_none, known_still, learns_by}
use Rattle.run_core.proofs.standing.Looked.{weight_next}
use Rattle.run_core.proofs.standing.Tries.{tries_at_most}
use Rattle.run_rules.specs.declared.request.RecordAnswer.{RecordAnswer}
use Rattle.job_rows.specs.declared.row.Row.{Row}
use Rattle.job_graph.specs.Words.{JobPlace, Name}
use Rattle.run_rules.specs.Folders.{out_folder}
use Rattle.run_core.specs.inner.JobStates.{state_at}
use Rattle.run_core.specs.inner.Turn.{keeps_row}

least : (w : ℕ) → 0 ≤ w
least w = omega arith

one_more : (w : ℕ) → w + 1 ≤ w + 2
one_more w = omega arith

same_at_most : (w : ℕ) → w ≤ w
same_at_most w = omega arith

-- no more folders are made than there can be stagings
pub folders_at_most : (options : Options) (past : Past) → IsBounded options past → past.folders ≤ most_stagings options
folders_at_most options past bounded =
    let tries : tries_of past.jobs ≤ length past.jobs * (options.retries + 2) = tries_at_most options.retries past.jobs bounded.retries in
    let most : length past.jobs * (options.retries + 2) ≤ MOST_VERTICES * (options.retries + 2) =
    mul-le (length past.jobs) (options.retries + 2) MOST_VERTICES (options.retries + 2) bounded.jobs (same_at_most (options.retries + 2)) in
    steps past.folders (tries_of past.jobs) (length past.jobs * (options.retries + 2)) (MOST_VERTICES * (options.retries + 2)) bounded.folders tries most
  where
    steps : (a b c d : ℕ) → a ≤ b → b ≤ c → c ≤ d → a ≤ d
    steps a b c d one two three = omega (arith, one, two, three)

falls_by_one : (most folders flown : ℕ) → folders + 1 ≤ most →
    (most - (folders + 1)) * (3 * many_items + 8) + flown + (3 * many_items + 8) ≤ (most - folders) * (3 * many_items + 8) + flown
falls_by_one most folders flown within = omega (arith, within)

-- beside the rows that are still looked for
beside_less : (rows new old more : ℕ) → new + more ≤ old → rows + new + more ≤ rows + old
beside_less rows new old more falls = omega (arith, falls)

beside_same : (rows new old more : ℕ) → new ≡ old + more → rows + new ≡ rows + old + more
beside_same rows new old more rises = omega (arith, rises)

abbrev rows_left : Past → ℕ
rows_left past = (MOST_VERTICES - past.looked_up) * 2

-- a staging is one of those
pub staging_falls : (options : Options) (past : Past) (number : ℕ) → IsBounded options (with_staging number past) →
    weight_of_past options (with_staging number past) + (3 * many_items + 8) ≤ weight_of_past options past
staging_falls options past number bounded =
    beside_less (rows_left past) _ _ (3 * many_items + 8)
    (falls_by_one (most_stagings options) past.folders (length past.tickets * (2 * many_items + 4)) (folders_at_most options (with_staging number past) bounded))

-- and a fetch, which is what it is or not
pub loss_falls : (options : Options) (past : Past) (number : ℕ) → IsBounded options (with_loss number past) →
    weight_of_past options (with_loss number past) + (3 * many_items + 8) ≤ weight_of_past options past
loss_falls options past number bounded =
    beside_less (rows_left past) _ _ (3 * many_items + 8)
    (falls_by_one (most_stagings options) past.folders (length past.tickets * (2 * many_items + 4)) (folders_at_most options (with_loss number past) bounded))

pub load_falls : (options : Options) (past : Past) (number : ℕ) → IsBounded options (with_loss number past) →
    weight_of_past options (with_load number past) + (3 * many_items + 8) ≤ weight_of_past options past
load_falls options past number bounded = loss_falls options past number bounded

-- one child more

more_by_one : (stagings flown more : ℕ) → more ≡ flown + 1 → stagings + more * (2 * many_items + 4) ≡ stagings + flown * (2 * many_items + 4) + (2 * many_items + 4)
more_by_one stagings flown more is = omega (arith, is)

pub start_rises : (options : Options) (past : Past) (number : ℕ) (kept : Kept) (ticket : ℕ) →
    weight_of_past options (with_start number kept ticket past) ≡ weight_of_past options past + (2 * many_items + 4)
start_rises options past number kept ticket =
    beside_same (rows_left past) _ _ (2 * many_items + 4)
    (more_by_one ((most_stagings options - past.folders) * (3 * many_items + 8)) (length past.tickets) (length (past.tickets ++ ticket ∷ []))
    (length-append past.tickets (ticket ∷ [])))

-- and one less
pub landing_falls : (options : Options) (ticket : ℕ) (flight : Flight) (old new : Past) → TakesOut ticket flight old new →
    weight_of_past options new + (2 * many_items + 4) ≡ weight_of_past options old
landing_falls options ticket flight old new taken =
    let left : length (remove old.tickets taken.index) + 1 ≡ length old.tickets =
    length-remove old.tickets taken.index (slice_get_within old.tickets taken.index ticket taken.ticket_there) in
    subst (λ (p : Past). weight_of_past options p + (2 * many_items + 4) ≡ weight_of_past options old) (sym taken.is)
    (sym (beside_same (rows_left old) _ _ (2 * many_items + 4)
    (more_by_one ((most_stagings options - old.folders) * (3 * many_items + 8)) (length (remove old.tickets taken.index)) (length old.tickets) (sym left))))

-- the row of a job was looked for, which was not before
one_row_less : (most before number jobs : ℕ) → before ≤ number → number + 1 ≤ most → (most - (number + 1)) * 2 + jobs + 2 ≤ (most - before) * 2 + jobs
one_row_less most before number jobs left within = omega (arith, left, within)

pub answer_falls : (options : Options) (past : Past) (number : ℕ) (answer : RecordAnswer) → past.looked_up ≤ number → number + 1 ≤ MOST_VERTICES →
    weight_of_past options (with_answer number answer None past) + 2 ≤ weight_of_past options past
answer_falls options past number answer left within =
    one_row_less MOST_VERTICES past.looked_up number ((most_stagings options - past.folders) * (3 * many_items + 8) + length past.tickets * (2 * many_items + 4)) left within

-- What comes next

none_some : {X : Type 0} (o : Option X) → IsSome o → o ≡ None → ⊥
none_some None some none = let never : false ≡ true = some in cc
none_some (Some x) some none = cc

module _ (options : Options) (given : Given) where
  abbrev Before : Course → ℕ
  Before course = weight_of_past options (past_of course)

  at_collect : (old new : Course) → past_of new ≡ past_of old → answers_left options (past_of new) Phase.Collecting ≤ Before old + 1
  at_collect old new same =
      subst (λ (p : Past). weight_of_past options p + 1 ≤ weight_of_past options (past_of old) + 1) (sym same) (same_at_most (weight_of_past options (past_of old) + 1))

  at_staging : (number : ℕ) (course new : Course) (turn : Turn) → Stages given course number turn → past_of new ≡ past_of course →
      answers_left options (past_of new) turn.phase ≤ Before course + 2
  at_staging number course new turn staging same =
      subst (λ (t : Turn). answers_left options (past_of new) t.phase ≤ Before course + 2) (sym staging.is)
      (subst (λ (p : Past). weight_of_past options p + 2 ≤ weight_of_past options (past_of course) + 2) (sym same) (same_at_most (weight_of_past options (past_of course) + 2)))

  at_find : (number : ℕ) (course new : Course) (turn : Turn) → Finds course number turn → past_of new ≡ past_of course →
      answers_left options (past_of new) turn.phase ≤ Before course + 2
  at_find number course new turn finding same =
      subst (λ (t : Turn). answers_left options (past_of new) t.phase ≤ Before course + 2) (sym finding.is)
      (subst (λ (p : Past). weight_of_past options p + 2 ≤ weight_of_past options (past_of course) + 2) (sym same) (same_at_most (weight_of_past options (past_of course) + 2)))

  at_fetch : (number : ℕ) (course new : Course) (turn : Turn) → Fetches course number turn → past_of new ≡ past_of course →
      answers_left options (past_of new) turn.phase ≤ Before course + 2
  at_fetch number course new turn fetching same =
      subst (λ (t : Turn). answers_left options (past_of new) t.phase ≤ Before course + 2) (sym fetching.is)
      (subst (λ (p : Past). weight_of_past options p + 2 ≤ weight_of_past options (past_of course) + 2) (sym same) (same_at_most (weight_of_past options (past_of course) + 2)))

  at_delivery : (old new : Course) (turn : Turn) → Delivers given old turn → past_of new ≡ past_of old → answers_left options (past_of new) turn.phase ≤ Before old + 2
  at_delivery old new turn (delivers its_turn files copies) same =
      subst (λ (t : Turn). answers_left options (past_of new) t.phase ≤ Before old + 2) (sym copies.is)
      (subst (λ (p : Past). weight_of_past options p + 1 ≤ weight_of_past options (past_of old) + 2) (sym same) (one_more (weight_of_past options (past_of old))))
  at_delivery old new turn (succeeds_at_once none) same = least (Before old + 2)

  raised : (a b : ℕ) → a ≤ b + 1 → a ≤ b + 2
  raised a b few = omega (arith, few)

  chosen_few : (course new : Course) (turn : Turn) → past_of new ≡ past_of course → Chooses given course turn → answers_left options (past_of new) turn.phase ≤ Before course + 2
  chosen_few course new turn same (fetches number its_turn is_next fetching) = at_fetch number course new turn fetching same
  chosen_few course new turn same (stages number its_turn unfetched may staging) = at_staging number course new turn staging same
  chosen_few course new turn same (waits_for_one unfetched none flying) = raised (answers_left options (past_of new) Phase.Collecting) (Before course) (at_collect course new same)
  chosen_few course new turn same (has_result its_turn unfetched to_stage none result) = at_delivery course new turn result same

  pub picks_few : (old : Course) (turn : Turn) (new : Course) → Picks given old turn new → answers_left options (past_of new) turn.phase ≤ Before old + 2
  picks_few old turn new (drains its_new settled flying same known) = raised (answers_left options (past_of new) Phase.Collecting) (Before old) (at_collect old new same)
  picks_few old turn new (ends_so end its_new is none cleared known same_notes) = least (Before old + 2)
  picks_few old turn new (finds number its_turn its_new going is_next finding same known) = at_find number old new turn finding same
  picks_few old turn new (chooses planned its_turn its_new going looked replans chosen same known) =
      subst (λ w. answers_left options (past_of new) turn.phase ≤ w + 2) (replanned (weight_of_past options) (λ after made past. refl) given old replans)
      (chosen_few planned new turn same chosen)

  -- once the end is settled
  pub picks_settled : (old : Course) (turn : Turn) (new : Course) → IsSome old.end → Picks given old turn new → answers_left options (past_of new) turn.phase ≤ Before old + 1
  picks_settled old turn new over (drains its_new settled flying same known) = at_collect old new same
  picks_settled old turn new over (ends_so end its_new is none cleared known same_notes) = least (Before old + 1)
  picks_settled old turn new over (finds number its_turn its_new going is_next finding same known) = absurd (none_some old.end over going)
  picks_settled old turn new over (chooses planned its_turn its_new going looked replans chosen same known) = absurd (none_some old.end over going)

  -- and no child is in flight
  pub picks_last : (old : Course) (turn : Turn) (new : Course) → IsSome old.end → old.tickets.items ≡ [] → Picks given old turn new →
      answers_left options (past_of new) turn.phase ≤ 0
  picks_last old turn new over empty (drains its_new settled flying same known) = absurd (flying empty)
  picks_last old turn new over empty (ends_so end its_new is none cleared known same_notes) = least 0
  picks_last old turn new over empty (finds number its_turn its_new going is_next finding same known) = absurd (none_some old.end over going)
  picks_last old turn new over empty (chooses planned its_turn its_new going looked replans chosen same known) = absurd (none_some old.end over going)

  -- A job goes on

  pub unfolded_same : (walks : Walker) (learned : List Resolved) (old new : Course) → IsUnfolded walks learned old new → Before new ≡ Before old
  unfolded_same walks learned old new (unfold_knows kept its_new knows known same) = ap (weight_of_past options) same
  unfolded_same walks learned old new (unfold_fails fault its_new is known same) = ap (weight_of_past options) same

  -- also where it is learned unless the end is settled
  pub unless_over_same : (old new : Course) (one : Resolved) → (old.end ≡ None → KnowsSome old) → LearnsUnlessOver one old new → Before new ≡ Before old
  unless_over_same old new one knows l = by (is_some old.end) refl
    where
      by : (over : Bool) → is_some old.end ≡ over → Before new ≡ Before old
      by true over = ap (weight_of_past options) (l.settled over)
      by false still =
          let going : old.end ≡ None = is_none old.end still in
          let some : KnowsSome old = knows going in
          unfolded_same some.walks _ old new (learns_by some.walks some.learned one old new old.known refl some.is (l.learned going))

  pub row_learned_same : (place : JobPlace) (answer : RecordAnswer) (old new : Course) → (old.end ≡ None → KnowsSome old) → LearnsRow place answer old new → Before new ≡ Before old
  row_learned_same place (RecordAnswer.Found (Some row)) old new knows learns = unless_over_same old new _ knows learns
  row_learned_same place (RecordAnswer.Found None) old new knows learns = ap (weight_of_past options) learns.0
  row_learned_same place (RecordAnswer.Put gone) old new knows learns = ap (weight_of_past options) learns.0
  row_learned_same place RecordAnswer.Done old new knows learns = ap (weight_of_past options) learns.0
  row_learned_same place (RecordAnswer.Refused refusal) old new knows learns = ap (weight_of_past options) learns.0

  two_of : (a b most : ℕ) → 2 ≤ most → a ≤ b + 2 → a ≤ b + most
  two_of a b most two few = omega (arith, two, few)

  picks_from : (one old : Course) (turn : Turn) (new : Course) (most : ℕ) → Before one ≡ Before old → 2 ≤ most → Picks given one turn new →
      answers_left options (past_of new) turn.phase ≤ Before old + most
  picks_from one old turn new most same two picks =
      subst (λ w. answers_left options (past_of new) turn.phase ≤ w + most) same
      (two_of (answers_left options (past_of new) turn.phase) (Before one) most two (picks_few one turn new picks))

  -- the row of a job is kept next
  kept_few : (keep : Bool) (folder : Name) (place : JobPlace) (number : ℕ) (row : Row) (past : Past) →
      answers_left options past (keeps_row keep folder place number row).phase ≤ weight_of_past options past + (many_items + 4)
  kept_few true folder place number row past = same_at_most (weight_of_past options past + (many_items + 4))
  kept_few false folder place number row past = fewer (weight_of_past options past)
    where
      fewer : (w : ℕ) → w + (many_items + 3) ≤ w + (many_items + 4)
      fewer w = omega arith

  -- a job's outputs are there: its row is kept next, if one is made of it
  given_from : (place : JobPlace) (folder : ℕ) (one old : Course) (number : ℕ) (row : Option Row) (turn : Turn) (new : Course) (most : ℕ) → weight_of_past options (past_of one) ≡ Before old → 2 ≤ most → many_items + 4 ≤ most →
      PutsOrPicks given place folder one number row turn new → answers_left options (past_of new) turn.phase ≤ Before old + most
  given_from place folder one old number None turn new most same two four picks = picks_from one old turn new most same two picks
  given_from place folder one old number (Some row) turn new most same two four put =
      subst (λ (t : Turn). answers_left options (past_of new) t.phase ≤ Before old + most) (sym put.is)
      (four_of (answers_left options (past_of new) (keeps_row given.options.keep (out_folder given.options.work folder) place number row).phase)
      (weight_of_past options (past_of new)) (Before old) most (kept_few given.options.keep (out_folder given.options.work folder) place number row (past_of new)) four
      (ap (weight_of_past options) put.past ∙ same))
    where
      four_of : (left a b most : ℕ) → left ≤ a + (many_items + 4) → many_items + 4 ≤ most → a ≡ b → left ≤ b + most
      four_of left a b most few four is = omega (arith, few, four, is)

  pub turns_few : (old : Course) (number : ℕ) (next : JobNext) (turn : Turn) (new : Course) (most : ℕ) → 2 ≤ most → weight_next next ≤ most →
      (old.end ≡ None → KnowsSome old) → Turns given old number next turn new → answers_left options (past_of new) turn.phase ≤ Before old + most
  turns_few old number next turn new most two few knows (asks call phase its_new same known) =
      subst (λ (p : Past). weight_of_past options p + weight_next (JobNext.Asks call phase) ≤ Before old + most) (sym same)
      (added (Before old) (weight_next (JobNext.Asks call phase)) most few)
    where
      added : (w a b : ℕ) → a ≤ b → w + a ≤ w + b
      added w a b less = omega (arith, less)
  turns_few old number next turn new most two few knows (fails cause failed its_turn its_new is known picks) =
      picks_from failed old turn new most (ap (weight_of_past options) is) two picks
  turns_few old number next turn new most two few knows (gives outputs row learned its_turn its_new given_it picks) =
      given_from (place_at (known_in old.known) number) (state_at old.jobs number).folder learned old number row turn new most
      (unless_over_same given_it.there learned _ (known_still old given_it.there (ap (λ (p : Past). p.end) given_it.past) given_it.known knows) given_it.learns
      ∙ ap (weight_of_past options) given_it.past) two few picks
  turns_few old number next turn new most two few knows (repeats row there its_turn its_new past known put) =
      given_from (place_at (known_in old.known) number) (state_at old.jobs number).folder there old number (Some row) turn new most (ap (weight_of_past options) past) two few put
  turns_few old number next turn new most two few knows (mismatches outputs failed its_turn its_new is known picks) =
      picks_from failed old turn new most (ap (weight_of_past options) is) two picks

  gave_up_same : (past : Past) (jobs : List Job) (number retries : ℕ) {new : Past} → GivesUp jobs number retries past new →
      weight_of_past options new ≡ weight_of_past options past
  gave_up_same past jobs number retries (again state there few) = refl
  gave_up_same past jobs number retries (too_often state there many) = refl

  pub temporary_few : (old : Course) (number : ℕ) (turn : Turn) (new : Course) → AfterTemporary given old number turn new →
      answers_left options (past_of new) turn.phase ≤ Before old + 2
  temporary_few old number turn new after =
      picks_from after.tried old turn new 2 (gave_up_same (past_of old) (known_in old.known) number given.options.retries after.gives_up) (same_at_most 2) after.picks

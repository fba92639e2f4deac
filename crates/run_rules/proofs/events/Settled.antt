-- What settles the end, one event after another: the first failure does, and nothing takes it back.
use Rattle.std.specs.List.{list_all, list_any}
use Rattle.std.specs.Prelude.{◌||◌, nat_lt}
use Rattle.std.proofs.Common.{◌≡◌, ◌∙◌, Bool, true, false, cond, List, [], ◌∷◌, ◌++◌, length, filter, Option, Some, None, refl, sym, ap, subst, append_assoc, append-nil}
use Rattle.std.proofs.lemmas.Bool.{and_parts}
use Rattle.job_graph.specs.Unfold.{Unfolded, or_else}
use Rattle.run_rules.specs.Scene.{Scene}
use Rattle.job_graph.specs.Words.{JobPlace}
use Rattle.run_rules.specs.Events.{Event, file_measured, job_staged, job_started, child_exited, job_succeeded, job_failed, job_failed_for_now, result_delivered, host_failed, collect_failed, row_found, no_row, find_failed, put_failed, row_differs, job_repeated, store_failed, files_fetched, archive_differs, drop_failed, touch_failed, discard_failed, host_failed_late}
use Rattle.run_rules.specs.End.{End, fails_temporarily, fault_end, gives_up, settled_by, unfold_end, settled_from, settled}
use Rattle.run_rules.proofs.events.Known.{teaches, unfolding_stays}

pub or_else_assoc : (one two three : Option End) → or_else (or_else one two) three ≡ or_else one (or_else two three)
or_else_assoc None two three = refl
or_else_assoc (Some end) two three = refl

pub or_none : (o : Option End) → or_else o None ≡ o
or_none None = refl
or_none (Some end) = refl

none_first : (one two : Option End) → or_else one two ≡ None → one ≡ None
none_first None two none = refl
none_first (Some end) two none = none

none_second : (one two : Option End) → or_else one two ≡ None → two ≡ None
none_second None two none = none
none_second (Some end) two none = absurd cc

-- whether an event settles nothing: it is no failure, and nothing is known by it
abbrev pub is_quiet : Event → Bool
is_quiet (job_staged place number) = true
is_quiet (job_started place inputs launch ticket) = true
is_quiet (child_exited ticket) = true
is_quiet (result_delivered plan) = true
is_quiet collect_failed = true
is_quiet (no_row place) = true
is_quiet (put_failed place refusal) = true
is_quiet (store_failed place) = true
is_quiet (host_failed_late place fault) = true
is_quiet (job_repeated place) = true
is_quiet (files_fetched place number) = true
is_quiet (archive_differs place its_key number) = true
is_quiet (drop_failed place refusal) = true
is_quiet (touch_failed place refusal) = true
is_quiet (discard_failed place) = true
is_quiet _ = false

quiet_teaches_nothing : (e : Event) → is_quiet e ≡ true → teaches e ≡ false
quiet_teaches_nothing (file_measured path measure) quiet = absurd cc
quiet_teaches_nothing (job_succeeded place outputs) quiet = absurd cc
quiet_teaches_nothing (row_found place row) quiet = absurd cc
quiet_teaches_nothing _ quiet = refl

module _ (s : Scene) where
  pub settled_split : (acc xs ys : List Event) → settled_from s acc (xs ++ ys) ≡ or_else (settled_from s acc xs) (settled_from s (acc ++ xs) ys)
  settled_split acc [] ys = ap (λ (es : List Event). settled_from s es ys) (sym (append-nil acc))
  settled_split acc (x ∷ xs) ys =
      ap (λ (o : Option End). or_else (settled_by s acc x) (or_else (unfold_end s (acc ++ x ∷ [])) o))
      (settled_split (acc ++ x ∷ []) xs ys ∙ ap (λ (es : List Event). or_else (settled_from s (acc ++ x ∷ []) xs) (settled_from s es ys)) (append_assoc acc (x ∷ []) xs))
      ∙ ap (λ (o : Option End). or_else (settled_by s acc x) o) (sym (or_else_assoc (unfold_end s (acc ++ x ∷ [])) (settled_from s (acc ++ x ∷ []) xs) (settled_from s (acc ++ x ∷ xs) ys)))
      ∙ sym (or_else_assoc (settled_by s acc x) (or_else (unfold_end s (acc ++ x ∷ [])) (settled_from s (acc ++ x ∷ []) xs)) (settled_from s (acc ++ x ∷ xs) ys))

  -- with more events
  pub settled_after : (es new : List Event) → settled s (es ++ new) ≡ or_else (settled s es) (settled_from s es new)
  settled_after es new =
      ap (λ (o : Option End). or_else (unfold_end s []) o) (settled_split [] es new)
      ∙ sym (or_else_assoc (unfold_end s []) (settled_from s [] es) (settled_from s es new))

  -- an end that is settled stays
  pub settled_stays : (es new : List Event) (end : End) → settled s es ≡ Some end → settled s (es ++ new) ≡ Some end
  settled_stays es new end is = settled_after es new ∙ ap (λ (o : Option End). or_else o (settled_from s es new)) is

  -- where none is settled, what is known has no fault
  no_fault_from : (acc es : List Event) → or_else (unfold_end s acc) (settled_from s acc es) ≡ None → unfold_end s (acc ++ es) ≡ None
  no_fault_from acc [] none = ap (λ (es : List Event). unfold_end s es) (append-nil acc) ∙ none_first (unfold_end s acc) None none
  no_fault_from acc (e ∷ es) none =
      ap (λ (all : List Event). unfold_end s all) (sym (append_assoc acc (e ∷ []) es))
      ∙ no_fault_from (acc ++ e ∷ []) es
      (none_second (settled_by s acc e) (or_else (unfold_end s (acc ++ e ∷ [])) (settled_from s (acc ++ e ∷ []) es))
      (none_second (unfold_end s acc) (settled_from s acc (e ∷ es)) none))

  pub no_fault_unsettled : (es : List Event) → settled s es ≡ None → unfold_end s es ≡ None
  no_fault_unsettled es none = no_fault_from [] es none

  pub end_stays : (es new : List Event) → list_any teaches new ≡ false → unfold_end s (es ++ new) ≡ unfold_end s es
  end_stays es new none = ap (λ (u : Unfolded). fault_end u.fault) (unfolding_stays s es new none)

  -- Quiet events

  quiet_settles_nothing : (es : List Event) (e : Event) → is_quiet e ≡ true → settled_by s es e ≡ None
  quiet_settles_nothing es (file_measured path measure) quiet = refl
  quiet_settles_nothing es (job_staged place number) quiet = refl
  quiet_settles_nothing es (job_started place inputs launch ticket) quiet = refl
  quiet_settles_nothing es (child_exited ticket) quiet = refl
  quiet_settles_nothing es (job_succeeded place outputs) quiet = refl
  quiet_settles_nothing es (job_failed place cause) quiet = absurd cc
  quiet_settles_nothing es (job_failed_for_now place) quiet = absurd cc
  quiet_settles_nothing es (result_delivered plan) quiet = refl
  quiet_settles_nothing es (host_failed place fault) quiet = absurd cc
  quiet_settles_nothing es collect_failed quiet = refl
  quiet_settles_nothing es (row_found place row) quiet = refl
  quiet_settles_nothing es (no_row place) quiet = refl
  quiet_settles_nothing es (find_failed place refusal) quiet = absurd cc
  quiet_settles_nothing es (put_failed place refusal) quiet = refl
  quiet_settles_nothing es (store_failed place) quiet = refl
  quiet_settles_nothing es (host_failed_late place fault) quiet = refl
  quiet_settles_nothing es (row_differs place outputs) quiet = absurd cc
  quiet_settles_nothing es (job_repeated place) quiet = refl
  quiet_settles_nothing es (files_fetched place number) quiet = refl
  quiet_settles_nothing es (archive_differs place its_key number) quiet = refl
  quiet_settles_nothing es (drop_failed place refusal) quiet = refl
  quiet_settles_nothing es (touch_failed place refusal) quiet = refl
  quiet_settles_nothing es (discard_failed place) quiet = refl

  quiet_from : (es new : List Event) → list_all is_quiet new ≡ true → unfold_end s es ≡ None → settled_from s es new ≡ None
  quiet_from es [] quiet none = refl
  quiet_from es (e ∷ new) quiet none =
      let first : is_quiet e ≡ true = (and_parts (is_quiet e) (list_all is_quiet new) quiet).0 in
      let still : unfold_end s (es ++ e ∷ []) ≡ None = end_stays es (e ∷ []) (ap (λ b. b || false) (quiet_teaches_nothing e first)) ∙ none in
      ap (λ (o : Option End). or_else o (or_else (unfold_end s (es ++ e ∷ [])) (settled_from s (es ++ e ∷ []) new))) (quiet_settles_nothing es e first)
      ∙ ap (λ (o : Option End). or_else o (settled_from s (es ++ e ∷ []) new)) still
      ∙ quiet_from (es ++ e ∷ []) new (and_parts (is_quiet e) (list_all is_quiet new) quiet).1 still

  pub unsettled_quietly : (es new : List Event) → list_all is_quiet new ≡ true → settled s es ≡ None → settled s (es ++ new) ≡ None
  unsettled_quietly es new quiet none =
      settled_after es new
      ∙ ap (λ (o : Option End). or_else o (settled_from s es new)) none
      ∙ quiet_from es new quiet (no_fault_unsettled es none)

  quietly_by : (es new : List Event) (o : Option End) → list_all is_quiet new ≡ true → settled s es ≡ o → settled s (es ++ new) ≡ o
  quietly_by es new None quiet is = unsettled_quietly es new quiet is
  quietly_by es new (Some end) quiet is = settled_stays es new end is

  -- after them the end is what it was
  pub settled_quietly : (es new : List Event) → list_all is_quiet new ≡ true → settled s (es ++ new) ≡ settled s es
  settled_quietly es new quiet = quietly_by es new (settled s es) quiet refl

  -- One event more

  pub settled_more : (es : List Event) (e : Event) → settled s es ≡ None → settled s (es ++ e ∷ []) ≡ or_else (settled_by s es e) (unfold_end s (es ++ e ∷ []))
  settled_more es e still =
      settled_after es (e ∷ [])
      ∙ ap (λ (o : Option End). or_else o (settled_from s es (e ∷ []))) still
      ∙ ap (λ (o : Option End). or_else (settled_by s es e) o) (or_none (unfold_end s (es ++ e ∷ [])))

  -- the same after quiet ones, of one step
  pub settled_at_last : (es quiet : List Event) (e : Event) → list_all is_quiet quiet ≡ true → settled s es ≡ None →
      settled s (es ++ (quiet ++ e ∷ [])) ≡ or_else (settled_by s (es ++ quiet) e) (unfold_end s (es ++ (quiet ++ e ∷ [])))
  settled_at_last es quiet e are still =
      let longer : (es ++ quiet) ++ e ∷ [] ≡ es ++ (quiet ++ e ∷ []) = append_assoc es quiet (e ∷ []) in
      subst (λ (all : List Event). settled s all ≡ or_else (settled_by s (es ++ quiet) e) (unfold_end s all)) longer
      (settled_more (es ++ quiet) e (unsettled_quietly es quiet are still))

  -- a failure for now settles the end where the job was started again often enough
  pub settled_for_now : (es : List Event) (place : JobPlace) → settled s es ≡ None →
      settled s (es ++ job_failed_for_now place ∷ []) ≡ cond (nat_lt (length (filter (gives_up place) es)) s.options.retries) None (Some (fails_temporarily place))
  settled_for_now es place still =
      settled_more es (job_failed_for_now place) still
      ∙ ap (λ (o : Option End). or_else (settled_by s es (job_failed_for_now place)) o)
      (end_stays es (job_failed_for_now place ∷ []) refl ∙ no_fault_unsettled es still)
      ∙ or_none (settled_by s es (job_failed_for_now place))

-- The tickets that a host gives in a run rise.
use Rattle.std.specs.Prelude.{◌<◌, ◌≤◌, Contains, filter_map}
use Rattle.std.proofs.Common.{◌≡◌, ◌∙◌, inl, inr, ℕ, ◌+◌, cond, List, [], ◌∷◌, ◌++◌, get_or, Result, Ok, Err, IfOk, refl, sym, ap, subst, arith}
use Rattle.std.specs.declared.alloc.AllocError.{AllocError}
use Rattle.std.proofs.lemmas.List.{append-nil}
use Rattle.std.proofs.lemmas.List.Elements.{Contains-push_cases}
use Rattle.std.proofs.lemmas.List.Quantifiers.{all_pairs_push}
use Rattle.std.proofs.lemmas.List.Sums.{sum_by-append}
use Rattle.proc_host.specs.Log.{answer_behind, answer_behind_error, is_start, starts}
use Rattle.proc_host.specs.declared.call.Entry.{Entry}
use Rattle.proc_host.specs.declared.call.HostAnswer.{HostAnswer}
use Rattle.proc_host.specs.declared.call.HostError.{HostError}
use Rattle.run_rules.specs.Blame.{Rise, given_tickets, logged_answers, ticket_in}
use Rattle.run_rules.proofs.Rising.{given_more, none_rise, same_read}
use Rattle.workflow_engine.specs.Gains.{answered}
use Rattle.workflow_engine.specs.inner.Numbered.{AreNumbered, IsNumbered}

-- What a call that starts no child answers has no number

module _ (before : ℕ) where
  pub plain_error : (error : HostError) (result : Result HostAnswer AllocError) → result ≡ answered (answer_behind_error error) → IfOk result (IsNumbered before)
  plain_error (HostError.Fault fault) result is = subst (λ (r : Result HostAnswer AllocError). IfOk r (IsNumbered before)) (sym is) tt
  plain_error HostError.OutOfMemory result is = subst (λ (r : Result HostAnswer AllocError). IfOk r (IsNumbered before)) (sym is) tt

  pub plain_answer : {T : Type 0} (answer : T → HostAnswer) (r : Result T HostError) (result : Result HostAnswer AllocError) →
      result ≡ answered (answer_behind answer r) → ((x : T) → IsNumbered before (answer x)) → IfOk result (IsNumbered before)
  plain_answer answer (Ok x) result is plain = subst (λ (r : Result HostAnswer AllocError). IfOk r (IsNumbered before)) (sym is) (plain x)
  plain_answer answer (Err error) result is plain = plain_error error result is

-- How the tickets go on

pub starts-append : (before gained : List Entry) → starts (before ++ gained) ≡ starts before + starts gained
starts-append before gained = sum_by-append (λ (entry : Entry). cond (is_start entry.answer) 1 0) before gained

pub none_numbered : (before : ℕ) → AreNumbered before []
none_numbered before = record { rising = none_rise; within = λ ticket there. absurd (omega (arith, there.1)) }

module _ (before : ℕ) (entries : List Entry) (entry : Entry) (so_far : AreNumbered before entries) where
  abbrev more : List Entry
  more = entries ++ entry ∷ []

  given : (answer : HostAnswer) → entry.answer ≡ answer → given_tickets more ≡ given_tickets entries ++ filter_map ticket_in (answer ∷ [])
  given answer is =
      given_more entries more entry.answer (map_push entries entry) ∙ ap (λ (a : HostAnswer). given_tickets entries ++ filter_map ticket_in (a ∷ [])) is
    where
      map_push : (es : List Entry) (e : Entry) → logged_answers (es ++ e ∷ []) ≡ logged_answers es ++ e.answer ∷ []
      map_push [] e = refl
      map_push (x ∷ es) e = ap (λ (rest : List HostAnswer). x.answer ∷ rest) (map_push es e)

  no_fewer : starts entries ≤ starts more
  no_fewer = omega (arith, starts-append entries (entry ∷ []))

  -- no child was started
  none_given : given_tickets more ≡ given_tickets entries → AreNumbered before more
  none_given same = record {
    rising = subst Rise (sym same) so_far.rising;
    within = λ ticket there.
        let low : ticket ≤ before + starts entries = so_far.within ticket (subst (λ (ns : List ℕ). Contains ns ticket) same there) in
        omega (arith, low, no_fewer);
  }

  one_given : (ticket : ℕ) → entry.answer ≡ HostAnswer.Started ticket → ticket ≡ before + starts entries + 1 → AreNumbered before more
  one_given ticket is next =
      let more_is : given_tickets more ≡ given_tickets entries ++ ticket ∷ [] = given (HostAnswer.Started ticket) is in
      let counted : starts (entry ∷ []) ≡ 1 = ap (λ (answer : HostAnswer). 0 + cond (is_start answer) 1 0) is in
      record {
        rising = subst Rise (sym more_is) (all_pairs_push (λ one later. one < later) (given_tickets entries) ticket so_far.rising (λ k d within.
            let n : ℕ = get_or (given_tickets entries) k d in
            let low : n ≤ before + starts entries = so_far.within n (k, within, same_read (given_tickets entries) k d within) in
            omega (arith, low, next)));
        within = λ n there. elim (Contains-push_cases (given_tickets entries) ticket n (subst (λ (ns : List ℕ). Contains ns n) more_is there)) [
          | inl old ↦ let low : n ≤ before + starts entries = so_far.within n old in omega (arith, low, no_fewer)
          | inr same ↦ omega (arith, same, next, counted, starts-append entries (entry ∷ []))
        ];
      }

  by_answer : (answer : HostAnswer) → entry.answer ≡ answer → IsNumbered (before + starts entries) answer → AreNumbered before more
  by_answer (HostAnswer.Started ticket) is next = one_given ticket is next
  by_answer HostAnswer.Done is next = none_given (given HostAnswer.Done is ∙ append-nil (given_tickets entries))
  by_answer (HostAnswer.Measured measure) is next = none_given (given (HostAnswer.Measured measure) is ∙ append-nil (given_tickets entries))
  by_answer (HostAnswer.Ended ending) is next = none_given (given (HostAnswer.Ended ending) is ∙ append-nil (given_tickets entries))
  by_answer (HostAnswer.Listed found) is next = none_given (given (HostAnswer.Listed found) is ∙ append-nil (given_tickets entries))
  by_answer (HostAnswer.FirstBytes bytes) is next = none_given (given (HostAnswer.FirstBytes bytes) is ∙ append-nil (given_tickets entries))
  by_answer (HostAnswer.Fetched found) is next = none_given (given (HostAnswer.Fetched found) is ∙ append-nil (given_tickets entries))
  by_answer (HostAnswer.Failed fault) is next = none_given (given (HostAnswer.Failed fault) is ∙ append-nil (given_tickets entries))

  -- one more call
  pub numbered_more : IsNumbered (before + starts entries) entry.answer → AreNumbered before more
  numbered_more next = by_answer entry.answer refl next

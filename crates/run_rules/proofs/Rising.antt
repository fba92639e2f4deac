-- The children in flight were started, in the order of their tickets where a host gives rising ones.
use Rattle.std.specs.Prelude.{◌<◌, not, Contains, filter_map, slice_index_or}
use Rattle.std.specs.List.{cons_option}
use Rattle.std.proofs.Common.{◌≡◌, ◌∙◌, inl, inr, ℕ, zero, suc, ◌+◌, ◌==◌, Bool, true, false, cond, List, [], ◌∷◌, ◌++◌, length, get_or, Option, Some, None, refl, sym, ap, subst, arith, length-append}
use Rattle.std.proofs.Math.Seq.{get_or-append_seam}
use Rattle.std.proofs.lemmas.List.{get_or_append_left}
use Rattle.std.proofs.lemmas.List.Elements.{Contains-append_left, Contains-push, Contains-push_cases, filter_map-append}
use Rattle.std.proofs.lemmas.List.Kept.{AllPairs-filter}
use Rattle.std.proofs.lemmas.List.Quantifiers.{all_pairs_push}
use Rattle.proc_host.specs.Answers.{flying_with}
use Rattle.proc_host.specs.Tickets.{without}
use Rattle.proc_host.specs.declared.call.Entry.{Entry}
use Rattle.proc_host.specs.declared.call.HostAnswer.{HostAnswer}
use Rattle.run_rules.specs.Blame.{Rise, WereStarted, given_tickets, logged_answers, ticket_in}

abbrev IsBelow : ℕ → ℕ → Type 0
IsBelow one later = one < later

-- Rising lists

pub front_rises : (xs ys : List ℕ) → Rise (xs ++ ys) → Rise xs
front_rises xs ys rises i j d before within =
    let there : j < length (xs ++ ys) = omega (arith, within, length-append xs ys) in
    let low : get_or (xs ++ ys) i d ≡ get_or xs i d = get_or_append_left xs ys d i (omega (arith, before, within)) in
    let high : get_or (xs ++ ys) j d ≡ get_or xs j d = get_or_append_left xs ys d j within in
    let is : get_or (xs ++ ys) i d < get_or (xs ++ ys) j d = rises i j d before there in
    omega (arith, low, high, is)

-- the last of them is above all others
last_is_above : (xs : List ℕ) (y x : ℕ) → Rise (xs ++ y ∷ []) → Contains xs x → x < y
last_is_above xs y x rises there =
    let all : length (xs ++ y ∷ []) ≡ length xs + 1 = length-append xs (y ∷ []) in
    let is : get_or (xs ++ y ∷ []) there.0 x < get_or (xs ++ y ∷ []) (length xs) x = rises there.0 (length xs) x there.1 (omega (arith, all)) in
    let low : get_or (xs ++ y ∷ []) there.0 x ≡ get_or xs there.0 x = get_or_append_left xs (y ∷ []) x there.0 there.1 in
    let its : get_or xs there.0 x ≡ x = there.2 in
    let last : get_or (xs ++ y ∷ []) (length xs) x ≡ y = get_or-append_seam xs y [] x in
    omega (arith, is, low, its, last)

pub none_rise : Rise []
none_rise i j d before within = absurd (omega (arith, within))

-- an element is there
pub same_read : (ns : List ℕ) (k d : ℕ) → k < length ns → slice_index_or ns k (get_or ns k d) ≡ get_or ns k d
same_read [] k d within = absurd (omega (arith, within))
same_read (n ∷ ns) zero d within = refl
same_read (n ∷ ns) (suc k) d within = same_read ns k d (omega (arith, within))

-- Tickets that were given

in_later : (o : Option ℕ) (tickets : List ℕ) (ticket : ℕ) → Contains tickets ticket → Contains (cons_option o tickets) ticket
in_later None tickets ticket there = there
in_later (Some x) tickets ticket there = (suc there.0, omega (arith, there.1), there.2)

in_given : (answers : List HostAnswer) (ticket : ℕ) → Contains answers (HostAnswer.Started ticket) → Contains (filter_map ticket_in answers) ticket
in_given [] ticket there = absurd (omega (arith, there.1))
in_given (answer ∷ answers) ticket (zero, within, is) =
    subst (λ (a : HostAnswer). Contains (filter_map ticket_in (a ∷ answers)) ticket) (sym is) (0, omega arith, refl)
in_given (answer ∷ answers) ticket (suc k, within, is) =
    in_later (ticket_in answer) (filter_map ticket_in answers) ticket (in_given answers ticket (k, omega (arith, within), is))

left_by : (b : Bool) (x n : ℕ) (rest all : List ℕ) → Contains (cond b (x ∷ rest) rest) n → (Contains rest n → Contains all n) → Contains (x ∷ all) n
left_by true x n rest all (zero, within, is) later = (0, omega arith, is)
left_by true x n rest all (suc k, within, is) later =
    let there : Contains all n = later (k, omega (arith, within), is) in (suc there.0, omega (arith, there.1), there.2)
left_by false x n rest all there later = let its : Contains all n = later there in (suc its.0, omega (arith, its.1), its.2)

-- what is left was there
left_there : (ticket : ℕ) (tickets : List ℕ) (n : ℕ) → Contains (without ticket tickets) n → Contains tickets n
left_there ticket [] n there = there
left_there ticket (x ∷ tickets) n there = left_by (not (x == ticket)) x n (without ticket tickets) tickets there (left_there ticket tickets n)

-- Children in flight

pub none_started : (entries : List Entry) → WereStarted entries []
none_started entries = record { each = λ ticket there. absurd (omega (arith, there.1)); rising = λ rise. none_rise }

module _ (entries more : List Entry) (answer : HostAnswer) (is : logged_answers more ≡ logged_answers entries ++ answer ∷ []) where
  pub given_more : given_tickets more ≡ given_tickets entries ++ filter_map ticket_in (answer ∷ [])
  given_more = ap (filter_map ticket_in) is ∙ filter_map-append ticket_in (logged_answers entries) (answer ∷ [])

  rose_before : Rise (given_tickets more) → Rise (given_tickets entries)
  rose_before rises = front_rises (given_tickets entries) (filter_map ticket_in (answer ∷ [])) (subst Rise given_more rises)

  pub told_still : (its : HostAnswer) → Contains (logged_answers entries) its → Contains (logged_answers more) its
  told_still its there = subst (λ (all : List HostAnswer). Contains all its) (sym is) (Contains-append_left (logged_answers entries) (answer ∷ []) its there)

  -- they were so still
  pub started_still : (tickets : List ℕ) → WereStarted entries tickets → WereStarted more tickets
  started_still tickets began = record {
    each = λ ticket there. told_still (HostAnswer.Started ticket) (began.each ticket there);
    rising = λ rises. began.rising (rose_before rises);
  }

  -- one more was started
  one_more : (tickets : List ℕ) (ticket : ℕ) → answer ≡ HostAnswer.Started ticket → WereStarted entries tickets → WereStarted more (tickets ++ ticket ∷ [])
  one_more tickets ticket starts began = record {
    each = λ n there. elim (Contains-push_cases tickets ticket n there) [
      | inl before ↦ told_still (HostAnswer.Started n) (began.each n before)
      | inr same ↦ subst (λ (all : List HostAnswer). Contains all (HostAnswer.Started n)) (sym is)
          (subst (λ (its : HostAnswer). Contains (logged_answers entries ++ its ∷ []) (HostAnswer.Started n)) (ap HostAnswer.Started (sym same) ∙ sym starts)
          (Contains-push (logged_answers entries) (HostAnswer.Started n)))
    ];
    rising = λ rises.
        let all : Rise (given_tickets entries ++ ticket ∷ []) =
        subst (λ (its : HostAnswer). Rise (given_tickets entries ++ filter_map ticket_in (its ∷ []))) starts (subst Rise given_more rises) in
        all_pairs_push IsBelow tickets ticket (began.rising (rose_before rises))
        (λ k d within.
        let n : ℕ = get_or tickets k d in
        last_is_above (given_tickets entries) ticket n all
        (in_given (logged_answers entries) n (began.each n (k, within, same_read tickets k d within))));
  }

  -- one has ended
  one_less : (tickets : List ℕ) (ticket : ℕ) → WereStarted entries tickets → WereStarted more (without ticket tickets)
  one_less tickets ticket began = record {
    each = λ n there. told_still (HostAnswer.Started n) (began.each n (left_there ticket tickets n there));
    rising = λ rises. AllPairs-filter IsBelow (λ n. not (n == ticket)) tickets (began.rising (rose_before rises));
  }

-- those in flight after an answer were started
pub flown : (entries more : List Entry) (answer : HostAnswer) → logged_answers more ≡ logged_answers entries ++ answer ∷ [] → (flying : List ℕ) → WereStarted entries flying →
    WereStarted more (flying_with flying answer)
flown entries more (HostAnswer.Started ticket) is flying began = one_more entries more (HostAnswer.Started ticket) is flying ticket refl began
flown entries more (HostAnswer.Ended ending) is flying began = one_less entries more (HostAnswer.Ended ending) is flying ending.ticket began
flown entries more HostAnswer.Done is flying began = started_still entries more HostAnswer.Done is flying began
flown entries more (HostAnswer.Measured measure) is flying began = started_still entries more (HostAnswer.Measured measure) is flying began
flown entries more (HostAnswer.Listed found) is flying began = started_still entries more (HostAnswer.Listed found) is flying began
flown entries more (HostAnswer.FirstBytes bytes) is flying began = started_still entries more (HostAnswer.FirstBytes bytes) is flying began
flown entries more (HostAnswer.Fetched found) is flying began = started_still entries more (HostAnswer.Fetched found) is flying began
flown entries more (HostAnswer.Failed fault) is flying began = started_still entries more (HostAnswer.Failed fault) is flying began

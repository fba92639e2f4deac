-- What looks leave: the map of the record, the children that run, and the machine at rest.
use Rattle.std.specs.Prelude.{◌≢◌, IfOk, OnOk}
use Rattle.std.proofs.Common.{◌≡◌, ◌∙◌, ℕ, true, false, List, [], ◌∷◌, ◌++◌, None, Result, Ok, Err, refl, sym, ap, subst, append-nil}
use Rattle.std.proofs.lemmas.Bool.{and_from, and_parts}
use Rattle.std.proofs.lemmas.List.Elements.{filter_map-append}
use Rattle.std.proofs.lemmas.List.Folds.{list_all-append}
use Rattle.std.specs.declared.alloc.AllocError.{AllocError}
use Rattle.job_graph.specs.Words.{JobPlace}
use Rattle.job_rows.specs.Map.{RowMap, Change, changed_by_all}
use Rattle.job_rows.specs.Storable.{IsKept}
use Rattle.proc_host.specs.Answers.{CanAnswer, flying_with, has_ended, has_failed, is_measured, is_started}
use Rattle.proc_host.specs.declared.call.Entry.{Entry}
use Rattle.proc_host.specs.declared.call.HostAnswer.{HostAnswer}
use Rattle.proc_host.specs.declared.call.HostRequest.{HostRequest}
use Rattle.run_rules.specs.Answers.{MayAnswer, by_host, by_record, flying_after}
use Rattle.run_rules.specs.PlannedFirst.{are_looks, is_look}
use Rattle.run_core.specs.Core.{IsAtRest, IsLost}
use Rattle.run_core.specs.Machine.{Machine}
use Rattle.run_rules.specs.Recorded.{Line, command_entry, lines_of}
use Rattle.run_rules.specs.Reports.{entries_of, entry_of}
use Rattle.run_rules.specs.declared.outcome.RunFault.{RunFault}
use Rattle.run_rules.specs.declared.request.Answer.{Answer}
use Rattle.run_rules.specs.declared.request.Pair.{Pair}
use Rattle.run_rules.specs.declared.request.RecordAnswer.{RecordAnswer}
use Rattle.run_rules.specs.declared.request.RecordRequest.{RecordRequest}
use Rattle.run_rules.specs.declared.request.Request.{Request}
use Rattle.workflow_engine.specs.ByMap.{KeepsToMap, change_by, changes_of}
use Rattle.workflow_engine.specs.Gains.{commands_by, entries_by}
use Rattle.workflow_engine.specs.inner.Looks.{IsMeasure, Looks}
use Rattle.workflow_engine.specs.inner.Mapped.{IsPut, pairs_by}
use Rattle.workflow_engine.specs.inner.Told.{IsTold, MayBeTold, flying_told}
use Rattle.workflow_engine.proofs.ByMap.{kept_on, nothing_kept}
use Rattle.workflow_engine.proofs.Telling.{grown_on}

-- ---- looks leave the map

changes_none : (request : Request) (answer : Answer) → is_look request ≡ true → change_by request answer ≡ None
changes_none (Request.Record place (RecordRequest.Find key)) (Answer.Record (RecordAnswer.Found row)) look = refl
changes_none (Request.Record place (RecordRequest.Find key)) (Answer.Record (RecordAnswer.Refused refusal)) look = refl
changes_none (Request.Record place (RecordRequest.Find key)) (Answer.Record RecordAnswer.Done) look = refl
changes_none (Request.Record place (RecordRequest.Find key)) (Answer.Record (RecordAnswer.Put gone)) look = refl
changes_none (Request.Record place (RecordRequest.Find key)) (Answer.Host answer) look = refl
changes_none (Request.Record place (RecordRequest.Put row)) answer look = absurd cc
changes_none (Request.Record place (RecordRequest.Touch key)) answer look = absurd cc
changes_none (Request.Record place (RecordRequest.DropArchive key)) answer look = absurd cc
changes_none (Request.Host place request) answer look = refl
changes_none Request.Finished answer look = refl

no_changes : (t : List Pair) → are_looks t ≡ true → changes_of t ≡ []
no_changes [] looks = refl
no_changes (pair ∷ t) looks =
    let both = and_parts (is_look pair.request) (are_looks t) looks in
    rw (changes_none pair.request pair.answer both.0) (no_changes t both.1)

pub stays_all : (t : List Pair) (holds : RowMap → Type 0) (map : RowMap) → are_looks t ≡ true → holds (changed_by_all (changes_of t) map) → holds map
stays_all t holds map looks held = subst (λ (changes : List Change). holds (changed_by_all changes map)) (no_changes t looks) held

-- ---- one look more

module _ (before : List Entry) (lines_before : List Line) (sound_before : Type 0) (held : RowMap → Type 0) (old : Machine) where
  pub no_look : Looks before before lines_before lines_before sound_before sound_before held held old old
  no_look = record {
    asked = [];
    looks = refl;
    setting = refl;
    transcript = sym (append-nil old.transcript);
    logged = sym (append-nil before);
    recorded = sym (append-nil lines_before);
    by_map = nothing_kept sound_before held [] refl;
  }

  module _ (after : List Entry) (lines_after : List Line) (sound_after : Type 0) (holds : RowMap → Type 0) (new : Machine) where
    by_told : (told : Result Answer AllocError) → is_look old.asks ≡ true → IsTold old told new → after ≡ before ++ entries_by old.asks told →
        lines_after ≡ lines_before ++ commands_by old.asks told → KeepsToMap sound_before sound_after held holds (pairs_by old.asks told) →
        Looks before after lines_before lines_after sound_before sound_after held holds old new
    by_told (Ok answer) look its logged recorded kept = record {
      asked = record { request = old.asks; answer = answer } ∷ [];
      looks = and_from (is_look old.asks) true look refl;
      setting = its.setting;
      transcript = its.pairs;
      logged = logged;
      recorded = recorded;
      by_map = kept;
    }
    by_told (Err error) look its logged recorded kept = record {
      asked = [];
      looks = refl;
      setting = its.setting;
      transcript = its.pairs;
      logged = logged;
      recorded = recorded;
      by_map = kept;
    }

    pub looked_once : (asks : Request) (told : Result Answer AllocError) → asks ≡ old.asks → is_look old.asks ≡ true → IsTold old told new → after ≡ before ++ entries_by asks told →
        lines_after ≡ lines_before ++ commands_by asks told → KeepsToMap sound_before sound_after held holds (pairs_by asks told) →
        Looks before after lines_before lines_after sound_before sound_after held holds old new
    looked_once asks told same look its logged recorded kept =
        by_told told look its (logged ∙ ap (λ (a : Request). before ++ entries_by a told) same) (recorded ∙ ap (λ (a : Request). lines_before ++ commands_by a told) same)
        (subst (λ (a : Request). KeepsToMap sound_before sound_after held holds (pairs_by a told)) same kept)

    -- and then more
    pub looks_on : (later : List Entry) (lines_later : List Line) (sound_later : Type 0) (has : RowMap → Type 0) (next : Machine) →
        Looks before after lines_before lines_after sound_before sound_after held holds old new →
        Looks after later lines_after lines_later sound_after sound_later holds has new next →
        Looks before later lines_before lines_later sound_before sound_later held has old next
    looks_on later lines_later sound_later has next one two = record {
      asked = one.asked ++ two.asked;
      looks = list_all-append (λ (p : Pair). is_look p.request) one.asked two.asked ∙ and_from (are_looks one.asked) (are_looks two.asked) one.looks two.looks;
      setting = two.setting ∙ one.setting;
      transcript = grown_on old.transcript new.transcript next.transcript one.asked (one.asked ++ two.asked) two.asked two.transcript one.transcript refl;
      logged = grown_on before after later (entries_of one.asked) (entries_of (one.asked ++ two.asked)) (entries_of two.asked) two.logged one.logged
          (filter_map-append entry_of one.asked two.asked);
      recorded = grown_on lines_before lines_after lines_later (lines_of one.asked) (lines_of (one.asked ++ two.asked)) (lines_of two.asked) two.recorded one.recorded
          (filter_map-append (λ (p : Pair). command_entry p.request p.answer) one.asked two.asked);
      by_map = kept_on sound_before sound_after sound_later held holds has one.asked two.asked (one.asked ++ two.asked) one.by_map two.by_map refl;
    }

none_fly : (place : JobPlace) {request : HostRequest} {answer : HostAnswer} → is_look (Request.Host place request) ≡ true → CanAnswer [] request answer → flying_with [] answer ≡ []
none_fly place look (is_started launch ticket fresh) = absurd cc
none_fly place look (has_ended ending runs) = absurd cc
none_fly place look (is_measured path measure) = refl
none_fly place look (has_failed request) = refl
none_fly place look _ = absurd cc

none_flies : {asks : Request} {answer : Answer} → is_look asks ≡ true → MayAnswer [] asks answer → flying_after [] answer ≡ []
none_flies look (by_host place request answer can) = none_fly place look can
none_flies look (by_record place request answer can) = refl

-- no child is in flight after it, as none was before
pub flies_no_more : (flying : List ℕ) (asks : Request) (told : Result Answer AllocError) → flying ≡ [] → is_look asks ≡ true → IfOk told (MayAnswer [] asks) → flying_told flying told ≡ []
flies_no_more flying asks (Ok answer) none look may = ap (λ (ns : List ℕ). flying_after ns answer) none ∙ none_flies look may
flies_no_more flying asks (Err error) none look may = none

pub no_end : (asks : Request) → is_look asks ≡ true → asks ≢ Request.Finished
no_end asks look is = let never : true ≡ false = sym look ∙ ap is_look is in cc

-- no row is put by it
pub no_put_by_look : (place : JobPlace) (request : RecordRequest) → is_look (Request.Record place request) ≡ true → IsPut IsKept request
no_put_by_look place (RecordRequest.Find key) look = tt
no_put_by_look place _ look = absurd cc

-- a request of the host that is a look is a measure
pub measures : (place : JobPlace) (request : HostRequest) → is_look (Request.Host place request) ≡ true → IsMeasure request
measures place (HostRequest.Measure path) look = tt
measures place _ look = absurd cc

-- ---- what the machine is told of it

pub may_be_told : (core : Machine) (asks : Request) (told : Result Answer AllocError) → asks ≡ core.asks → is_look core.asks ≡ true → IsAtRest core → IfOk told (MayAnswer [] asks) →
    MayBeTold core told
may_be_told core asks (Ok answer) same look rest may = record {
  asks = no_end core.asks look;
  answers = subst (λ (ns : List ℕ). MayAnswer ns core.asks answer) (sym (rest.none_in_flight (no_end core.asks look))) (subst (λ (a : Request). MayAnswer [] a answer) same may);
}
may_be_told core asks (Err error) same look rest may = record { asks = no_end core.asks look; answers = tt }

rests_by : (new : Machine) (result : Result (Unit {0}) RunFault) (flying : List ℕ) → OnOk result (IsLost new → ⊥) → (new.asks ≢ Request.Finished → new.flying ≡ flying) → flying ≡ [] →
    OnOk result (IsAtRest new)
rests_by new (Ok done) flying going flies none = record { not_lost = going; none_in_flight = λ asks. flies asks ∙ none }
rests_by new (Err fault) flying going flies none = tt

pub rests_on : (old new : Machine) (asks : Request) (told : Result Answer AllocError) (result : Result (Unit {0}) RunFault) → asks ≡ old.asks → is_look old.asks ≡ true → IsAtRest old →
    IfOk told (MayAnswer [] asks) → IsTold old told new → OnOk result (IsLost new → ⊥) → OnOk result (IsAtRest new)
rests_on old new asks told result same look rest may its going =
    rests_by new result (flying_told old.flying told) going its.flying
    (flies_no_more old.flying asks told (rest.none_in_flight (no_end old.asks look)) (ap is_look same ∙ look) may)

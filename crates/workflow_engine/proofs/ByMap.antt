-- What a record answers by its map, one command after another.
use Rattle.std.specs.Prelude.{Contains}
use Rattle.std.specs.declared.alloc.AllocError.{AllocError}
use Rattle.std.proofs.Common.{◌≡◌, ◌∙◌, ◌++◌, ◌∷◌, [], inl, inr, ℕ, zero, List, Option, Result, Ok, Err, refl, sym, ap, subst, arith}
use Rattle.std.proofs.lemmas.List.Elements.{Contains-append_left, Contains-append_right, Contains-append_cases, filter_map-append}
use Rattle.job_graph.specs.Words.{Fields, JobPlace}
use Rattle.job_rows.specs.Map.{RowMap, Change, Finds, Puts, Touches, Drops, changed_by, changed_by_all}
use Rattle.job_rows.specs.Storable.{IsKept}
use Rattle.job_rows.specs.declared.refusal.RecordError.{RecordError}
use Rattle.job_rows.specs.declared.refusal.RecordError.TheVariants as error
use Rattle.job_rows.specs.declared.refusal.RecordRefusal.TheVariants.{NotARecord, WrongVersion, NoRow, Store, UsesSpent}
use Rattle.job_rows.specs.declared.row.Row.{Row}
use Rattle.proc_host.specs.declared.call.HostRequest.{HostRequest}
use Rattle.run_rules.specs.Steps.{command}
use Rattle.run_rules.proofs.TranscriptTells.{none_in, only_in}
use Rattle.run_rules.specs.declared.request.Answer.{Answer}
use Rattle.run_rules.specs.declared.request.Pair.{Pair}
use Rattle.run_rules.specs.declared.request.RecordAnswer.{RecordAnswer}
use Rattle.run_rules.specs.declared.request.RecordRequest.{RecordRequest}
use Rattle.run_rules.specs.declared.request.RecordRequest.TheVariants.{Find, Put, Touch, DropArchive}
use Rattle.run_rules.specs.declared.request.Request.{Request}
use Rattle.workflow_engine.specs.ByMap.{ArePairsBy, KeepsToMap, change_by, changes_of}
use Rattle.workflow_engine.specs.Gains.{done_by, found_by, kept_by}
use Rattle.workflow_engine.specs.inner.Mapped.{ArePut, IsPut, IsToldBy, KeepsToMapIfRead, pairs_by}

-- ---- one command

pub find_by : (Holds : RowMap → Type 0) (map : RowMap) (key : List ℕ) (outcome : Result (Option Row) RecordError) → Finds map key outcome × Holds map →
    IsToldBy map (Find key) (found_by outcome) Holds
find_by Holds map key (Ok row) h = λ read. h
find_by Holds map key (Err (error.Refused refusal)) h = λ read. h
find_by Holds map key (Err error.OutOfMemory) h = h.1

pub put_by : (Holds : RowMap → Type 0) (map : RowMap) (row : Row) (outcome : Result (List (List ℕ)) RecordError) → Puts Holds map row outcome →
    IsToldBy map (Put row) (kept_by outcome) Holds
put_by Holds map row (Ok gone) h = λ read. ((h.0, h.1), h.2 read)
put_by Holds map row (Err (error.Refused NotARecord)) h = absurd h
put_by Holds map row (Err (error.Refused WrongVersion)) h = absurd h
put_by Holds map row (Err (error.Refused NoRow)) h = absurd h
put_by Holds map row (Err (error.Refused Store)) h = λ read. (tt, h)
put_by Holds map row (Err (error.Refused UsesSpent)) h = λ read. ((h.0, h.1), h.2)
put_by Holds map row (Err error.OutOfMemory) h = h

pub touch_by : (Holds : RowMap → Type 0) (map : RowMap) (key : List ℕ) (outcome : Result (Unit {0}) RecordError) → Touches Holds map key outcome →
    IsToldBy map (Touch key) (done_by outcome) Holds
touch_by Holds map key (Ok done) h = λ read. ((h.0, h.1), h.2)
touch_by Holds map key (Err (error.Refused NotARecord)) h = absurd h
touch_by Holds map key (Err (error.Refused WrongVersion)) h = absurd h
touch_by Holds map key (Err (error.Refused NoRow)) h = λ read. h
touch_by Holds map key (Err (error.Refused Store)) h = λ read. (tt, h)
touch_by Holds map key (Err (error.Refused UsesSpent)) h = λ read. ((h.0, h.1), h.2)
touch_by Holds map key (Err error.OutOfMemory) h = h

pub drop_by : (Holds : RowMap → Type 0) (map : RowMap) (key : List ℕ) (outcome : Result (Unit {0}) RecordError) → Drops Holds map key outcome →
    IsToldBy map (DropArchive key) (done_by outcome) Holds
drop_by Holds map key (Ok done) h = λ read. h
drop_by Holds map key (Err (error.Refused NotARecord)) h = absurd h
drop_by Holds map key (Err (error.Refused WrongVersion)) h = absurd h
drop_by Holds map key (Err (error.Refused NoRow)) h = λ read. h
drop_by Holds map key (Err (error.Refused Store)) h = λ read. (tt, h)
drop_by Holds map key (Err (error.Refused UsesSpent)) h = absurd h
drop_by Holds map key (Err error.OutOfMemory) h = h

-- ---- one after another

changed_more : (changes more : List Change) (map : RowMap) → changed_by_all (changes ++ more) map ≡ changed_by_all more (changed_by_all changes map)
changed_more [] more map = refl
changed_more (change ∷ changes) more map = changed_more changes more (changed_by change map)

map_after : (t more : List Pair) (map : RowMap) → changed_by_all (changes_of (t ++ more)) map ≡ changed_by_all (changes_of more) (changed_by_all (changes_of t) map)
map_after t more map =
    ap (λ (changes : List Change). changed_by_all changes map) (filter_map-append (λ (pair : Pair). change_by pair.request pair.answer) t more)
    ∙ changed_more (changes_of t) (changes_of more) map

pairs_more : (t more : List Pair) (map : RowMap) → ArePairsBy map t → ArePairsBy (changed_by_all (changes_of t) map) more → ArePairsBy map (t ++ more)
pairs_more [] more map one two = two
pairs_more (pair ∷ t) more map one two =
    (one.0, pairs_more t more (changed_by_all (changes_of (pair ∷ [])) map) one.1 (subst (λ (m : RowMap). ArePairsBy m more) (map_after (pair ∷ []) t map) two))

-- ---- a record that keeps to its map

-- nothing was asked of it
pub nothing_kept : (sound : Type 0) (holds : RowMap → Type 0) (t : List Pair) → t ≡ [] → KeepsToMap sound sound holds holds t
nothing_kept sound holds t none =
    subst (KeepsToMap sound sound holds holds) (sym none) (record { sound = λ h. h; answers = λ h map held. tt; by_map = λ h map held. held })

-- something of the host
pub kept_by_host : (sound : Type 0) (holds : RowMap → Type 0) (place : JobPlace) (request : HostRequest) (told : Result Answer AllocError) →
    KeepsToMap sound sound holds holds (pairs_by (Request.Host place request) told)
kept_by_host sound holds place request (Ok answer) = record { sound = λ h. h; answers = λ h map held. (tt, tt); by_map = λ h map held. held }
kept_by_host sound holds place request (Err error) = nothing_kept sound holds [] refl

-- a command
pub kept_by_record : (before after : Type 0) (held holds : RowMap → Type 0) (place : JobPlace) (request : RecordRequest) (answer : RecordAnswer) → (after → before) →
    (after → (map : RowMap) → held map → IsToldBy map request (Ok answer) holds) → IsPut IsKept request →
    KeepsToMap before after held holds (pairs_by (Request.Record place request) (Ok (Answer.Record answer)))
kept_by_record before after held holds place request answer sound by_map read = record {
  sound = sound;
  answers = λ h map its. ((by_map h map its read).0, tt);
  by_map = λ h map its. (by_map h map its read).1;
}

-- one that ran out of memory
pub kept_by_none : (before after : Type 0) (held holds : RowMap → Type 0) (asks : Request) (error : AllocError) → (after → before) →
    (after → (map : RowMap) → held map → holds map) → KeepsToMap before after held holds (pairs_by asks (Err error))
kept_by_none before after held holds asks error sound by_map = record { sound = sound; answers = λ h map its. tt; by_map = by_map }

-- and then more
pub kept_on : (first second third : Type 0) (has had holds : RowMap → Type 0) (t more all : List Pair) → KeepsToMap first second has had t → KeepsToMap second third had holds more →
    all ≡ t ++ more → KeepsToMap first third has holds all
kept_on first second third has had holds t more all one two is =
    subst (KeepsToMap first third has holds) (sym is) (record {
      sound = λ h. one.sound (two.sound h);
      answers = λ h map its. pairs_more t more map (one.answers (two.sound h) map its) (two.answers h (changed_by_all (changes_of t) map) (one.by_map (two.sound h) map its));
      by_map = λ h map its. subst holds (sym (map_after t more map)) (two.by_map h (changed_by_all (changes_of t) map) (one.by_map (two.sound h) map its));
    })

-- ---- rows that are to be put

pub no_put : (P : Fields → Type 0) (t : List Pair) → t ≡ [] → ArePut P t
no_put P t none = record {
  each = λ place row answer there. absurd (none_in (command place (Put row) answer) (subst (λ (ps : List Pair). Contains ps (command place (Put row) answer)) none there));
}

pub put_more : (P : Fields → Type 0) (t more all : List Pair) → ArePut P t → ArePut P more → all ≡ t ++ more → ArePut P all
put_more P t more all one two is = record {
  each = λ place row answer there.
      elim (Contains-append_cases t more (command place (Put row) answer) (subst (λ (ps : List Pair). Contains ps (command place (Put row) answer)) is there)) [
        | inl before ↦ one.each place row answer before
        | inr now ↦ two.each place row answer now
      ];
}

-- the row of a command
is_put : (P : Fields → Type 0) (place : JobPlace) (request : RecordRequest) (answer : RecordAnswer) → ArePut P (command place request answer ∷ []) → IsPut P request
is_put P place (Find key) answer all = tt
is_put P place (Put row) answer all = all.each place row answer (zero, omega arith, refl)
is_put P place (Touch key) answer all = tt
is_put P place (DropArchive key) answer all = tt

pub put_by_record : (P : Fields → Type 0) (place : JobPlace) (request : RecordRequest) (answer : RecordAnswer) → IsPut P request →
    ArePut P (pairs_by (Request.Record place request) (Ok (Answer.Record answer)))
put_by_record P place request answer put = record {
  each = λ p row told there.
      let same : Request.Record place request ≡ Request.Record p (Put row) = ap (λ (pair : Pair). pair.request) (only_in (command place request answer) (command p (Put row) told) there) in
      let its : request ≡ Put row = cc in subst (IsPut P) its put;
}

pub put_by_host : (P : Fields → Type 0) (place : JobPlace) (request : HostRequest) (told : Result Answer AllocError) → ArePut P (pairs_by (Request.Host place request) told)
put_by_host P place request (Err error) = no_put P [] refl
put_by_host P place request (Ok answer) = record {
  each = λ p row told there.
      let same : Request.Host place request ≡ Request.Record p (Put row) =
      ap (λ (pair : Pair). pair.request) (only_in (record { request = Request.Host place request; answer = answer }) (command p (Put row) told) there) in
      absurd cc;
}

-- ---- a record that keeps to its map if rows are such as are read back

pub if_read_by_record : (before after : Type 0) (held holds : RowMap → Type 0) (place : JobPlace) (request : RecordRequest) (answer : RecordAnswer) → (after → before) →
    (after → (map : RowMap) → held map → IsToldBy map request (Ok answer) holds) →
    KeepsToMapIfRead before after held holds (pairs_by (Request.Record place request) (Ok (Answer.Record answer)))
if_read_by_record before after held holds place request answer sound by_map = record {
  keeps = λ read. kept_by_record before after held holds place request answer sound by_map (is_put IsKept place request answer read);
}

pub if_read_on : (first second third : Type 0) (has had holds : RowMap → Type 0) (t more all : List Pair) → KeepsToMapIfRead first second has had t → KeepsToMapIfRead second third had holds more →
    all ≡ t ++ more → KeepsToMapIfRead first third has holds all
if_read_on first second third has had holds t more all one two is = record {
  keeps = λ read.
      let puts : ArePut IsKept (t ++ more) = subst (ArePut IsKept) is read in
      kept_on first second third has had holds t more all
      (one.keeps (record { each = λ place row answer there. puts.each place row answer (Contains-append_left t more (command place (Put row) answer) there) }))
      (two.keeps (record { each = λ place row answer there. puts.each place row answer (Contains-append_right t more (command place (Put row) answer) there) })) is;
}

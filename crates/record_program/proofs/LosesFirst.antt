-- The first archives of a record go one after another, and nothing else does.
use Rattle.std.proofs.Common.{◌≡◌, ◌≢◌, Bool, true, false, if◌then◌else◌, nat_le, ℕ, suc, zero, ◌+◌, ◌-◌, ◌≤◌, ◌<◌, List, [], ◌∷◌, length, take, drop, get_or, Some, Result, Ok, Err, refl, sym, ap, subst, ◌∙◌, arith}
use Rattle.std.specs.Prelude.{IfOk, IfErr, OnOk, slice_get}
use Rattle.sqlite.specs.State.{State}
use Rattle.job_rows.specs.declared.archive.Archive.{Archive}
use Rattle.job_rows.specs.Map.{keys_in, total_bytes, lost_count}
use Rattle.job_rows.specs.InStep.{AreApart}
use Rattle.job_record.specs.declared.changes.Space.{Space}
use Rattle.job_record.specs.declared.fault.RecordFault.{RecordFault}
use Rattle.job_record.specs.declared.fault.RecordFault.TheVariants.{NotARecord, WrongVersion, NoRow, Store, UsesSpent, OutOfMemory}
use Rattle.job_record.specs.Counted.{FitsSpace, IsCount}
use Rattle.job_record.specs.Map.{KeyMap, IsRecordOf, ArchivesIn, ChangesIn, changed_by, unarchives}
use Rattle.job_record.proofs.Losing.{count_is, first_more, apart_rest, loses_first, loses_more}
use Rattle.record_program.specs.Trimming.{without_first, lost_keys, lost_in, Trims}
use Rattle.record_program.specs.inner.Steps.{HoldsLost, LosesOne, LosesFirst}
use Rattle.record_program.proofs.LeavesOthers.{unchanged_of, stays_of}

-- ---- the keys

module _ (budget : ℕ) (map : KeyMap) (old new : State) (it : IsRecordOf old map) where
  pub knows_lost : (archives : List Archive) (result : Result (List (List ℕ)) RecordFault) → ArchivesIn map old new (Ok archives) → IfOk result (λ keys. keys ≡ lost_keys budget archives)
      → IfErr result (λ fault. fault ≡ OutOfMemory) → HoldsLost budget map new result
  knows_lost archives (Ok keys) known ok err = (ok ∙ ap (lost_keys budget) known.0, unchanged_of old new map it known.1 known.2)
  knows_lost archives (Err NotARecord) known ok err = absurd (let e : NotARecord ≡ OutOfMemory = err in cc)
  knows_lost archives (Err WrongVersion) known ok err = absurd (let e : WrongVersion ≡ OutOfMemory = err in cc)
  knows_lost archives (Err NoRow) known ok err = absurd (let e : NoRow ≡ OutOfMemory = err in cc)
  knows_lost archives (Err (Store e)) known ok err = absurd (let e : Store e ≡ OutOfMemory = err in cc)
  knows_lost archives (Err UsesSpent) known ok err = absurd (let e : UsesSpent ≡ OutOfMemory = err in cc)
  knows_lost archives (Err OutOfMemory) known ok err = λ open_now. unchanged_of old new map it known.1 known.2

  pub knows_none : (fault : RecordFault) → ArchivesIn map old new (Err fault) → HoldsLost budget map new (Err fault)
  knows_none NotARecord known = known
  knows_none WrongVersion known = known
  knows_none NoRow known = known
  knows_none (Store e) known = stays_of old new map it known
  knows_none UsesSpent known = known
  knows_none OutOfMemory known = stays_of old new map it known

-- ---- one goes

module _ (key : List ℕ) (map : KeyMap) (space after : Space) (old new : State) (fits : FitsSpace space map) (it : IsRecordOf old map) where
  pub loses_one : (answer : Result (Unit {0}) RecordFault) → answer ≢ Err NoRow → ChangesIn (unarchives key) key map old new answer
      → OnOk answer (IsCount after.counted (changed_by (unarchives key) map).archives) → after.budget ≡ space.budget → LosesOne key map after new answer
  loses_one (Ok done) other now count budget = (now.1, record { budget_is = fits.budget_is ∙ sym budget; count = count })
  loses_one (Err NotARecord) other now count budget = now
  loses_one (Err WrongVersion) other now count budget = now
  loses_one (Err NoRow) other now count budget = absurd (other refl)
  loses_one (Err (Store e)) other now count budget = stays_of old new map it now
  loses_one (Err UsesSpent) other now count budget = now
  loses_one (Err OutOfMemory) other now count budget = stays_of old new map it now

-- ---- one after another

-- the archive of the key that is next
at_key : (xs : List Archive) (count n : ℕ) (key : List ℕ) → n < length (keys_in (take count xs)) → key ≡ get_or (keys_in (take count xs)) n key
    → (a : Archive) × (slice_get (drop n xs) 0 ≡ Some a) × (key ≡ a.key)
at_key [] zero n key within is = absurd (omega arith)
at_key [] (suc count) n key within is = absurd (omega arith)
at_key (x ∷ xs) zero n key within is = absurd (omega arith)
at_key (x ∷ xs) (suc count) zero key within is = (x, refl, is)
at_key (x ∷ xs) (suc count) (suc n) key within is = at_key xs count n key (omega arith) is

goes_next : (map : KeyMap) (count n : ℕ) (key : List ℕ) → AreApart map.archives → n < length (keys_in (take count map.archives)) → key ≡ get_or (keys_in (take count map.archives)) n key
    → changed_by (unarchives key) (without_first n map) ≡ without_first (suc n) map
goes_next map count n key apart within is =
    let at = at_key map.archives count n key within is in
    let parts = first_more map.archives n at.0 at.1 in
    ap (λ k. changed_by (unarchives k) (without_first n map)) at.2
    ∙ loses_first (without_first n map) at.0 (drop (suc n) map.archives) parts.1 (apart_rest n map.archives apart)
    ∙ loses_more map n at.0 at.1 apart

pub loses_next : (keys : List (List ℕ)) (i : ℕ) (key item : List ℕ) (map : KeyMap) (count : ℕ) (space : Space) (new : State) → AreApart map.archives → keys ≡ keys_in (take count map.archives)
    → i < length keys → key ≡ get_or keys i key → item ≡ key → LosesOne item (without_first i map) space new (Ok tt)
    → IsRecordOf new (without_first (i + 1) map) × FitsSpace space (without_first (i + 1) map)
loses_next keys i key item map count space new apart are within is same now =
    let here : i < length (keys_in (take count map.archives)) = subst (λ ks. i < length ks) are within in
    let next = goes_next map count i key apart here (subst (λ ks. key ≡ get_or ks i key) are is) in
    let one : changed_by (unarchives item) (without_first i map) ≡ without_first (suc i) map = ap (λ k. changed_by (unarchives k) (without_first i map)) same ∙ next in
    let more : suc i ≡ i + 1 = omega arith in
    subst (λ n. IsRecordOf new (without_first n map) × FitsSpace space (without_first n map)) more
    (subst (λ (m : KeyMap). IsRecordOf new m × FitsSpace space m) one now)

-- all have gone
length_keys : (count : ℕ) (xs : List Archive) → count ≤ length xs → length (keys_in (take count xs)) ≡ count
length_keys zero [] short = refl
length_keys zero (x ∷ xs) short = refl
length_keys (suc count) [] short = absurd (omega arith)
length_keys (suc count) (x ∷ xs) short = ap suc (length_keys count xs (omega arith))

pub all_lost : (keys : List (List ℕ)) (i count : ℕ) (map : KeyMap) (new : State) → count ≤ length map.archives → keys ≡ keys_in (take count map.archives) → i ≤ length keys → length keys ≤ i
    → IsRecordOf new (without_first i map) → IsRecordOf new (without_first count map)
all_lost keys i count map new short are within past now =
    let all : length keys ≡ count = ap length are ∙ length_keys count map.archives short in
    let is : i ≡ count = omega arith in subst (λ n. IsRecordOf new (without_first n map)) is now

pub part_lost : (keys : List (List ℕ)) (i count : ℕ) (map : KeyMap) (item : List ℕ) (space : Space) (new : State) (fault : RecordFault) → count ≤ length map.archives → keys ≡ keys_in (take count map.archives)
    → i ≤ length keys → LosesOne item (without_first i map) space new (Err fault) → LosesFirst count map new (Err fault)
part_lost keys i count map item space new fault short are within now =
    let all : length keys ≡ count = ap length are ∙ length_keys count map.archives short in
    let most : i ≤ count = omega arith in stops fault most now
  where
    stops : (fault : RecordFault) → i ≤ count → LosesOne item (without_first i map) space new (Err fault) → LosesFirst count map new (Err fault)
    stops NotARecord most now = absurd now
    stops WrongVersion most now = absurd now
    stops NoRow most now = absurd now
    stops (Store e) most now = λ open_now. (i, most, now open_now)
    stops UsesSpent most now = absurd now
    stops OutOfMemory most now = λ open_now. (i, most, now open_now)

-- ---- what the budget has no room for

pub total_from : (xs : List Archive) (m : ℕ) (d : Archive) → m < length xs → total_bytes (drop m xs) ≡ (get_or xs m d).bytes + total_bytes (drop (suc m) xs)
total_from [] m d within = absurd (omega arith)
total_from (x ∷ xs) zero d within = refl
total_from (x ∷ xs) (suc m) d within = total_from xs m d (omega arith)

pub none_left : (xs : List Archive) → drop (length xs) xs ≡ []
none_left [] = refl
none_left (x ∷ xs) = none_left xs

-- the walk from the newest archive stops at one that does not fit
pub count_stops : (most : ℕ) (xs : List Archive) (n room : ℕ) (d : Archive) → n ≤ length xs → total_bytes (drop n xs) + room ≡ most → 0 < n → room < (get_or xs (n - 1) d).bytes → lost_count (Some most) xs ≡ n
count_stops most xs zero room d within sum some over = absurd (omega arith)
count_stops most xs (suc m) room d within sum some over =
    let before : suc m - 1 ≡ m = omega arith in
    let more : room < (get_or xs m d).bytes = subst (λ k. room < (get_or xs k d).bytes) before over in
    let whole : total_bytes (drop m xs) ≡ (get_or xs m d).bytes + total_bytes (drop (suc m) xs) = total_from xs m d (omega arith) in
    let past : most < total_bytes (drop m xs) = omega arith in
    count_is most xs (suc m) within (omega arith) (λ k same. let alike : m ≡ k = omega arith in subst (λ j. most < total_bytes (drop j xs)) alike past)

pub few_lost : (budget : ℕ) (xs : List Archive) → lost_count (Some budget) xs ≤ length xs
few_lost budget [] = omega arith
few_lost budget (x ∷ xs) = either (nat_le (total_bytes (x ∷ xs)) budget) (few_lost budget xs)
  where
    either : (low : Bool) → lost_count (Some budget) xs ≤ length xs → (if low then 0 else suc (lost_count (Some budget) xs)) ≤ length (x ∷ xs)
    either true rest = omega arith
    either false rest = omega arith

module _ (budget : ℕ) (map : KeyMap) (new : State) where
  pub trims_part : (fault : RecordFault) → LosesFirst (lost_in budget map) map new (Err fault) → Trims budget map new (Err fault)
  trims_part NotARecord now = absurd now
  trims_part WrongVersion now = absurd now
  trims_part NoRow now = absurd now
  trims_part (Store e) now = now
  trims_part UsesSpent now = absurd now
  trims_part OutOfMemory now = now

  pub trims_none : (fault : RecordFault) → HoldsLost budget map new (Err fault) → Trims budget map new (Err fault)
  trims_none NotARecord now = absurd now
  trims_none WrongVersion now = absurd now
  trims_none NoRow now = absurd now
  trims_none (Store e) now = λ open_now. (0, omega arith, now open_now)
  trims_none UsesSpent now = absurd now
  trims_none OutOfMemory now = λ open_now. (0, omega arith, now open_now)

length_first : (count : ℕ) (xs : List Archive) → count ≤ length xs → length (take count xs) ≡ count
length_first zero [] short = refl
length_first zero (x ∷ xs) short = refl
length_first (suc count) [] short = absurd (omega arith)
length_first (suc count) (x ∷ xs) short = ap suc (length_first count xs (omega arith))

pub lost_length : (budget : ℕ) (xs : List Archive) (count : ℕ) → count ≡ lost_count (Some budget) xs → count ≡ length (take count xs)
lost_length budget xs count is = sym (length_first count xs (subst (λ n. n ≤ length xs) (sym is) (few_lost budget xs)))

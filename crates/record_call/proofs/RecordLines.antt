-- The lines that `record --long` and `record --check` end with.
use Rattle.std.proofs.Common.{◌≡◌, ◌<◌, ◌+◌, ℕ, suc, Bool, List, [], ◌∷◌, ◌++◌, length, take, get_or, codes, IsTrue, inl, inr, sym, ap, subst, ◌∙◌, arith}
use Rattle.std.proofs.Math.Seq.{take-suc}
use Rattle.std.specs.Prelude.{flat_map}
use Rattle.clap.specs.Words.{Text}
use Rattle.plain_data.specs.ByName.{by_name, value_at}
use Rattle.plain_data.proofs.Lookup.{value_at-by_name}
use Rattle.job_rows.specs.declared.archive.Archive.{Archive}
use Rattle.job_rows.specs.declared.row.Row.{Row}
use Rattle.job_record.specs.declared.fault.RecordFault.TheVariants.{NotARecord, OutOfMemory}
use Rattle.program_words.specs.CheckLines.{check_lines}
use Rattle.program_words.specs.KeyWords.{key_words}
use Rattle.record_program.specs.Checking.{Refuses}
use Rattle.record_program.specs.Lines.{facts_of}
use Rattle.record_program.specs.declared.ending.Ending.{Ending}
use Rattle.record_program.specs.declared.ending.Ending.TheVariants.{Rows, Record}
use Rattle.record_program.specs.declared.listing.Listing.{Listing}
use Rattle.record_call.specs.Listed.{IsLongEnding, shows, uses, use_word, long_line, long_text}
use Rattle.record_call.specs.Checked.{Parts, goes, stays, IsParted, more, IsTold, tells, IsCheckEnding, repeats}

-- ---- at length

-- a use is looked up in the uses, in order or not
same_lines : (us : List (List ℕ × ℕ)) (rows : List Row) → flat_map (long_line (by_name us)) rows ≡ flat_map (long_line us) rows
same_lines us rows = λ i. flat_map (λ (row : Row). facts_of row ++ use_word (value_at-by_name row.key us i) ++ key_words row.key ++ codes "\n") rows

pub shows_so : (listing : Listing) (us : List (List ℕ × ℕ)) (ending : Ending) → us ≡ by_name (uses listing.archives) → ending ≡ Rows (flat_map (long_line us) listing.rows)
    → IsLongEnding listing ending
shows_so listing us ending in_order is =
    let all : ending ≡ Rows (long_text listing) = is ∙ ap (λ us. Rows (flat_map (long_line us) listing.rows)) in_order ∙ ap Rows (same_lines (uses listing.archives) listing.rows) in
    subst (IsLongEnding listing) (sym all) shows

-- ---- what is removed and left

pub goes_so : (remove : Bool) (name : Text) (removed left removed_new left_new : List Text) → IsTrue remove → removed_new ≡ removed ++ name ∷ [] → left_new ≡ left
    → Parts remove name removed left removed_new left_new
goes_so remove name removed left removed_new left_new asked goes_is left_is = rw (goes_is, left_is) (goes asked)

pub stays_so : (remove : Bool) (name : Text) (removed left removed_new left_new : List Text) → removed_new ≡ removed → left_new ≡ left ++ name ∷ []
    → Parts remove name removed left removed_new left_new
stays_so remove name removed left removed_new left_new removed_is stays_is = rw (removed_is, stays_is) stays

pub parts_more : (all : List Text) (i : ℕ) (name : Text) (remove : Bool) (removed left removed_new left_new : List Text) → i < length all → name ≡ get_or all i name
    → IsParted remove removed left (take i all) → Parts remove name removed left removed_new left_new → IsParted remove removed_new left_new (take (i + 1) all)
parts_more all i name remove removed left removed_new left_new within is parted parts =
    let next : take (i + 1) all ≡ take i all ++ name ∷ [] =
    let one : i + 1 ≡ suc i = omega arith in
    ap (λ n. take n all) one ∙ take-suc all i name within ∙ ap (λ n. take i all ++ n ∷ []) (sym is) in
    rw next (more name parted parts)

pub told_so : (remove : Bool) (removed left unknown missing : List Text) (text : Text) → IsParted remove removed left unknown → text ≡ check_lines removed left missing → IsTold unknown missing remove (Rows text)
told_so remove removed left unknown missing text parted is = subst (λ text. IsTold unknown missing remove (Rows text)) (sym is) (tells removed left parted)

pub repeats_so : (found : List Text) (archives : List Archive) (remove : Bool) → Refuses found archives NotARecord → IsCheckEnding found archives remove (Record NotARecord)
repeats_so found archives remove (inl memory) = absurd (let e : NotARecord ≡ OutOfMemory = memory in cc)
repeats_so found archives remove (inr twice) = repeats twice.1

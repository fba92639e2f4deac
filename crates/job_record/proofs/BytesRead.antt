-- The rows of version 1 whose files do not read.
use Rattle.std.proofs.Common.{◌≡◌, ℕ, zero, suc, ◌<◌, List, [], ◌∷◌, length, sym, subst, ◌∙◌, arith}
use Rattle.sqlite.specs.declared.types.Value.TheVariants.{Text}
use Rattle.sqlite.specs.Order.{Row as Columns, column}
use Rattle.staging.specs.declared.found.Found.{Found}
use Rattle.job_record.specs.declared.fault.RecordFault.{RecordFault}
use Rattle.job_record.specs.Texts.{ReadsAsFiles}
use Rattle.job_record.specs.Columns.{IsText, Misreads}
use Rattle.job_record.specs.Opening.{HasNoBytes}
use Rattle.job_record.proofs.RowsRead.{misreads_as}

text_within : (c : Columns) (n : ℕ) (text : List ℕ) → column c n ≡ Text text → n < length c
text_within [] n text is = absurd (let e = is in cc)
text_within (v ∷ c) zero text is = omega arith
text_within (v ∷ c) (suc n) text is = let later = text_within c n text is in omega (arith, later)

module _ (c : Columns) (fault : RecordFault) where
  pub key_unread : Misreads (0 < length c → (text : List ℕ) → ¬ IsText (column c 0) text) fault → Misreads (HasNoBytes c) fault
  key_unread = misreads_as (λ none key bytes has. none (text_within c 0 key has.key_is.0) key has.key_is) fault

  pub text_unread : Misreads (1 < length c → (text : List ℕ) → ¬ IsText (column c 1) text) fault → Misreads (HasNoBytes c) fault
  text_unread = misreads_as (λ none key bytes has. none (text_within c 1 has.text has.text_is.0) has.text has.text_is) fault

  pub files_unread : (text : List ℕ) → IsText (column c 1) text → Misreads ((files : List Found) → ¬ ReadsAsFiles text files) fault → Misreads (HasNoBytes c) fault
  files_unread text is = misreads_as (λ none key bytes has. let both : Text has.text ≡ Text text = sym has.text_is.0 ∙ is.0 in let same : has.text ≡ text = cc in none has.files (subst (λ t. ReadsAsFiles t has.files) same has.reads)) fault

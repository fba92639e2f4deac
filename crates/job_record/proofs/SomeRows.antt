-- The columns of a record read as some map of rows.
use Rattle.std.proofs.Common.{◌≡◌, ◌⊎◌, inl, inr, ℕ, ℤ, pos, negsuc, Bool, true, false, true≢false, not, List, [], ◌∷◌, Option, Some, None, Ok, Err, refl, sym, ap, subst, ◌∙◌, rules, arith}
use Rattle.std.specs.Ordering.{int_eq}
use Rattle.std.specs.Str.{is_utf8}
use Rattle.std.specs.Prelude.{IsUtf8}
use Rattle.std.proofs.lemmas.Bool.{cases_Bool}
use Rattle.std.proofs.lemmas.Str.{IsUtf8-from_is_utf8, is_utf8-from_IsUtf8}
use Rattle.sqlite.specs.declared.types.Value.TheVariants.{Int, Text}
use Rattle.sqlite.specs.Order.{Row as Columns}
use Rattle.sqlite.specs.Effect.{Database}
use Rattle.sqlite.specs.State.{State}
use Rattle.serde_json.specs.Data.{Data}
use Rattle.serde_json.specs.Read.{read}
use Rattle.cwl_value.specs.Reading.{Reads, reading}
use Rattle.cwl_value.specs.Texts.{ReadsAs, as_json}
use Rattle.cwl_value.specs.declared.value.Value.{Value, out-Value, the_lemmas}
use Rattle.cwl_value.specs.declared.value.Value as value
use Rattle.cwl_value.specs.declared.value.Value.TheOpen.{Value-F}
use Rattle.cwl_value.specs.declared.value.FileVal.{FileVal}
use Rattle.cwl_value.specs.declared.value.DirVal.{DirVal}
use Rattle.cwl_value.proofs.Induction.{Cases, induction}
use Rattle.staging.specs.declared.found.Found.{Found}
use Rattle.job_rows.specs.Map.{Kept, reads, unread}
use Rattle.job_record.specs.Texts.{files_in, ReadsAsFiles}
use Rattle.job_record.specs.Map.{KeyMap, HoldsMap}
use Rattle.job_record.specs.Rows.{AreKeptAs, HasRows}
use Rattle.job_record.proofs.KeptInStep.{literal_of}
use Rattle.job_record.proofs.OneRow.{Named, read_in, text_reads, out-Fields}

-- it is so of some, or of none
abbrev SomeOrNone : (A : Type 0) → (A → Type 0) → Type 0
SomeOrNone A P = ((a : A) × P a) ⊎ ((a : A) → P a → ⊥)

-- ---- the outputs

abbrev is_fields : Value-F Value DirVal FileVal → Bool
is_fields (Value-F.Fields es) = true
is_fields _ = false

abbrev AreFields : Value → Named → Type 0
AreFields v es = v ≡ value.Fields es

apart : (v : Value) (o : Value-F Value DirVal FileVal) → out-Value v ≡ o → is_fields o ≡ false → SomeOrNone Named (AreFields v)
apart v o out lacks = inr (λ es is. true≢false (ap is_fields (sym (out-Fields es) ∙ sym (ap out-Value is) ∙ out) ∙ lacks))

fields_cases : Cases (λ v. SomeOrNone Named (AreFields v)) (λ f. Unit {0}) (λ d. Unit {0})
fields_cases = record {
  null = apart value.Null Value-F.Null (search (rules, the_lemmas)) refl;
  boolean = λ b. apart (value.Bool b) (Value-F.Bool b) (search (rules, the_lemmas)) refl;
  whole = λ n. apart (value.Whole n) (Value-F.Whole n) (search (rules, the_lemmas)) refl;
  text = λ s. apart (value.Text s) (Value-F.Text s) (search (rules, the_lemmas)) refl;
  file = λ f _. apart (value.FileVal f) (Value-F.FileVal f) (search (rules, the_lemmas)) refl;
  dir = λ d _. apart (value.DirVal d) (Value-F.DirVal d) (search (rules, the_lemmas)) refl;
  list = λ vs _. apart (value.List vs) (Value-F.List vs) (search (rules, the_lemmas)) refl;
  fields = λ es _. inl (es, refl);
  a_file = λ f _. tt;
  a_dir = λ d _. tt;
}

module _ (text : List ℕ) where
  abbrev IsOutputs : Named → Type 0
  IsOutputs es = ReadsAs text (Ok (value.Fields es))

  read_as : (d : Data) → is_utf8 text ≡ true → read text ≡ Some d → (r : Reads Value) → reading d ≡ r → SomeOrNone Named IsOutputs
  read_as d utf8 is (Err e) gives = inr (λ es h. let same : Ok (value.Fields es) ≡ Err e = text_reads text true _ utf8 h ∙ ap (read_in true) is ∙ gives in cc)
  read_as d utf8 is (Ok v) gives = elim (induction fields_cases v) [
    | inl some ↦ inl (some.0, subst (ReadsAs text) (gives ∙ ap Ok some.1) (as_json d (IsUtf8-from_is_utf8 text utf8) is))
    | inr none ↦ inr (λ es h. let same : Ok (value.Fields es) ≡ Ok v = text_reads text true _ utf8 h ∙ ap (read_in true) is ∙ gives in none es (let back : v ≡ value.Fields es = cc in back))
  ]

  outputs_in : (b : Bool) → is_utf8 text ≡ b → (o : Option Data) → read text ≡ o → SomeOrNone Named IsOutputs
  outputs_in false utf8 o is = inr (λ es h. let same = text_reads text false _ utf8 h in cc)
  outputs_in true utf8 None is = inr (λ es h. let same = text_reads text true _ utf8 h ∙ ap (read_in true) is in cc)
  outputs_in true utf8 (Some d) is = read_as d utf8 is (reading d) refl

  files_from : (d : Data) → read text ≡ Some d → (o : Option (List Found)) → files_in d ≡ o → SomeOrNone (List Found) (ReadsAsFiles text)
  files_from d is (Some fs) gives = inl (fs, (d, is, gives))
  files_from d is None gives = inr (λ fs h. let both : Some h.0 ≡ Some d = sym h.1 ∙ is in let one : h.0 ≡ d = cc in let e : Some fs ≡ None = sym h.2 ∙ ap files_in one ∙ gives in cc)

  files_of : (o : Option Data) → read text ≡ o → SomeOrNone (List Found) (ReadsAsFiles text)
  files_of None is = inr (λ fs h. let e : None ≡ Some h.0 = sym is ∙ h.1 in cc)
  files_of (Some d) is = files_from d is (files_in d) refl

cost_of : (m : ℤ) → SomeOrNone ℕ (λ n. m ≡ pos n)
cost_of (pos n) = inl (n, refl)
cost_of (negsuc n) = inr (λ k e. cc)

-- ---- the row

module _ (k o f : List ℕ) (m a : ℤ) where
  abbrev columns : Columns
  columns = Text k ∷ Text o ∷ Text f ∷ Int m ∷ Int a ∷ []

  not_utf8 : (text other : List ℕ) → is_utf8 text ≡ false → Text text ≡ Text other → IsUtf8 other → ⊥
  not_utf8 text other lacks same utf8 = let one : other ≡ text = cc in true≢false (sym (is_utf8-from_IsUtf8 text (subst IsUtf8 one utf8)) ∙ lacks)

  kept_by : (is_utf8 k ≡ true) ⊎ (is_utf8 k ≡ false) → (is_utf8 o ≡ true) ⊎ (is_utf8 o ≡ false) → (is_utf8 f ≡ true) ⊎ (is_utf8 f ≡ false) → SomeOrNone Named (IsOutputs o) → SomeOrNone (List Found) (ReadsAsFiles f) → SomeOrNone ℕ (λ n. m ≡ pos n)
      → (kept : Kept) × AreKeptAs (Some columns) (Some kept)
  kept_by (inl ku) (inl ou) (inl fu) (inl outs) (inl files) (inl cost) = (
    reads (record { key = k; outputs = outs.0; files = files.0; cost = cost.0; archived = not (int_eq a (pos 0)) }),
    (
      record { key = k; outputs = o; files = f; cost = cost.0; archived = not (int_eq a (pos 0)) },
      record {
        width = omega (arith);
        key = (refl, IsUtf8-from_is_utf8 k ku);
        outputs = (refl, IsUtf8-from_is_utf8 o ou);
        files = (refl, IsUtf8-from_is_utf8 f fu);
        cost = ap Int cost.1;
        archived = (a, refl, refl);
      },
      record { key = refl; outputs = outs.1; files = files.1; cost = refl; archived = refl },
    ),
  )
  kept_by (inr lacks) ou fu outs files cost = (unread, λ row h. not_utf8 k h.0.key lacks h.1.key.0 h.1.key.1)
  kept_by (inl ku) (inr lacks) fu outs files cost = (unread, λ row h. not_utf8 o h.0.outputs lacks h.1.outputs.0 h.1.outputs.1)
  kept_by (inl ku) (inl ou) (inr lacks) outs files cost = (unread, λ row h. not_utf8 f h.0.files lacks h.1.files.0 h.1.files.1)
  kept_by (inl ku) (inl ou) (inl fu) (inr lacks) files cost =
      (unread, λ row h. lacks row.outputs (let e : Text o ≡ Text h.0.outputs = h.1.outputs.0 in let one : h.0.outputs ≡ o = cc in subst (λ text. IsOutputs text row.outputs) one h.2.outputs))
  kept_by (inl ku) (inl ou) (inl fu) (inl outs) (inr lacks) cost =
      (unread, λ row h. lacks row.files (let e : Text f ≡ Text h.0.files = h.1.files.0 in let one : h.0.files ≡ f = cc in subst (λ text. ReadsAsFiles text row.files) one h.2.files))
  kept_by (inl ku) (inl ou) (inl fu) (inl outs) (inl files) (inr lacks) =
      (unread, λ row h. lacks h.0.cost (let e : Int m ≡ Int (pos h.0.cost) = h.1.cost in let one : m ≡ pos h.0.cost = cc in one))

  literal_kept : (kept : Kept) × AreKeptAs (Some columns) (Some kept)
  literal_kept = kept_by (cases_Bool (is_utf8 k)) (cases_Bool (is_utf8 o)) (cases_Bool (is_utf8 f)) (outputs_in o (is_utf8 o) refl (read o) refl) (files_of f (read f) refl) (cost_of m)

-- ---- the record

kept_at : (db : Database) (columns : KeyMap) → HoldsMap db columns → (key : List ℕ) (o : Option Columns) → columns.rows key ≡ o → (kept : Option Kept) × AreKeptAs o kept
kept_at db columns it key None is = (None, tt)
kept_at db columns it key (Some c) is =
    let l = literal_of db columns it key c is in
    let k = literal_kept l.key l.outputs l.files l.cost l.archived in
    (Some k.0, subst (λ (d : Columns). AreKeptAs (Some d) (Some k.0)) (sym l.is) k.1)

pub has_rows : (s : State) → HasRows s
has_rows s columns it = (
  record { rows = λ key. (kept_at s.now columns it.holds key (columns.rows key) refl).0; archives = columns.archives; budget = columns.budget },
  record { rows = λ key. (kept_at s.now columns it.holds key (columns.rows key) refl).1; archives = refl; budget = refl },
)

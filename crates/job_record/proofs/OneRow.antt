-- Columns read as one row, or as none.
use Rattle.std.proofs.Common.{◌≡◌, ◌≢◌, ℕ, ℤ, pos, Bool, true, false, true≢false, not, List, Option, Some, None, Ok, Err, refl, sym, ap, subst, ◌∙◌, rules}
use Rattle.std.specs.Ordering.{int_eq}
use Rattle.std.specs.Str.{is_utf8}
use Rattle.std.proofs.lemmas.Str.{IsUtf8-from_is_utf8, is_utf8-from_IsUtf8}
use Rattle.sqlite.specs.declared.types.Value.{Value as SqlValue}
use Rattle.sqlite.specs.declared.types.Value.TheVariants.{Int, Text}
use Rattle.sqlite.specs.Order.{Row as Columns, column}
use Rattle.serde_json.specs.Data.{Data}
use Rattle.serde_json.specs.Read.{read}
use Rattle.cwl_value.specs.Reading.{Reads, reading}
use Rattle.cwl_value.specs.Texts.{ReadsAs, as_json, not_json}
use Rattle.cwl_value.specs.declared.refusal.ValueRefusal.TheVariants.{NotJson}
use Rattle.cwl_value.specs.declared.value.Value.{Value, out-Value, the_lemmas}
use Rattle.cwl_value.specs.declared.value.Value as value
use Rattle.cwl_value.specs.declared.value.Value.TheOpen.{Value-F}
use Rattle.staging.specs.declared.found.Found.{Found}
use Rattle.job_rows.specs.declared.row.Row.{Row}
use Rattle.job_rows.specs.Map.{Kept, reads, unread}
use Rattle.job_record.specs.Texts.{files_in, ReadsAsFiles}
use Rattle.job_record.specs.Columns.{IsText, IsRowOf, IsUnread}
use Rattle.job_record.specs.Rows.{AreKeptAs}

abbrev pub Named : Type 0
Named = List (List ℕ × Value)

-- ---- the outputs that a text reads as

abbrev pub read_in : Bool → Option Data → Reads Value
read_in true (Some d) = reading d
read_in true None = Err NotJson
read_in false o = Err NotJson

pub text_reads : (text : List ℕ) (b : Bool) (r : Reads Value) → is_utf8 text ≡ b → ReadsAs text r → r ≡ read_in b (read text)
text_reads text true _ is (not_json none) = rw (none (IsUtf8-from_is_utf8 text is)) refl
text_reads text false _ is (not_json none) = refl
text_reads text true _ is (as_json d utf8 read_is) = rw read_is refl
text_reads text false _ is (as_json d utf8 read_is) = absurd (true≢false (sym (is_utf8-from_IsUtf8 text utf8) ∙ is))

pub out-Fields : (es : Named) → out-Value (value.Fields es) ≡ Value-F.Fields es
out-Fields es = search (rules, the_lemmas)

one_outputs : (text : List ℕ) (a b : Named) → ReadsAs text (Ok (value.Fields a)) → ReadsAs text (Ok (value.Fields b)) → a ≡ b
one_outputs text a b p q =
    let both : Ok (value.Fields a) ≡ Ok (value.Fields b) = text_reads text (is_utf8 text) _ refl p ∙ sym (text_reads text (is_utf8 text) _ refl q) in
    let values : value.Fields a ≡ value.Fields b = cc in
    let outs : Value-F.Fields a ≡ Value-F.Fields b = sym (out-Fields a) ∙ ap out-Value values ∙ out-Fields b in cc

-- ---- the row that columns read as

pub one_text : (v : SqlValue) (a b : List ℕ) → IsText v a → IsText v b → a ≡ b
one_text v a b p q = let e : Text a ≡ Text b = sym p.0 ∙ q.0 in cc

one_number : (v : SqlValue) (m n : ℕ) → v ≡ Int (pos m) → v ≡ Int (pos n) → m ≡ n
one_number v m n p q = let e : Int (pos m) ≡ Int (pos n) = sym p ∙ q in cc

one_flag : (v : SqlValue) (m n : ℤ) → v ≡ Int m → v ≡ Int n → not (int_eq m (pos 0)) ≡ not (int_eq n (pos 0))
one_flag v m n p q = let e : Int m ≡ Int n = sym p ∙ q in let same : m ≡ n = cc in ap (λ k. not (int_eq k (pos 0))) same

one_files : (text : List ℕ) (a b : List Found) → ReadsAsFiles text a → ReadsAsFiles text b → a ≡ b
one_files text a b p q =
    let both : Some p.0 ≡ Some q.0 = sym p.1 ∙ q.1 in
    let one : p.0 ≡ q.0 = cc in
    let lists : Some a ≡ Some b = sym p.2 ∙ ap files_in one ∙ q.2 in cc

pub one_row : (c : Columns) (a b : Row) → IsRowOf c a → IsRowOf c b → a ≡ b
one_row c a b p q =
    let s = p.0 in
    let t = q.0 in
    let key : a.key ≡ b.key = p.2.key ∙ one_text (column c 0) s.key t.key p.1.key q.1.key ∙ sym q.2.key in
    let outputs : a.outputs ≡ b.outputs =
    one_outputs t.outputs a.outputs b.outputs (subst (λ text. ReadsAs text (Ok (value.Fields a.outputs))) (one_text (column c 1) s.outputs t.outputs p.1.outputs q.1.outputs) p.2.outputs) q.2.outputs in
    let files : a.files ≡ b.files = one_files t.files a.files b.files (subst (λ text. ReadsAsFiles text a.files) (one_text (column c 2) s.files t.files p.1.files q.1.files) p.2.files) q.2.files in
    let cost : a.cost ≡ b.cost = p.2.cost ∙ one_number (column c 3) s.cost t.cost p.1.cost q.1.cost ∙ sym q.2.cost in
    let flag = p.1.archived in
    let flag' = q.1.archived in
    let archived : a.archived ≡ b.archived = p.2.archived ∙ flag.2 ∙ one_flag (column c 4) flag.0 flag'.0 flag.1 flag'.1 ∙ sym flag'.2 ∙ sym q.2.archived in
    λ i. record { key = key i; outputs = outputs i; files = files i; cost = cost i; archived = archived i }

-- columns that begin with a key are no row of another one
pub row_with : (c : Columns) (key : List ℕ) → column c 0 ≡ Text key → (row : Row) → IsRowOf c row → row.key ≡ key
row_with c key begins row is = let s = is.0 in is.2.key ∙ (let e : Text s.key ≡ Text key = sym is.1.key.0 ∙ begins in cc)

-- columns that read as a row with another key read as no row with this one
pub no_other : (c : Columns) (key : List ℕ) (row : Row) → IsRowOf c row → row.key ≢ key → (other : Row) → IsRowOf c other → other.key ≢ key
no_other c key row is differs other also same = differs (ap (λ (r : Row). r.key) (one_row c row other is also) ∙ same)

-- what the columns read as is what the map has
pub row_kept : (c : Columns) (kept : Option Kept) (row : Row) → AreKeptAs (Some c) kept → IsRowOf c row → kept ≡ Some (reads row)
row_kept c None row are is = absurd are
row_kept c (Some (reads other)) row are is = ap (λ r. Some (reads r)) (one_row c other row are is)
row_kept c (Some unread) row are is = absurd (are row is)

pub unread_kept : (c : Columns) (kept : Option Kept) → AreKeptAs (Some c) kept → IsUnread c → kept ≡ Some unread
unread_kept c None are none = absurd are
unread_kept c (Some (reads row)) are none = absurd (none row are)
unread_kept c (Some unread) are none = refl

pub none_kept : (kept : Option Kept) → AreKeptAs None kept → kept ≡ None
none_kept None are = refl
none_kept (Some k) are = absurd are

pub some_kept : (c : Columns) (kept : Option Kept) → AreKeptAs (Some c) kept → (k : Kept) × (kept ≡ Some k)
some_kept c None are = absurd are
some_kept c (Some k) are = (k, refl)

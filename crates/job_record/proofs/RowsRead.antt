-- Rows that are read one after another, and the one row that columns read as.
use Rattle.std.proofs.Common.{inl, inr, ◌≡◌, ℕ, ◌+◌, ◌<◌, List, [], ◌∷◌, ◌++◌, take, length, get_or, sym, ap, subst, ◌∙◌}
use Rattle.std.proofs.lemmas.List as lists
use Rattle.sqlite.specs.Order.{Row as Columns}
use Rattle.job_rows.specs.declared.row.Row.{Row}
use Rattle.job_record.specs.declared.fault.RecordFault.{RecordFault}
use Rattle.job_record.specs.Columns.{IsRowOf, AreRowsOf, Misreads}

pub rows_more : (cs : List Columns) (rows : List Row) (c : Columns) (row : Row) → AreRowsOf cs rows → IsRowOf c row → AreRowsOf (cs ++ c ∷ []) (rows ++ row ∷ [])
rows_more [] [] c row before now = (now, tt)
rows_more (d ∷ cs) (r ∷ rows) c row before now = (before.0, rows_more cs rows c row before.1 now)
rows_more [] (r ∷ rows) c row before now = absurd before
rows_more (d ∷ cs) [] c row before now = absurd before

pub rows_taken : (cs : List Columns) (i : ℕ) (rows : List Row) (c : Columns) (row : Row) → i < length cs → c ≡ get_or cs i c → AreRowsOf (take i cs) rows → IsRowOf c row → AreRowsOf (take (i + 1) cs) (rows ++ row ∷ [])
rows_taken cs i rows c row within is before now =
    subst (λ some. AreRowsOf some (rows ++ row ∷ [])) (ap (λ last. take i cs ++ last ∷ []) is ∙ sym (lists.take_more cs i c within)) (rows_more (take i cs) rows c row before now)

-- R1 for one cause is R1 for what follows from it
pub misreads_as : {P Q : Type 0} → (P → Q) → (fault : RecordFault) → Misreads P fault → Misreads Q fault
misreads_as f fault (inl memory) = inl memory
misreads_as f fault (inr (inl memory)) = inr (inl memory)
misreads_as f fault (inr (inr other)) = inr (inr (other.0, f other.1))

-- Each row of the table `job` has a rowid, three texts and two numbers.
use Rattle.std.proofs.Common.{◌≡◌, ℕ, ℤ, Bool, true, false, not, ◌&&◌, List, [], ◌∷◌, drop, refl, sym, true≢false}
use Rattle.std.proofs.lemmas.Bool.{and_parts, not-true}
use Rattle.sqlite.specs.declared.types.Value.{Value}
use Rattle.sqlite.specs.declared.types.Value.TheVariants.{Null, Int, Real, Text, Blob}
use Rattle.sqlite.specs.Order.{Row}
use Rattle.sqlite_sql.specs.Ops.{is_null}
use Rattle.sqlite.specs.Kind.TheVariants as kind
use Rattle.sqlite_schema.specs.Rules.{is_of, are_typed, are_present}
use Rattle.sqlite_schema.specs.declared.schema.Constraint.TheVariants.{Datatype, NotNull}
use Rattle.sqlite.specs.Schema.{Schema}
use Rattle.sqlite.specs.Effect.{Database, IsDatabase}
use Rattle.sqlite_rules.specs.Lists.{Has}
use Rattle.job_record.specs.Tables.{job_at}
use Rattle.job_record.specs.Places.{job_tree, job_in}
use Rattle.job_record.proofs.Placed.{row_passes}

pub record Laid (r : Row) : Type 0 where
  pub id : Value
  pub key : List ℕ
  pub outputs : List ℕ
  pub files : List ℕ
  pub cost : ℤ
  pub archived : ℤ
  pub is : r ≡ id ∷ Text key ∷ Text outputs ∷ Text files ∷ Int cost ∷ Int archived ∷ []

none : false ≡ true → ⊥
none h = true≢false (sym h)

end1 : (a : Bool) → (a && false) ≡ true → ⊥
end1 true h = none h
end1 false h = none h

end2 : (a b : Bool) → (a && (b && false)) ≡ true → ⊥
end2 true b h = end1 b h
end2 false b h = none h

end3 : (a b c : Bool) → (a && (b && (c && false))) ≡ true → ⊥
end3 true b c h = end2 b c h
end3 false b c h = none h

end4 : (a b c d : Bool) → (a && (b && (c && (d && false)))) ≡ true → ⊥
end4 true b c d h = end3 b c d h
end4 false b c d h = none h

end5 : (a b c d e : Bool) → (a && (b && (c && (d && (e && false))))) ≡ true → ⊥
end5 true b c d e h = end4 b c d e h
end5 false b c d e h = none h

pub text_in : (v : Value) → is_of kind.Text v ≡ true → is_null v ≡ false → (t : List ℕ) × (v ≡ Text t)
text_in Null h n = absurd (true≢false n)
text_in (Int i) h n = absurd (none h)
text_in (Real x) h n = absurd (none h)
text_in (Text t) h n = (t, refl)
text_in (Blob b) h n = absurd (none h)

pub int_in : (v : Value) → is_of kind.Integer v ≡ true → is_null v ≡ false → (i : ℤ) × (v ≡ Int i)
int_in Null h n = absurd (true≢false n)
int_in (Int i) h n = (i, refl)
int_in (Real x) h n = absurd (none h)
int_in (Text t) h n = absurd (none h)
int_in (Blob b) h n = absurd (none h)

made : (id a b c d e : Value) (k o f : List ℕ) (m n : ℤ) → a ≡ Text k → b ≡ Text o → c ≡ Text f → d ≡ Int m → e ≡ Int n → Laid (id ∷ a ∷ b ∷ c ∷ d ∷ e ∷ [])
made id a b c d e k o f m n p q r s t = record { id = id; key = k; outputs = o; files = f; cost = m; archived = n; is = rw (p, q, r, s, t) refl }

laid : (id : Value) (vs : Row) → are_typed (job_at 0).key 0 (job_at 0).columns vs ≡ true → are_present (job_at 0).key 0 (job_at 0).columns (id ∷ vs) ≡ true → Laid (id ∷ vs)
laid id [] t p = absurd (none p)
laid id (a ∷ []) t p = absurd (end1 (not (is_null a)) p)
laid id (a ∷ b ∷ []) t p = absurd (end2 (not (is_null a)) (not (is_null b)) p)
laid id (a ∷ b ∷ c ∷ []) t p = absurd (end3 (not (is_null a)) (not (is_null b)) (not (is_null c)) p)
laid id (a ∷ b ∷ c ∷ d ∷ []) t p = absurd (end4 (not (is_null a)) (not (is_null b)) (not (is_null c)) (not (is_null d)) p)
laid id (a ∷ b ∷ c ∷ d ∷ e ∷ []) t p =
    let t1 = and_parts _ _ t in
    let t2 = and_parts _ _ t1.1 in
    let t3 = and_parts _ _ t2.1 in
    let t4 = and_parts _ _ t3.1 in
    let t5 = and_parts _ _ t4.1 in
    let p1 = and_parts _ _ p in
    let p2 = and_parts _ _ p1.1 in
    let p3 = and_parts _ _ p2.1 in
    let p4 = and_parts _ _ p3.1 in
    let p5 = and_parts _ _ p4.1 in
    let k = text_in a t1.0 (not-true _ p1.0) in
    let o = text_in b t2.0 (not-true _ p2.0) in
    let f = text_in c t3.0 (not-true _ p3.0) in
    let m = int_in d t4.0 (not-true _ p4.0) in
    let n = int_in e t5.0 (not-true _ p5.0) in
    made id a b c d e k.0 o.0 f.0 m.0 n.0 k.1 o.1 f.1 m.1 n.1
laid id (a ∷ b ∷ c ∷ d ∷ e ∷ f ∷ more) t p = absurd (end5 (is_of kind.Text a) (is_of kind.Text b) (is_of kind.Text c) (is_of kind.Integer d) (is_of kind.Integer e) t)

pub laid_row : (r : Row) → are_typed (job_at 0).key 0 (job_at 0).columns (drop 1 r) ≡ true → are_present (job_at 0).key 0 (job_at 0).columns r ≡ true → Laid r
laid_row [] t p = absurd (none p)
laid_row (id ∷ vs) t p = laid id vs t p

pub laid_in : (schema : Schema) → Has schema.tables (job_in schema) → (db : Database) → db.schema ≡ schema → IsDatabase db → (r : Row) → Has (db.trees (job_tree schema)) r → Laid r
laid_in schema job db is sound r there =
    let typed = row_passes schema db is sound Datatype (job_in schema) job r there in
    laid_row r (and_parts _ _ typed).0 (row_passes schema db is sound NotNull (job_in schema) job r there)

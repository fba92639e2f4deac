-- What loops have gathered, before what is left; and how many there are.
use Rattle.std.proofs.Common.{◌≡◌, ◌≢◌, length, List, [], ◌∷◌, ◌++◌, Option, Some, None, Result, Ok, Err, false, true, refl, ap, sym, append_assoc}
use Rattle.std.specs.Prelude.{IfOk, IfSome, is_some}
use Rattle.std.proofs.lemmas.List.{length-map}
use Rattle.document_links.specs.declared.process.Step.{Step}
use Rattle.job_graph.specs.Jobs.{with_first}
use Rattle.job_graph.specs.Words.{Name}
use Rattle.job_graph.specs.declared.made.Facts.{Facts}
use Rattle.job_graph.specs.inner.Levels.{steps_of}

abbrev pub put_before : {T : Type 0} → List T → Option (List T) → Option (List T)
put_before vs None = None
put_before vs (Some ws) = Some (vs ++ ws)

pub before_none : {T : Type 0} (found : Option (List T)) → put_before [] found ≡ found
before_none None = refl
before_none (Some ws) = refl

pub before_one : {T : Type 0} (vs : List T) (v : T) (found : Option (List T)) → put_before vs (with_first (Some v) found) ≡ put_before (vs ++ v ∷ []) found
before_one vs v None = refl
before_one vs v (Some ws) = ap Some (sym (append_assoc vs (v ∷ []) ws))

-- with one that is there, all are there where the others are
pub first_there : {T : Type 0} (v : T) (found : Option (List T)) → is_some (with_first (Some v) found) ≡ is_some found
first_there v None = refl
first_there v (Some ws) = refl

pub not_some : {T : Type 0} (found : Option T) → is_some found ≡ false → found ≡ None
not_some None none = refl
not_some (Some v) none = absurd cc

pub steps_length : (facts : Facts) (steps : List (Name × Step)) → length (steps_of facts steps) ≡ length steps
steps_length facts steps = length-map steps _

-- what is not so
pub never : {P : Type 0} → false ≡ true → P
never is = absurd cc

-- as many as some are some
pub as_many_as_some : {X Y : Type 0} (xs : List X) (ys : List Y) → length xs ≡ length ys → ys ≢ [] → xs ≢ []
as_many_as_some xs [] same some = absurd (some refl)
as_many_as_some [] (y ∷ ys) same some = absurd cc
as_many_as_some (x ∷ xs) (y ∷ ys) same some = λ is. absurd cc

-- of what is found something weaker holds
module _ {A : Type 0} (P Q : A → Type 0) (weaker : (a : A) → P a → Q a) where
  found_weaker : (found : Option A) → IfSome found P → IfSome found Q
  found_weaker None holds = tt
  found_weaker (Some a) holds = weaker a holds

  pub if_found : {E : Type 0} (result : Result (Option A) E) → IfOk result (λ found. IfSome found P) → IfOk result (λ found. IfSome found Q)
  if_found (Ok found) holds = found_weaker found holds
  if_found (Err error) holds = tt

use Rattle.std.proofs.Common.{◌≡◌, ℕ, Bool, List, Ok, Err, Result, IfOk, IfErr, string_bytes, sym, ap, subst, ◌∙◌, arith}
use Rattle.std.proofs.lemmas.List.Elements.{All-from_get_or}
use Rattle.percent_encoding.proofs.PercentLemmas.{IsByte}
use Rattle.file_values.specs.Location.{Finds, Refuses, located}
use Rattle.file_values.specs.declared.refusal.FileError.{FileError}
use Rattle.file_values.proofs.FileUrl as urls
use Rattle.file_values.proofs.laws.there_and_back.Goals as goal

back_ok : {S : Type 0} (view : S → List ℕ) (r : Result S FileError) (found : Finds (List ℕ)) (path : List ℕ) → found ≡ Ok path → IfOk r (λ s. found ≡ Ok (view s)) → IfOk r (λ s. view s ≡ path)
back_ok view (Ok s) found path is h = let same : Ok (view s) ≡ Ok path = sym h ∙ is in cc
back_ok view (Err e) found path is h = tt

back_err : {S : Type 0} (r : Result S FileError) (found : Finds (List ℕ)) (path : List ℕ) (long : Bool) → found ≡ Ok path → IfErr r (Refuses found long) → IfErr r (Refuses (Ok path) long)
back_err (Ok s) found path long is h = tt
back_err (Err e) found path long is h = subst (λ f. Refuses f long e) is h

pub returns-clause-ok : goal.returns-clause-ok
returns-clause-ok c =
    let path = c.args.path.now in
    let small = All-from_get_or IsByte path 0 (λ i within. omega (arith, c.type_inv.path i)) in
    let spelled = c.as_str.ensures.value ∙ c.in_ok-location.ensures in
    λ plain. back_ok string_bytes c.location_to_path.result (located c.args.base.now c.as_str.result.now) path (ap (located c.args.base.now) spelled ∙ urls.there_and_back c.args.base.now path small c.utf8.path plain) c.location_to_path.ensures.ok

pub returns-clause-err : goal.returns-clause-err
returns-clause-err c =
    let path = c.args.path.now in
    let small = All-from_get_or IsByte path 0 (λ i within. omega (arith, c.type_inv.path i)) in
    let spelled = c.as_str.ensures.value ∙ c.in_ok-location.ensures in
    λ plain.
    let back = back_err c.location_to_path.result (located c.args.base.now c.as_str.result.now) path _ (ap (located c.args.base.now) spelled ∙ urls.there_and_back c.args.base.now path small c.utf8.path plain) c.location_to_path.ensures.err in
    rw spelled at back

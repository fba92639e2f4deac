-- What is asked of a URL before its path is read.
use Rattle.std.proofs.Common.{◌≡◌, List, ℕ, Some, None, false, ⊎_elim, refl, sym, ap, ◌∙◌}
use Rattle.std.specs.Prelude.{Option, is_some, bytes_eq, codes, if◌then◌else◌}
use Rattle.std.specs.Option.{option_copied}
use Rattle.std.specs.Borrow.{Bor}
use Rattle.std.proofs.lemmas.Bool.{cond-true, cond-false, cases_Bool}
use Rattle.url.specs.Scheme.{scheme_type, is_file, default_port}
use Rattle.url.specs.declared.scheme.SchemeType.TheVariants.{File, SpecialNotFile, NotSpecial}

pub copied : {X : Type 0} (r : Option (Bor X)) → is_some r ≡ is_some (option_copied r)
copied None = refl
copied (Some x) = refl

other_kind : (s : List ℕ) → is_file (if is_some (default_port s) then SpecialNotFile else NotSpecial) ≡ false
other_kind s = ⊎_elim (λ e. ap is_file (cond-true _ SpecialNotFile NotSpecial e)) (λ e. ap is_file (cond-false _ SpecialNotFile NotSpecial e)) (cases_Bool (is_some (default_port s)))

pub of_files : (s : List ℕ) → bytes_eq s (codes "file") ≡ is_file (scheme_type s)
unfolding scheme_type
of_files s =
    ⊎_elim
    (λ e. e ∙ sym (ap is_file (cond-true _ File _ e)))
    (λ e. e ∙ sym (ap is_file (cond-false _ File _ e) ∙ other_kind s))
    (cases_Bool (bytes_eq s (codes "file")))

-- Files among others.
use Rattle.std.proofs.Common.{◌≡◌, ◌↔◌, ℕ, ◌+◌, ◌<◌, Bool, false, true≢false, ◌&&◌, IsTrue, List, length, get_or, take, sym, subst}
use Rattle.std.specs.List.{All, Contains}
use Rattle.std.proofs.lemmas.List.Elements.{All-more, All-contains, Contains-get_or}
use Rattle.staging.proofs.Greedy.{both, both_first, both_second}
use Rattle.staging.specs.declared.found.Found.{Found}
use Rattle.job_reuse.specs.Rows.{AreTheSame}

pub among_at : (those these : List Found) (i : ℕ) (f : Found) → i < length these → f ≡ get_or these i f → All (Contains those) these → Contains those f
among_at those these i f within is all = subst (Contains those) (sym is) (all i f within)

pub among_more : (those these : List Found) (i : ℕ) (f : Found) → i < length these → f ≡ get_or these i f → All (Contains those) (take i these) → Contains those f → All (Contains those) (take (i + 1) these)
among_more those these i f within is before one = All-more (Contains those) these i f within before (subst (Contains those) is one)

pub same_by : (files fetched : List Found) (all some : Bool) → (IsTrue all ↔ All (Contains fetched) files) → (IsTrue some ↔ All (Contains files) fetched) → IsTrue (all && some) ↔ AreTheSame files fetched
same_by files fetched all some files_there fetched_there = (
  λ h f. (
    λ one. All-contains (Contains fetched) files f (files_there.0 (both_first all some h)) one,
    λ one. All-contains (Contains files) fetched f (fetched_there.0 (both_second all some h)) one,
  ),
  λ same. both all some (files_there.1 (λ k d within. (same (get_or files k d)).0 (Contains-get_or files k d within))) (fetched_there.1 (λ k d within. (same (get_or fetched k d)).1 (Contains-get_or fetched k d within))),
)

-- where some of the files are not among those fetched, they are not the same
pub none_same : (files fetched : List Found) → (IsTrue false ↔ All (Contains fetched) files) → IsTrue false ↔ AreTheSame files fetched
none_same files fetched none = (
  λ h. absurd (true≢false (sym h)),
  λ same. none.1 (λ k d within. (same (get_or files k d)).0 (Contains-get_or files k d within)),
)

-- A fault that is found is kept, and all else stays.
use Rattle.std.proofs.Common.{◌≡◌, ◌∙◌, List, ◌∷◌, [], ◌++◌, Option, Some, None, Ok, Err, sym, ap, subst, option_map}
use Rattle.job_graph.specs.declared.fault.UnfoldError.{UnfoldError}
use Rattle.job_graph.specs.declared.fault.UnfoldError.TheVariants.{Refused, OutOfMemory}
use Rattle.job_graph.specs.declared.fault.UnfoldFault.{UnfoldFault}
use Rattle.job_graph.specs.declared.progress.Progress.{Progress}
use Rattle.job_graph.specs.Jobs.{Walker}
use Rattle.job_graph.specs.Unfold.{Resolved, or_else, unfolded}
use Rattle.job_graph.specs.Unfolding.{Blames, fault_of}
use Rattle.job_graph.specs.inner.Growth.{IsOfOneProcess, Keeps, LearnsIn, Resolves}
use Rattle.job_graph.specs.inner.Inside.{Follows}

follows_still : (walks : Walker) (learned : List Resolved) (held : Progress) (fault : Option UnfoldFault) → Follows walks learned held →
    Follows walks learned (record held { fault = fault })
follows_still walks learned held fault follows = record {
  walker = follows.walker;
  places = follows.places;
  jobs = follows.jobs;
  parents = follows.parents;
  entries = follows.entries;
  fault = follows.fault;
  result = follows.result;
  outs = follows.outs;
  apart = follows.apart;
  kept = follows.kept;
  ended = follows.ended;
}

pub same_kept : (old mid new : Progress) (error told : UnfoldError) → IsOfOneProcess old mid → Keeps mid error new told → IsOfOneProcess old new
same_kept old mid new error OutOfMemory same keeps = subst (IsOfOneProcess old) (sym keeps) same
same_kept old mid new error (Refused fault) same keeps =
    subst (IsOfOneProcess old) (sym keeps.1) (record { process = same.process; fields = same.fields; measures = same.measures })

module _ (walks : Walker) (learned : List Resolved) (one : Resolved) (old : Progress) where
  -- a fault that was kept is answered again
  pub learns_again : (fault copy : UnfoldFault) → Follows walks learned old → old.fault ≡ Some fault → copy ≡ fault → LearnsIn walks learned one old old (Err (Refused copy))
  learns_again fault copy follows kept same = (
    ap (λ (f : Option UnfoldFault). or_else (option_map fault_of f) (unfolded walks (learned ++ one ∷ [])).fault) kept ∙ ap (λ (f : UnfoldFault). Some (fault_of f)) (sym same),
    kept ∙ ap Some (sym same),
    follows,
  )

  pub learns_more : (new : Progress) → old.fault ≡ None → new.fault ≡ old.fault → Resolves walks learned one new (Ok tt) → LearnsIn walks learned one old new (Ok tt)
  learns_more new none kept resolves = (none, kept ∙ none, resolves)

  -- a fault that is found is kept
  pub learns_kept : (mid new : Progress) (error told : UnfoldError) → old.fault ≡ None → mid.fault ≡ old.fault → Resolves walks learned one mid (Err error) →
      Keeps mid error new told → LearnsIn walks learned one old new (Err told)
  learns_kept mid new error OutOfMemory none kept resolves keeps =
      (ap (λ (held : Progress). held.fault) keeps ∙ kept, subst (Follows walks learned) (sym keeps) resolves.1)
  learns_kept mid new error (Refused fault) none kept resolves keeps = (
    ap (λ (f : Option UnfoldFault). or_else (option_map fault_of f) (unfolded walks (learned ++ one ∷ [])).fault) none
        ∙ subst (λ (e : UnfoldError). Blames (unfolded walks (learned ++ one ∷ [])).fault e) keeps.0 resolves.0,
    ap (λ (held : Progress). held.fault) keeps.1,
    subst (Follows walks learned) (sym keeps.1) (follows_still walks learned mid (Some fault) resolves.1),
  )

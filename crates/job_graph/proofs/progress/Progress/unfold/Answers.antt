use Rattle.std.proofs.Common.{◌≡◌, ◌∙◌, ℕ, List, Option, None, Bool, ap, ap₂, length, map, refl, subst, sym, take, arith, vec_len}
use Rattle.std.specs.Prelude.{◌&&◌, is_some}
use Rattle.std.specs.List.{list_all}
use Rattle.std.proofs.Math.Seq.{take-length}
use Rattle.job_graph.specs.Jobs.{Met, Outs, is_well, result_in, those_named}
use Rattle.job_graph.specs.KnownJobs.{jobs_in}
use Rattle.job_graph.specs.Unfold.{Fault, first_fault, with_met}
use Rattle.job_graph.specs.Unfolding.{Blames}
use Rattle.job_graph.specs.declared.growth.KnownJob.{KnownJob}
use Rattle.job_graph.specs.declared.kept.Kept.{Kept}
use Rattle.job_graph.specs.declared.outcome.Outputs.{Outputs}
use Rattle.job_graph.specs.inner.Ended.{ended_of}
use Rattle.job_graph.specs.inner.Going.{LeavesOut}
use Rattle.job_graph.specs.inner.Growth.{walk_in}
use Rattle.job_graph.specs.inner.Kept.{KeepsRoot, met_by}
use Rattle.job_graph.specs.inner.Outputs.{are_learned, result_of}
use Rattle.job_graph.specs.inner.Views.{made_from, met_of, resolved_of}
use Rattle.job_graph.proofs.Ahead.{same_end, same_fault, same_jobs}
use Rattle.job_graph.proofs.Flags.{flags_grow}
use Rattle.job_graph.proofs.Whole.{whole_where}
use Rattle.job_graph.proofs.progress.Progress.unfold.Goals as goal

pub returns-in-Ok : goal.returns-in-Ok
returns-in-Ok c =
    let known : List KnownJob = c.args.self.now.known in
    let delta : List Met = map met_of c.in_ok-found.found.walk.met in
    let full : List Met = (walk_in c.args.self.now).met in
    let leaves : LeavesOut (met_by c.args.self.now.facts c.args.self.now.fields c.args.self.now.process.now c.args.self.now.kept) delta full =
    subst (λ (k : Option Kept). LeavesOut (met_by c.args.self.now.facts c.args.self.now.fields c.args.self.now.process.now k) delta full) c.replace-kept.ensures.value c.in_ok-found.ensures.met in
    record {
      same = record { process = refl; fields = refl; measures = refl };
      learned = refl;
      kept = refl;
      front = c.grow_flagged.ensures.grows.front;
      alike = tt;
      root = subst (KeepsRoot c.args.self.now.facts c.args.self.now.fields c.args.self.now.process.now) (sym c.replace-in-Ok.ensures.after) c.in_ok-found.ensures.kept;
      none = tt;
      ended = λ flagged.
          flags_grow (map resolved_of c.args.self.now.facts.learned) known c.grow_flagged.new.known c.args.self.now.ended.items c.grow_flagged.new.ended.items
          c.grow_flagged.ensures.grows.front flagged c.in-Ok.ensures.ended;
      unfolds = λ ahead counted.
          let jobs : jobs_in c.grow_flagged.new.known ≡ with_met (jobs_in known) full =
          (c.in-Ok.ensures.grows.grown counted).0 ∙ same_jobs (jobs_in known) _ ahead.seen (jobs_in known) delta full (λ job at. at) leaves in
          let none : first_fault (jobs_in known) full ≡ None =
          sym (same_fault (jobs_in known) _ ahead.seen (jobs_in known) delta full (λ job at. at) leaves) ∙ (c.in-Ok.ensures.grows.grown counted).1 in
          let outs : Outs = c.in_ok-found.found.walk.outs in
          let all : c.are_there-are_all.result ≡ list_all (λ out. is_some out.1) outs =
          c.are_there-are_all.ensures ∙ ap (list_all (λ out. is_some out.1)) c.as_slice.ensures in
          let ended : are_learned (map resolved_of c.args.self.now.facts.learned) (jobs_in c.as_slice-in-Ok.result.now) ≡ list_all (is_well (made_from c.args.self.now.facts)) full =
          ap (λ (k : List KnownJob). are_learned (map resolved_of c.args.self.now.facts.learned) (jobs_in k)) c.as_slice-in-Ok.ensures
          ∙ ap (are_learned (map resolved_of c.args.self.now.facts.learned)) jobs
          ∙ sym (same_end (map resolved_of c.args.self.now.facts.learned) (jobs_in known) full none ahead.met) in
          record {
            grown = (jobs, none, (c.in-Ok.ensures.grows.grown counted).2);
            result = ap result_of c.replace.ensures.after
                ∙ whole_where c.are_whole-is_whole.result (list_all (is_well (made_from c.args.self.now.facts)) full) c.in_ok-named.named.items outs
                (c.are_whole-is_whole.ensures ∙ ap₂ (λ (a b : Bool). a && b) ended all) c.in_ok-named.ensures
                ∙ ap (λ (o : Outs). result_in (made_from c.args.self.now.facts) (record { met = full; outs = o })) c.in_ok-found.ensures.outs;
            outs = ap (λ (o : Outputs). o.named.items) c.replace.ensures.after ∙ c.in_ok-named.ensures ∙ ap those_named c.in_ok-found.ensures.outs;
          };
    }

pub returns-in-Err : goal.returns-in-Err
returns-in-Err c =
    let known : List KnownJob = c.args.self.now.known in
    let delta : List Met = map met_of c.in_ok-found.found.walk.met in
    let full : List Met = (walk_in c.args.self.now).met in
    let leaves : LeavesOut (met_by c.args.self.now.facts c.args.self.now.fields c.args.self.now.process.now c.args.self.now.kept) delta full =
    subst (λ (k : Option Kept). LeavesOut (met_by c.args.self.now.facts c.args.self.now.fields c.args.self.now.process.now k) delta full) c.replace-kept.ensures.value c.in_ok-found.ensures.met in
    let jobs : c.truncate.new.self ≡ known = c.truncate.ensures ∙ ap (λ (n : ℕ). take n c.grow_flagged.new.known) c.len-before.ensures ∙ c.grow_flagged.ensures.grows.front in
    let as_many : vec_len c.args.self.now.ended ≡ length c.args.self.now.ended.items = omega (arith, c.args.self.now.ended.ok) in
    let flags : c.truncate-in-Err.new.self.items ≡ c.args.self.now.ended.items =
    c.truncate-in-Err.ensures.items ∙ ap (λ (n : ℕ). take n c.grow_flagged.new.ended.items) (c.len-flags.ensures ∙ as_many) ∙ c.in-Err.ensures.front in
    record {
      same = record { process = refl; fields = refl; measures = refl };
      learned = refl;
      kept = refl;
      front = ap (take (length known)) jobs ∙ take-length known;
      alike = record { jobs = jobs; entries = refl; outputs = refl; ended = flags };
      root = tt;
      none = c.replace-kept.ensures.after;
      ended = λ flagged. flags ∙ flagged ∙ ap (ended_of (map resolved_of c.args.self.now.facts.learned)) (sym jobs);
      unfolds = λ ahead counted.
          subst (λ (found : Option Fault). Blames found c.in-Err.error) (same_fault (jobs_in known) _ ahead.seen (jobs_in known) delta full (λ job at. at) leaves) (c.in-Err.ensures.grows.grown counted);
    }

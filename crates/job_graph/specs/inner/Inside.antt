-- What the fields of an unfolding are to its callers, and what they keep.
use Rattle.std.specs.Prelude.{◌≡◌, List, [], None, map, option_map, true}
use Rattle.job_graph.specs.Apart.{ids_differ}
use Rattle.job_graph.specs.Jobs.{Walker}
use Rattle.job_graph.specs.KnownJobs.{jobs_in, known_of}
use Rattle.job_graph.specs.Unfold.{Resolved, entries_from, known_from, unfolded}
use Rattle.job_graph.specs.UnfoldedSoFar.{UnfoldedSoFar, walks_of}
use Rattle.job_graph.specs.Unfolding.{fault_of}
use Rattle.job_graph.specs.inner.Ended.{ended_of}
use Rattle.job_graph.specs.inner.Kept.{KeepsRoot}
use Rattle.job_graph.specs.inner.Outputs.{result_of}
use Rattle.job_graph.specs.inner.Views.{resolved_of}
use Rattle.job_graph.specs.declared.progress.Progress.{Progress}

abbrev pub seen : Progress → UnfoldedSoFar
seen held = record {
  task = record { process = held.process.now; handed = held.fields; measures = held.facts.measures };
  learned = map resolved_of held.facts.learned;
  known = jobs_in held.known;
  result = result_of held.outputs;
  outs = held.outputs.named.items;
  refused = option_map fault_of held.fault;
}

-- the walk that it makes
abbrev pub walks_in : Progress → Walker
walks_in held = walks_of (seen held)

-- its flags say which of its jobs have ended
abbrev pub IsFlagged : Progress → Type 0
IsFlagged held = held.ended.items ≡ ended_of (map resolved_of held.facts.learned) held.known

-- its jobs, their parents and outputs are what these places unfold, learned in this order, and no equation fails
pub record Follows (walks : Walker) (learned : List Resolved) (held : Progress) : Type 0 where
  pub walker : walks_in held ≡ walks
  pub places : map resolved_of held.facts.learned ≡ learned
  pub jobs : jobs_in held.known ≡ (unfolded walks learned).jobs
  pub parents : map known_of held.known ≡ known_from [] (unfolded walks learned).jobs
  pub entries : held.entries ≡ entries_from 0 [] (unfolded walks learned).jobs
  pub fault : (unfolded walks learned).fault ≡ None
  pub result : result_of held.outputs ≡ (unfolded walks learned).result
  pub outs : held.outputs.named.items ≡ (unfolded walks learned).outs
  pub apart : ids_differ held.process.now ≡ true
  pub kept : KeepsRoot held.facts held.fields held.process.now held.kept
  pub ended : IsFlagged held

-- it follows what it has learned, also once a fault was met
abbrev pub Stands : Progress → Type 0
Stands held = Follows (walks_in held) (map resolved_of held.facts.learned) held

-- The folders of a run.
use Rattle.std.specs.Prelude.{ℕ, Bool, ◌++◌, codes, cond}
use Rattle.std.specs.Fmt.{decimal}
use Rattle.command_line.specs.declared.runtime.Runtime.{Runtime}
use Rattle.run_rules.specs.declared.setting.Options.{Options}
use Rattle.job_graph.specs.Words.{Name}

-- the folder of the job that was staged by the n-th request that makes folders
abbrev pub job_folder : Name → ℕ → Name
job_folder work n = work ++ codes "/j" ++ decimal n

abbrev pub out_folder : Name → ℕ → Name
out_folder work n = job_folder work n ++ codes "/out"

-- the folder that the files of the n-th request are fetched to
abbrev pub fetched_folder : Name → ℕ → Name
fetched_folder work n = work ++ codes "/f" ++ decimal n ++ codes "/out"

-- the folder of a number that has a job's outputs: that of a fetch, or of its child
abbrev pub left_folder : Name → Bool → ℕ → Name
left_folder work fetched n = cond fetched (fetched_folder work n) (out_folder work n)

-- its input files are copied to the numbered folders in this one
abbrev pub in_folder : Name → ℕ → Name
in_folder work n = job_folder work n ++ codes "/in"

abbrev pub tmp_folder : Name → ℕ → Name
tmp_folder work n = job_folder work n ++ codes "/tmp"

-- what the n-th job is given to run in
abbrev pub runtime_of : Options → ℕ → Runtime
runtime_of options n = record {
  outdir = out_folder options.work n;
  tmpdir = tmp_folder options.work n;
  path_env = options.path_env;
}

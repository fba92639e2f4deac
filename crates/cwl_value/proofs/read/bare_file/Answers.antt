use Rattle.cwl_value.proofs.BareFiles.{bare_reads}
use Rattle.cwl_value.proofs.read.bare_file.Goals as goal

pub returns-clause-ok : goal.returns-clause-ok
returns-clause-ok c = rw (bare_reads c.args.members.now.entries c.in_ok-place.place c.requires.two c.requires.class c.in_ok-place.ensures.ok) c.file_of.ensures.ok

use Rattle.std.proofs.Common.{None, lit<}
use Rattle.std.proofs.lemmas.Str.Pattern.{strip_prefix_char}
use Rattle.document_table.proofs.Cuts.{plain_itself}
use Rattle.document_table.proofs.texts.plain_id.Goals as goal

pub returns-in-None : goal.returns-in-None
returns-in-None c = plain_itself c.args.text.now (strip_prefix_char 35 c.args.text.now None c.in-None.ensures.cases (lit< tt))

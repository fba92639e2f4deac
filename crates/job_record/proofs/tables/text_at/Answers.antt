use Rattle.std.proofs.Common.{sym, ap, subst, ◌∙◌}
use Rattle.std.specs.Prelude.{IsUtf8}
use Rattle.std.proofs.lemmas.Str.{IsUtf8-string_bytes}
use Rattle.sqlite.specs.declared.types.Value.TheVariants.{Text}
use Rattle.job_record.proofs.tables.text_at.Goals as goal

pub returns-in-Ok-clause-ok : goal.returns-in-Ok-clause-ok
returns-in-Ok-clause-ok c = (
  c.in-Ok.ensures.ok.0,
  (c.in-Ok.ensures.ok.1 ∙ ap Text (sym c.from_string.ensures), subst IsUtf8 (sym c.from_string.ensures) (IsUtf8-string_bytes c.in-Ok.text)),
)

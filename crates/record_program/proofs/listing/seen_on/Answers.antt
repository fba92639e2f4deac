use Rattle.std.proofs.lemmas.Result.{IfOk-weaker}
use Rattle.record_program.proofs.listing.seen_on.Goals as goal

pub returns-in-Ok-clause-whose : goal.returns-in-Ok-clause-whose
returns-in-Ok-clause-whose g c =
    IfOk-weaker c.listed_in.result _ _ (λ listing is. record { kept = c.in-Ok.kept.conn; is_of = c.in-Ok.ensures.whose; is_listing = is }) c.listed_in.ensures.ok

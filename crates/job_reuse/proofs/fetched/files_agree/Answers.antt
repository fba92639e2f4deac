use Rattle.std.proofs.Common.{◌↔◌, true, IsTrue, All, Contains, sym, subst}
use Rattle.job_reuse.specs.Rows.{AreTheSame}
use Rattle.job_reuse.proofs.Among.{none_same, same_by}
use Rattle.job_reuse.proofs.fetched.files_agree.Goals as goal

pub returns-then-all_among : goal.returns-then-all_among
returns-then-all_among c =
    same_by c.args.row.now.files c.args.fetched.now true c.all_among-then-all_among.result
    (subst (λ b. IsTrue b ↔ All (Contains c.args.fetched.now) c.args.row.now.files) c.if-all_among.true (subst (λ l. IsTrue c.all_among.result ↔ All (Contains c.args.fetched.now) l) c.as_slice-files.ensures c.all_among.ensures))
    (subst (λ l. IsTrue c.all_among-then-all_among.result ↔ All (Contains l) c.args.fetched.now) c.as_slice-files.ensures c.all_among-then-all_among.ensures)

pub returns-else-all_among : goal.returns-else-all_among
returns-else-all_among c =
    subst (λ b. IsTrue b ↔ AreTheSame c.args.row.now.files c.args.fetched.now) (sym c.if-all_among.false)
    (none_same c.args.row.now.files c.args.fetched.now (subst (λ b. IsTrue b ↔ All (Contains c.args.fetched.now) c.args.row.now.files) c.if-all_among.false (subst (λ l. IsTrue c.all_among.result ↔ All (Contains c.args.fetched.now) l) c.as_slice-files.ensures c.all_among.ensures)))

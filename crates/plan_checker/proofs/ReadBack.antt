use Rattle.std.proofs.Common.{sym, ap, ◌∙◌, arith}
use Rattle.std.proofs.lemmas.Bool.{cases_lt}
use Rattle.std.proofs.Common.{⊎_elim}
use Rattle.plan_checker.specs.Format.{first_lines}
use Rattle.plan_checker.specs.Laws.{TextsTellCertificates, OneBadLineIsFirst}
use Rattle.plan_checker.proofs.TextLines.{texts_once}

pub tell : TextsTellCertificates
tell = record {
  one = λ text g h m o c d p q. texts_once g h m o c d p.whole q.whole (sym p.written ∙ q.written);
  good = λ text g m c p n bad. bad.bad (record { graph = g; marks = m; charges = c; whole = p.whole; same = ap (λ t. first_lines n t) (sym p.written) });
}

pub one_first : OneBadLineIsFirst
one_first text n k p q =
    ⊎_elim (λ lt. absurd (p.bad (q.good_before n lt)))
    (λ le. ⊎_elim (λ lt. absurd (q.bad (p.good_before k lt))) (λ ge. omega arith) (cases_lt k n))
    (cases_lt n k)

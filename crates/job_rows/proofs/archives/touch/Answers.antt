use Rattle.std.proofs.Common.{◌≡◌, inl, inr, refl, Some, None, sym, ap, subst, ◌∙◌}
use Rattle.std.specs.Prelude.{find}
use Rattle.std.proofs.lemmas.Result.{err_from_is_err_and}
use Rattle.job_rows.specs.Map.{is_of, next_used, AreSpent, AreUnspent}
use Rattle.job_rows.proofs.Losing.{none_there, found_there, renewed}
use Rattle.job_rows.proofs.archives.touch.Goals as goal

pub returns-in_default-clause-err : goal.returns-in_default-clause-err
returns-in_default-clause-err c =
    let key = c.args.key.now in
    let list = c.args.archives.now.items in
    let none : find (is_of key) list ≡ None = ap (find (is_of key)) (sym c.deref.ensures.value) ∙ sym c.in_default.ensures in
    inr (inl (refl, none_there key list none))

pub returns-in_err-used-clause-err : goal.returns-in_err-used-clause-err
returns-in_err-used-clause-err c =
    let key = c.args.key.now in
    let list = c.args.archives.now.items in
    let found : find (is_of key) list ≡ Some c.in-Some.archive.now = ap (find (is_of key)) (sym c.deref.ensures.value) ∙ sym c.in-Some.ensures in
    let p = err_from_is_err_and c.from_residual.result c.from_residual.ensures.1 in
    let spent = c.in_err-used.ensures.err in
    rw (p.1, p.2) (inr (inr (spent.0, found_there key list c.in-Some.archive.now found, subst AreSpent c.deref-2.ensures.value spent.1)))

pub returns-clause-ok : goal.returns-clause-ok
returns-clause-ok c =
    let key = c.args.key.now in
    let list = c.args.archives.now.items in
    let found : find (is_of key) list ≡ Some c.in-Some.archive.now = ap (find (is_of key)) (sym c.deref.ensures.value) ∙ sym c.in-Some.ensures in
    renewed key list c.in-Some.archive.now c.in_ok-key.key c.in_ok-used.used c.reserve.new.self.items c.renew.new.archives.items found c.in_ok-key.ensures (c.in_ok-used.ensures.ok ∙ ap next_used c.deref-2.ensures.value) c.in_ok-reserve.ensures.items c.renew.ensures

pub returns-clause-can : goal.returns-clause-can
returns-clause-can c =
    let key = c.args.key.now in
    let list = c.args.archives.now.items in
    let found : find (is_of key) list ≡ Some c.in-Some.archive.now = ap (find (is_of key)) (sym c.deref.ensures.value) ∙ sym c.in-Some.ensures in
    (found_there key list c.in-Some.archive.now found, subst AreUnspent c.deref-2.ensures.value c.in_ok-used.ensures.unspent)

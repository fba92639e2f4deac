use Rattle.std.proofs.Common.{◌≡◌, None, [], get_or, sym, ap, ◌∙◌, unwrap_or}
use Rattle.std.specs.Prelude.{slice_get}
use Rattle.std.specs.Option.{option_copied}
use Rattle.std.proofs.lemmas.Option.{unwrap_or-slice_get}
use Rattle.flow_planner.proofs.network.pass_at.Goals as goal

pub returns-in-None : goal.returns-in-None
returns-in-None c =
    let rows = c.args.charges.now.pass in
    let job = c.args.job in
    let none : slice_get rows job ≡ None = sym c.get.ensures.value ∙ ap option_copied c.in-None.is in
    ap (λ xs. get_or xs c.args.slot 0) (sym (ap (λ o. unwrap_or o []) none) ∙ unwrap_or-slice_get rows job [])

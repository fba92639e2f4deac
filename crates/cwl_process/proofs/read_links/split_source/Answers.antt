use Rattle.std.proofs.Common.{rules, ◌≡◌, ◌==◌, None, Some, length, sym, ap, ◌∙◌}
use Rattle.std.specs.Prelude.{if◌then◌else◌}
use Rattle.std.specs.List.{after_first, before_first, position_or_len}
use Rattle.cwl_process.specs.declared.links.Source.{Source}
use Rattle.cwl_process.proofs.Slashes.{no_slash}
use Rattle.cwl_process.proofs.read_links.split_source.Goals as goal

pub returns-in_ok-from_text-in-None : goal.returns-in_ok-from_text-in-None
returns-in_ok-from_text-in-None c =
    let text = c.args.text.now in
    let whole : position_or_len (λ b. b == 47) text ≡ length text = search rules in
    let linked : Source = record { step = Some (before_first (λ b. b == 47) text); name = after_first (λ b. b == 47) text } in
    let own : Source = record { step = None; name = text } in
    ap (λ name. record { step = None; name = name }) c.in_ok-from_text-in-None.ensures ∙ sym (ap (λ test. if test then linked else own) (no_slash text whole))

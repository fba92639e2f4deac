use Rattle.std.proofs.Common.{◌≡◌, ◌++◌, length, below_more, ap, string_bytes, rules, arith}
use Rattle.std.proofs.lemmas.Grind.{common_steps}
use Rattle.plan_checker.specs.Format.{title, count_line, certificate_text}
use Rattle.plan_checker.proofs.Texts.{lines_step}
use Rattle.plan_checker.proofs.WholeTexts.{whole_text}
use Rattle.plan_checker.proofs.writer.write_certificate.Goals as goal

pub loop-i-preserved : goal.loop-i-preserved
loop-i-preserved c = record {
  text = lines_step (title ++ count_line (length c.args.graph.now)) _ _ c.args.graph.now c.args.plan.now.marks c.args.charges.now c.loop-i.i c.loop-i.invariant.text c.in_ok-push_row.ensures.text;
  small = below_more _ _ c.loop-i.invariant.small c.in_ok-push_row.ensures.small;
}

pub returns-clause-read_back : goal.returns-clause-read_back
returns-clause-read_back c =
    let counted = ap length c.vertices-count.ensures.list in
    let text : string_bytes c.push_str-2.new.self ≡ certificate_text c.args.graph.now c.args.plan.now.marks c.args.charges.now = first_of (search rules, grind (arith, common_steps)) in
    whole_text _ c.args.graph.now c.args.plan.now.marks c.args.charges.now c.loop-i.i c.vertices-count.ensures.within c.requires.marks_counted c.requires.charges_counted (omega arith) c.loop-i.invariant.small text

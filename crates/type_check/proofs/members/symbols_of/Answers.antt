use Rattle.std.proofs.Common.{rules, ◌∙◌, sym}
use Rattle.std.specs.Str.{bytes_eq}
use Rattle.std.proofs.lemmas.List.Sorted.{list_any-IsPermutation}
use Rattle.type_check.specs.inner.Members.{all_lent}
use Rattle.type_check.proofs.Kept.{all_noted}
use Rattle.type_check.proofs.members.symbols_of.Goals as goal

pub returns : goal.returns
returns c =
    let held = c.loop-member.held.items in
    let are = all_noted held c.args.members.now (all_lent c.args.members.now) c.loop-member.member-index (search rules) c.loop-member.invariant in
    (c.sort_unstable.ensures.sorted, λ text. sym (list_any-IsPermutation (λ k. bytes_eq k.now text) held c.sort_unstable.new.self.items c.sort_unstable.ensures.permutation) ∙ are text)

use Rattle.serde_json.specs.View.{members_view}
use Rattle.run_facts.proofs.KeyLemmas.{Completes}
use Rattle.run_facts.proofs.key_parts.member_texts.Given as goal

abbrev pub invariant-loop-name : goal.invariant-loop-name
invariant-loop-name l = Completes (members_view l.members.entries) l.name-iterator l.texts.items

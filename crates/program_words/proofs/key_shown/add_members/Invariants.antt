use Rattle.std.proofs.Common.{◌≡◌, ◌++◌, string_bytes}
use Rattle.serde_json.specs.View.{members_view}
use Rattle.program_words.specs.KeyWords.{member_words}
use Rattle.program_words.proofs.key_shown.add_members.Given as goal

abbrev pub invariant-loop-name : goal.invariant-loop-name
invariant-loop-name l = string_bytes l.words ++ member_words (members_view l.name-iterator) ≡ string_bytes l.fn.words ++ member_words (members_view l.members.entries)

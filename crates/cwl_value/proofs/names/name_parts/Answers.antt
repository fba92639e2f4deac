use Rattle.std.proofs.Common.{[], Some, None, take, lit<, refl, sym, ◌∙◌, ap, arith}
use Rattle.std.proofs.lemmas.Str.Pattern.{rfind_char}
use Rattle.cwl_value.specs.NameParts.{has_other}
use Rattle.cwl_value.proofs.Periods.{before_last-at, before_last-none, rooted, rootless, ext-rooted, ext-rootless}
use Rattle.cwl_value.proofs.names.name_parts.Goals as goal
use Rattle.cwl_value.proofs.names.name_parts.Goals.{in-Some+else-has_other_byte, in_default}

pub returns-then-has_other_byte-clause-root : goal.returns-then-has_other_byte-clause-root
returns-then-has_other_byte-clause-root c =
    let name = c.args.name.now in
    let found = rfind_char 46 name (Some c.in-Some.at) c.in-Some.ensures.cases (lit< tt) in
    let last = before_last-at name c.in-Some.at found.0 found.1 found.2 in
    let other = ap has_other (sym c.split_at.ensures.front) ∙ sym c.has_other_byte.ensures ∙ c.if-has_other_byte.true in
    c.split_at.ensures.front ∙ sym (rooted name c.in-Some.at last other)

pub returns-then-has_other_byte-clause-extension :
    goal.returns-then-has_other_byte-clause-extension
returns-then-has_other_byte-clause-extension c =
    let name = c.args.name.now in
    let found = rfind_char 46 name (Some c.in-Some.at) c.in-Some.ensures.cases (lit< tt) in
    let last = before_last-at name c.in-Some.at found.0 found.1 found.2 in
    let other = ap has_other (sym c.split_at.ensures.front) ∙ sym c.has_other_byte.ensures ∙ c.if-has_other_byte.true in
    c.split_at.ensures.back ∙ sym (ext-rooted name c.in-Some.at (omega (arith, found.0)) (rooted name c.in-Some.at last other))

pub returns-clause-root : goal.returns-clause-root
returns-clause-root c =
    let name = c.args.name.now in
    elim c.match-rfind.branch [
      | in-Some+else-has_other_byte w ↦
          let found = rfind_char 46 name (Some w.in-Some.at) w.in-Some.ensures.cases (lit< tt) in
          let last = before_last-at name w.in-Some.at found.0 found.1 found.2 in
          sym (rootless name (take w.in-Some.at name) last (ap has_other (sym w.split_at.ensures.front) ∙ sym w.has_other_byte.ensures ∙ w.if-has_other_byte.false))
      | in_default w ↦
          let found = rfind_char 46 name None w.in_default.ensures.cases (lit< tt) in
          sym (rootless name [] (before_last-none name found) refl)
    ]

pub returns-clause-extension : goal.returns-clause-extension
returns-clause-extension c = sym (ext-rootless c.args.name.now (sym (returns-clause-root c)))

use Rattle.std.proofs.Common.{arith, sym, ap, ◌∙◌, refl, ◌≡◌, ◌+◌, drop, slice_get, Some}
use Rattle.std.proofs.lemmas.List.{drop-drop}
use Rattle.proc_host.specs.Script.{ScriptState}
use Rattle.proc_host.specs.declared.reply.Reply.TheVariants as replies
use Rattle.proc_host.proofs.Running.{next_is_fresh, up_to_next}
use Rattle.proc_host.proofs.Told.{start_told, next_within, starts_more}
use Rattle.proc_host.proofs.scripted.ScriptedHost.start.Goals as goal

pub invariant_of-self-2 : goal.invariant_of-self-2
invariant_of-self-2 c =
    let next : slice_get c.args.self.now.script 0 ≡ Some replies.Start = c.if-not-says_start.ensures.0 refl in
    let first : slice_get (drop c.self.inside.given c.self.inside.script.items) 0 ≡ Some replies.Start =
    ap (λ (s : ScriptState). slice_get s.script 0) c.self.view_is ∙ next in
    record {
      within = omega (arith, next_within c.self.inside.given c.self.inside.script.items _ first);
      by_script = omega arith;
      counted = rw c.in_ok-note_start.ensures.log (ap (λ n. n + 1) c.self.invariant.counted ∙ sym (starts_more c.self.inside.log.items _ _));
      numbered = rw c.in_ok-note_start.ensures.running (up_to_next _ _ c.self.invariant.numbered);
    }

pub returns-clause-fresh : goal.returns-clause-fresh
returns-clause-fresh c = rw (c.new.ensures, ← c.self.view_is) (next_is_fresh _ _ c.self.invariant.numbered)

pub returns-clause-scripted : goal.returns-clause-scripted
returns-clause-scripted c =
    let next : slice_get c.args.self.now.script 0 ≡ Some replies.Start = c.if-not-says_start.ensures.0 refl in record {
      answer = rw (c.new.ensures, ap (λ (s : ScriptState). s.started) c.self.view_is) (start_told c.args.self.now c.args.launch.now _ next);
      state = rw (← c.self.view_is, c.new.ensures, c.in_ok-note_start.ensures.log, c.in_ok-note_start.ensures.running, c.in_ok-clone_in.ensures, drop-drop);
    }

pub returns-clause-numbered : goal.returns-clause-numbered
returns-clause-numbered c = rw (c.new.ensures, ← c.self.view_is) (ap (λ n. n + 1) c.self.invariant.counted)

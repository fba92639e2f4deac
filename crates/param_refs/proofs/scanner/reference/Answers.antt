use Rattle.param_refs.proofs.Scanned.{no_symbol, no_closing, closed_reference}
use Rattle.param_refs.proofs.scanner.reference.Goals as goal

pub returns-in_default-clause-err : goal.returns-in_default-clause-err
returns-in_default-clause-err c = λ fault same. (cc, no_symbol c.args.text.now c.in_default.ensures)

pub returns-in_default-past-clause-err : goal.returns-in_default-past-clause-err
returns-in_default-past-clause-err c = λ fault same. (
  cc,
  no_closing c.args.text.now c.in-Some.symbol.now c.in-Some.rest.now c.in_ok-segments.rest.now c.in_ok-segments.segments c.in-Some.ensures c.in_ok-segments.ensures
      c.in_default-past.ensures,
)

pub returns-clause-ok : goal.returns-clause-ok
returns-clause-ok c =
    closed_reference c.args.text.now c.in-Some.symbol.now c.in_ok-symbol.symbol c.in-Some.rest.now c.in_ok-segments.rest.now c.in-Some-past.rest.now c.in_ok-segments.segments c.in-Some.ensures c.in_ok-segments.ensures
    c.in-Some-past.ensures c.in_ok-symbol.ensures

use Rattle.param_refs.proofs.Scanned.{quotes_open, quotes_closed, quotes_some, quote-ascii}
use Rattle.param_refs.proofs.scanner.in_quotes.Goals as goal

pub past-requires : goal.past-requires
past-requires c = quote-ascii c.args.quote c.requires

pub quoted-requires : goal.quoted-requires
quoted-requires c = quote-ascii c.args.quote c.requires

pub returns-in_err-inside : goal.returns-in_err-inside
returns-in_err-inside c =
    rw c.from_residual.ensures (quotes_closed c.args.quote c.args.text.now c.in_err-inside.ensures)

pub returns-in_err-key : goal.returns-in_err-key
returns-in_err-key c =
    let inside = c.in_ok-inside.inside in
    rw c.from_residual-in_err-key.ensures (quotes_open c.args.quote c.args.text.now inside.now c.in_ok-inside.ensures c.in_err-key.ensures)

pub returns : goal.returns
returns c =
    let inside = c.in_ok-inside.inside in
    quotes_some c.args.quote c.args.text.now inside.now c.in_ok-key.key.now c.in_ok-key.rest.now c.requires c.in_ok-inside.ensures c.in_ok-key.ensures

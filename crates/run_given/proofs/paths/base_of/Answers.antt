use Rattle.url.proofs.PathLemmas.{bytes_from_type}
use Rattle.run_given.proofs.Located.{from_root_url}
use Rattle.run_given.proofs.paths.base_of.Goals as goal

pub returns-clause-is_url : goal.returns-clause-is_url
returns-clause-is_url c = from_root_url c.args.here.now c.args.name.now (bytes_from_type _ c.type_inv.here) (bytes_from_type _ c.type_inv.name)

pub returns-in_err-path-clause-is_url : goal.returns-in_err-path-clause-is_url
returns-in_err-path-clause-is_url c = from_root_url c.args.here.now c.args.name.now (bytes_from_type _ c.type_inv.here) (bytes_from_type _ c.type_inv.name)

pub returns-in_err-location-clause-is_url : goal.returns-in_err-location-clause-is_url
returns-in_err-location-clause-is_url c = from_root_url c.args.here.now c.args.name.now (bytes_from_type _ c.type_inv.here) (bytes_from_type _ c.type_inv.name)

-- The empty text is a template.
use Rattle.std.proofs.Common.{◌≡◌, [], Ok, refl}
use Rattle.param_refs.specs.Parsed.{parsed}

pub empty_is_read : parsed [] ≡ Ok []
unfolding parsed
empty_is_read = refl

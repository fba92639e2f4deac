-- Free vertices: those that load at no cost, as a job that is in flight or at hand. No cheapest plan computes one.
use Rattle.std.specs.Prelude.{◌≡◌, Some}
use Rattle.plan_checker.specs.declared.vertex.Vertex.{Vertex}

-- its outputs are loaded at no cost
abbrev pub IsFree : Vertex → Type 0
IsFree job = job.load ≡ Some 0

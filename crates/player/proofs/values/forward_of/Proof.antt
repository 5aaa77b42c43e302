-- `forward_of` meets its contract: the walk of `ByValue.antt`, at `forward` and its direction.
-- Assumes nothing.
use mathlib.Core.Path.{refl}
use contract.Running.{tables, tables_of}
use denote.Triple.Spec.{triple_of}
use denote.Triple.Table.{entered}
use Rattle.player.specs.declared.record.Direction.TheVariants.{Forward}
use Rattle.player.specs.working.Playing.{move_of}
use Rattle.player.proofs.ByValue.{by_value_as}
use Rattle.player.proofs.forward.Symbol.{name as #lent}
use Rattle.player.proofs.forward.Met as lent-thm
use Rattle.player.specs.contracts.values.forward_of.Key.{name as #key}
use Rattle.player.specs.contracts.values.forward_of as f
use Rattle.player.proofs.values.forward_of.Statement as stated
use Rattle.player.proofs.values.forward_of.Code as code

pub forward_of_spec : {M : Type 1} → stated.statement M
unfolding tables_of
forward_of_spec 𝓤 𝓛 𝓜 𝓡 wired =
    entered 𝓤 𝓛.H (triple_of 𝓛 f.signature (f.spec 𝓛 𝓜.mem 𝓡.returns))
    (tables 𝓤 𝓛.H 𝓜 𝓡 𝓡.env).C (tables 𝓤 𝓛.H 𝓜 𝓡 𝓡.env).Λ #key code.function (code.unfolded 𝓤 𝓛.H 𝓜 𝓡 wired)
    (by_value_as 𝓛 (move_of Forward) (f.clauses 𝓛 𝓜.mem 𝓡.returns) refl (tables_of 𝓤 𝓛.H 𝓜 (tables 𝓤 𝓛.H 𝓜 𝓡 𝓡.env)) #lent
    (lent-thm.met 𝓤 𝓛 𝓜 𝓡 (code.calls-player::forward 𝓡.env wired)))

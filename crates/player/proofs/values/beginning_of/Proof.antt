-- `beginning_of` meets its contract: the walk of `ByValue.antt`, at `beginning` and its direction.
-- Assumes nothing.
use mathlib.Core.Path.{refl}
use contract.Running.{tables, tables_of}
use denote.Triple.Spec.{triple_of}
use denote.Triple.Table.{entered}
use Rattle.player.specs.declared.record.Direction.TheVariants.{Beginning}
use Rattle.player.specs.working.Playing.{move_of}
use Rattle.player.proofs.ByValue.{by_value_as}
use Rattle.player.proofs.beginning.Symbol.{name as #lent}
use Rattle.player.proofs.beginning.Met as lent-thm
use Rattle.player.specs.contracts.values.beginning_of.Key.{name as #key}
use Rattle.player.specs.contracts.values.beginning_of as f
use Rattle.player.proofs.values.beginning_of.Statement as stated
use Rattle.player.proofs.values.beginning_of.Code as code

pub beginning_of_spec : {M : Type 1} → stated.statement M
unfolding tables_of
beginning_of_spec 𝓤 𝓛 𝓜 𝓡 wired =
    entered 𝓤 𝓛.H (triple_of 𝓛 f.signature (f.spec 𝓛 𝓜.mem 𝓡.returns))
    (tables 𝓤 𝓛.H 𝓜 𝓡 𝓡.env).C (tables 𝓤 𝓛.H 𝓜 𝓡 𝓡.env).Λ #key code.function (code.unfolded 𝓤 𝓛.H 𝓜 𝓡 wired)
    (by_value_as 𝓛 (move_of Beginning) (f.clauses 𝓛 𝓜.mem 𝓡.returns) refl (tables_of 𝓤 𝓛.H 𝓜 (tables 𝓤 𝓛.H 𝓜 𝓡 𝓡.env)) #lent
    (lent-thm.met 𝓤 𝓛 𝓜 𝓡 (code.calls-player::beginning 𝓡.env wired)))

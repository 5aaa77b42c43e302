-- `back_of` meets its contract: the walk of `ByValue.antt`, at `back` and its direction.
-- Assumes nothing.
use mathlib.Core.Path.{refl}
use contract.Running.{tables, tables_of}
use denote.Triple.Spec.{triple_of}
use denote.Triple.Table.{entered}
use Rattle.player.specs.declared.record.Direction.TheVariants.{Back}
use Rattle.player.specs.working.Playing.{move_of}
use Rattle.player.proofs.ByValue.{by_value_as}
use Rattle.player.proofs.back.Symbol.{name as #lent}
use Rattle.player.proofs.back.Met as lent-thm
use Rattle.player.specs.contracts.values.back_of.Key.{name as #key}
use Rattle.player.specs.contracts.values.back_of as f
use Rattle.player.proofs.values.back_of.Statement as stated
use Rattle.player.proofs.values.back_of.Code as code

pub back_of_spec : {M : Type 1} → stated.statement M
unfolding tables_of
back_of_spec 𝓤 𝓛 𝓜 𝓡 wired =
    entered 𝓤 𝓛.H (triple_of 𝓛 f.signature (f.spec 𝓛 𝓜.mem 𝓡.returns))
    (tables 𝓤 𝓛.H 𝓜 𝓡 𝓡.env).C (tables 𝓤 𝓛.H 𝓜 𝓡 𝓡.env).Λ #key code.function (code.unfolded 𝓤 𝓛.H 𝓜 𝓡 wired)
    (by_value_as 𝓛 (move_of Back) (f.clauses 𝓛 𝓜.mem 𝓡.returns) refl (tables_of 𝓤 𝓛.H 𝓜 (tables 𝓤 𝓛.H 𝓜 𝓡 𝓡.env)) #lent
    (lent-thm.met 𝓤 𝓛 𝓜 𝓡 (code.calls-player::back 𝓡.env wired)))

-- `beginning` meets its contract: the walk of `Lent.antt`, at `beginning_from` and its direction.
-- Assumes nothing.
use mathlib.Core.Path.{refl}
use contract.Running.{tables, tables_of}
use denote.Triple.Spec.{triple_of}
use denote.Triple.Table.{entered}
use Rattle.player.specs.declared.record.Direction.TheVariants.{Beginning}
use Rattle.player.specs.working.Playing.{move_of}
use Rattle.player.proofs.Lent.{lent_as}
use Rattle.player.proofs.moves.beginning_from.Symbol.{name as #from}
use Rattle.player.proofs.moves.beginning_from.Met as from-thm
use Rattle.player.specs.contracts.beginning.Key.{name as #key}
use Rattle.player.specs.contracts.beginning as f
use Rattle.player.proofs.beginning.Statement as stated
use Rattle.player.proofs.beginning.Code as code

pub beginning_spec : {M : Type 1} → stated.statement M
unfolding tables_of
beginning_spec 𝓤 𝓛 𝓜 𝓡 wired =
    entered 𝓤 𝓛.H (triple_of 𝓛 f.signature (f.spec 𝓛 𝓜.mem 𝓡.returns))
    (tables 𝓤 𝓛.H 𝓜 𝓡 𝓡.env).C (tables 𝓤 𝓛.H 𝓜 𝓡 𝓡.env).Λ #key code.function (code.unfolded 𝓤 𝓛.H 𝓜 𝓡 wired)
    (lent_as 𝓛 (move_of Beginning) (f.clauses 𝓛 𝓜.mem 𝓡.returns) refl (tables_of 𝓤 𝓛.H 𝓜 (tables 𝓤 𝓛.H 𝓜 𝓡 𝓡.env)) #from
    (from-thm.met 𝓤 𝓛 𝓜 𝓡 (code.calls-player::moves::beginning_from 𝓡.env wired)))

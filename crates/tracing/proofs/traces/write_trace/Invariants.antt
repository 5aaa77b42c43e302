-- `write_trace` meets its contract: one walk back counts the steps, another writes them.
use Prim.Native.Nat.{◌-◌, ◌^◌}
use Rattle.exploration.specs.working.CodeTransitions.{transitions_in}
use Rattle.exploration.proofs.CodeSteps.{code_lawful}
use Rattle.exploration.proofs.Trace.{Walking}
use Rattle.exploration.proofs.Trace.{Writing}
use Rattle.tracing.proofs.traces.write_trace.Given as goal

abbrev pub invariant-count : goal.invariant-count
invariant-count l =
    Walking (transitions_in l.table.ops.now l.table.plan) (code_lawful l.table.ops.now l.table.plan) l.parent l.t l.n l.s

abbrev pub decreases-count : goal.decreases-count
decreases-count l = 2 ^ l.table.plan.bits - l.n

abbrev pub invariant-write : goal.invariant-write
invariant-write l =
    Writing (transitions_in l.table.ops.now l.table.plan) (code_lawful l.table.ops.now l.table.plan) l.parent l.t l.at l.initial.out l.out l.i l.u

-- The machine that runs code words with one choice word.
-- Assumes nothing.
use Rattle.std.specs.Prelude.{ℕ, ◌+◌, ◌-◌, ◌*◌, ◌/◌, ◌%◌, ◌^◌, List, [], ◌∷◌, cond, eqb, length}
use Rattle.meaning.specs.working.Digits.{digit, put}
use Rattle.evaluation.specs.declared.machine.Machine.{Machine}

-- A value pushed onto a stack of 64 bits.
abbrev pub push : ℕ → ℕ → ℕ
push s v = s * 2 % 2 ^ 64 + v

-- The values after a node of kind k with argument j, at the state s under the word w, the kinds being in the order of the notation's Layout.
-- A code word of another kind is no node, and leaves the values.
unfoldable pub node_kind : ℕ → ℕ → ℕ → ℕ → ℕ → ℕ
node_kind k j w s t =
    cond (eqb k 0) (push t (j % 2))
    (cond (eqb k 1) (push t (digit s j))
    (cond (eqb k 2) (push t (digit w j))
    (cond (eqb k 3) (t / 2 * 2 + (1 - t % 2))
    (cond (eqb k 4) (t / 4 * 2 + (t % 2 + t / 2 % 2) / 2)
    (cond (eqb k 5) (t / 4 * 2 + (t % 2 + t / 2 % 2 + 1) / 2)
    t)))))

abbrev pub node_of : ℕ → ℕ → ℕ → ℕ → ℕ
node_of op w s t = node_kind (op / 32) (op % 32) w s t

-- The nodes one after another.
abbrev pub values_of : List ℕ → ℕ → ℕ → ℕ → ℕ
values_of [] w s t = t
values_of (o ∷ os) w s t = values_of os w s (node_of o w s t)

-- The value of an expression's code: what is on top after its nodes.
abbrev pub value_of : List ℕ → ℕ → ℕ → ℕ
value_of os w s = values_of os w s 0 % 2

-- How many passes a loop over code words takes: one to each.
abbrev pub passes_of : List ℕ → ℕ
passes_of os = length os

-- One code word of a command. A node changes the values alone, and a code word of an unknown kind nothing.
unfoldable pub kind_of : ℕ → ℕ → ℕ → Machine → Machine
kind_of k j w m =
    cond (eqb k 6)
    (cond (eqb (m.mask % 2) 0)
    (record { stack = m.stack / 2; mask = m.mask; state = m.state })
    (record { stack = m.stack / 2; mask = m.mask; state = put m.state j (m.stack % 2) }))
    (cond (eqb k 7) (record { stack = m.stack / 2; mask = m.mask * 2 % 2 ^ 32 + (m.mask % 2 + m.stack % 2) / 2; state = m.state })
    (cond (eqb k 8) (record { stack = m.stack; mask = m.mask / 2 * 2 + (m.mask / 2 % 2 + (1 - m.mask % 2)) / 2; state = m.state })
    (cond (eqb k 9) (record { stack = m.stack; mask = m.mask / 2; state = m.state })
    (record { stack = node_kind k j w m.state m.stack; mask = m.mask; state = m.state }))))

abbrev pub step_of : ℕ → ℕ → Machine → Machine
step_of op w m = kind_of (op / 32) (op % 32) w m

-- The code words one after another.
abbrev pub run_of : List ℕ → ℕ → Machine → Machine
run_of [] w m = m
run_of (o ∷ os) w m = run_of os w (step_of o w m)

-- Where a run begins: no value, and the mask on.
abbrev pub start_of : ℕ → Machine
start_of s = record { stack = 0; mask = 1; state = s }

-- Commands counted in one pass: what the tally has after so many steps, and how one more step changes it.
-- Assumes nothing.
use Rattle.std.specs.Prelude.{cond, List, map, ℕ, ◌+◌, ◌-◌, eqb, ltb, length, get_or, set}
use Rattle.windows.specs.Bursts.{occurs_from, last_stretch, burst}
use Rattle.windows.specs.declared.record.Step.{Step}
use Rattle.windows.specs.declared.record.Tally.{Tally}

-- The commands of the records of a list.
abbrev pub commands_in : List Step → List ℕ
commands_in l = map (λ (s : Step). s.command) l

-- The tally for steps with these commands.
unfoldable pub tally_of : ℕ → ℕ → List ℕ → Tally
tally_of k w xs =
    record {
      command = k;
      width = w;
      seen = length xs;
      here = occurs_from k w xs (last_stretch w xs);
      most = (burst k w xs).most;
      place = (burst k w xs).place;
    }

-- The tally where nothing is seen yet.
unfoldable pub fresh : ℕ → ℕ → Tally
fresh k w = record { command = k; width = w; seen = 0; here = 0; most = 0; place = 1 }

-- Which step leaves a window of w steps as step i enters it; i itself while none has to.
unfoldable pub leaving_of : ℕ → ℕ → ℕ
leaving_of w i = cond (ltb i w) i (i - w)

-- 1 for the command that is counted, 0 for another.
unfoldable pub is_one : ℕ → ℕ → ℕ
is_one k x = cond (eqb x k) 1 0

-- The counts with one more of a command.
unfoldable pub counted_of : List ℕ → ℕ → List ℕ
counted_of counts x = set counts x (get_or counts x 0 + 1)

-- The tally after one more step, with what the window shows then, the most, and its place.
abbrev pub next_of : Tally → ℕ → ℕ → ℕ → Tally
next_of t here most place = record { command = t.command; width = t.width; seen = t.seen + 1; here = here; most = most; place = place }

-- A step enters. While the window is not full, it shows all steps from place 1; afterwards a step leaves, and what is shown may be more than ever before.
unfoldable pub slid_of : Tally → ℕ → ℕ → Tally
slid_of t entering leaving =
    let grown = t.here + is_one t.command entering in
    let here = grown - is_one t.command leaving in
    cond (ltb t.seen t.width)
    (next_of t grown grown 1)
    (cond (ltb t.most here) (next_of t here here (t.seen - t.width + 2)) (next_of t here t.most t.place))

-- Each symbol can be completed, so each state of the reading can.
-- Assumes nothing.
use mathlib.Core.Path.{refl}
use mathlib.Core.List.{List, [], ◌∷◌, ◌++◌}
use Prim.Native.Nat.{ℕ}
use Rattle.notation.specs.Tokens.{sign, name, SHARED, ROW, START, KEEP, EACH, COMMAND, IF, DO, ELSE, SKIP, ZERO, DOT, Name}
use Rattle.notation.specs.Notation.{declares, constant, begins_item, begins_command, Part, part, plain, command_name, tree', clause', command', RowItem, Item, Clause, Command, Tree, false'}
use Rattle.notation.specs.working.Table.{Sym, lit, whole, rows, clause, names, title, one_command, commands, factor, ands, ors, item, items, row_item, row_items, Val, Cont, lines, skips, find, Reads, done, over, takes}
use Rattle.notation.proofs.NotationToTable.{at_sign}

-- Some parts for a symbol.
record Least (n : Sym) : Type 0 where
  parts : List Part
  value : Val n
  serves : (σ : List Sym) (k : Val n → Cont σ Tree) (rest : List Part) (x : Tree) → Reads σ (k value) rest x → Reads (n ∷ σ) k (parts ++ rest) x

abbrev nobody : Name
nobody = record { place = 0; word = [] }

abbrev zero_part_lem : Part
zero_part_lem = part constant (sign ZERO)

abbrev skip-part : Part
skip-part = part begins_item (sign SKIP)

abbrev a_clause : ℕ → List Part
a_clause k = plain k ∷ zero_part_lem ∷ plain EACH ∷ zero_part_lem ∷ plain DOT ∷ []

abbrev a_command-parts : List Part
a_command-parts = part begins_command (sign COMMAND) ∷ part (declares command_name) (name nobody) ∷ plain IF ∷ zero_part_lem ∷ plain DO ∷ skip-part ∷ plain ELSE ∷ skip-part ∷ plain DOT ∷ []

abbrev clause₀ : Clause
clause₀ = clause' false' false'

abbrev command₀ : Command
command₀ = command' nobody false' (Item.skip' ∷ []) (Item.skip' ∷ [])

least : (n : Sym) → Least n
unfolding find lines skips
least (lit k) = record { parts = plain k ∷ []; value = tt; serves = λ σ c rest x D. takes _ (at_sign {n = lit k} k _ _ _ []) D }
least whole = record {
  parts = plain SHARED ∷ plain DOT ∷ plain ROW ∷ plain DOT ∷ a_clause START ++ (a_clause KEEP ++ a_command-parts);
  value = tree' [] [] clause₀ clause₀ (command₀ ∷ []);
  serves = λ σ c rest x D. takes _ refl (over refl (takes _ refl (takes _ refl (over refl (takes _ refl
      (takes _ refl (takes _ refl (over refl (over refl (takes _ refl (takes _ refl (over refl (over refl (takes _ refl
      (takes _ refl (takes _ refl (over refl (over refl (takes _ refl (takes _ refl (over refl (over refl (takes _ refl
      (takes _ refl (takes _ refl (takes _ refl (takes _ refl (over refl (over refl (takes _ refl (takes _ refl (over refl (takes _ refl (takes _ refl (over refl (takes _ refl
      (over refl D)))))))))))))))))))))))))))))))))))));
}
least rows = record { parts = plain ROW ∷ plain DOT ∷ []; value = []; serves = λ σ c rest x D. takes _ refl (over refl (takes _ refl D)) }
least (clause k) = record {
  parts = a_clause k;
  value = clause₀;
  serves = λ σ c rest x D. takes _ (at_sign {n = clause k} k _ _ _ []) (takes _ refl (over refl (over refl (takes _ refl (takes _ refl (over refl (over refl (takes _ refl D))))))));
}
least (names s) = record { parts = []; value = []; serves = λ σ c rest x D. over refl D }
least title = record { parts = part (declares command_name) (name nobody) ∷ []; value = nobody; serves = λ σ c rest x D. takes _ refl D }
least one_command = record {
  parts = a_command-parts;
  value = command₀;
  serves = λ σ c rest x D. takes _ refl (takes _ refl
      (takes _ refl (takes _ refl (over refl (over refl
      (takes _ refl (takes _ refl (over refl (takes _ refl (takes _ refl (over refl (takes _ refl D))))))))))));
}
least commands = record { parts = []; value = []; serves = λ σ c rest x D. over refl D }
least (factor m d) = record { parts = zero_part_lem ∷ []; value = false'; serves = λ σ c rest x D. takes _ refl D }
least (ands m d) = record { parts = []; value = λ e. e; serves = λ σ c rest x D. over refl D }
least (ors m d) = record { parts = []; value = λ e. e; serves = λ σ c rest x D. over refl D }
least item = record { parts = skip-part ∷ []; value = Item.skip'; serves = λ σ c rest x D. takes _ refl D }
least items = record { parts = []; value = []; serves = λ σ c rest x D. over refl D }
least row_item = record { parts = skip-part ∷ []; value = RowItem.skip'; serves = λ σ c rest x D. takes _ refl D }
least row_items = record { parts = []; value = []; serves = λ σ c rest x D. over refl D }

pub complete : (σ : List Sym) (k : Cont σ Tree) → (ps : List Part) × (x : Tree) × Reads σ k ps x
complete [] x = ([], x, done)
complete (n ∷ σ) k =
    let l = least n in
    let h = complete σ (k l.value) in
    (l.parts ++ h.0, h.1, l.serves σ k h.0 h.1 h.2)

-- The lines over the reader's array of names are those of the commands' names as the text spells them.
-- Assumes nothing.
use mathlib.Core.Path.{◌≡◌, refl, sym, ap, ◌∙◌, subst}
use mathlib.Core.List.{List, []}
use Prim.Native.Nat.{ℕ, ◌+◌, ◌<◌, ◌≤◌}
use native.Mathlib.Omega.{arith}
use lib.ListN.{length, get_or, take}
use lib.Seq.{get_or-take, length-take-le}
use Rattle.std.specs.Prelude.{Ok, Err}
use Rattle.notation.specs.Tokens.{Word}
use Rattle.notation.specs.Notation.{Tree}
use Rattle.notation.specs.Layout.{layout_of}
use Rattle.notation.specs.Regular.{Regular}
use Rattle.notation.specs.Texts.{TextSaysTree, model_of, names_of}
use Rattle.notation.specs.working.Machine as N
use Rattle.notation.specs.working.Answer.{answer}
use Rattle.notation.proofs.Texts.{says_iff_answer, says-answer}
use Rattle.notation.proofs.Regular.{all_regular}
use Rattle.refusals.specs.declared.Refusal.{Refusal}
use Rattle.reader.specs.declared.Code.{Code}
use Rattle.reader.specs.Read.{code_of, reading_in, reading_of}
use Rattle.windows.specs.Promises.{answer_of, counts_after}
use Rattle.windows.specs.declared.record.Question.TheVariants.{Steps, Burst}
use Rattle.windows.specs.working.Surveying.{blanks}
use Rattle.names.specs.working.Arrays.{name_in}
use Rattle.names.proofs.CodesRead.{ReadAs, read_as}
use Rattle.names.proofs.NameArrays.{told}
use Rattle.bursts.specs.Lines.{lines_from}
use Rattle.bursts.specs.working.Writing.{line_for, answer_line, Listed, table_in, called_in, commands_in, table_of}
use Rattle.bursts.proofs.LinesLeft.{same_lines}

regular : (text : List ℕ) (x : Tree) → TextSaysTree text x → Regular (model_of x)
regular text x says = all_regular text (model_of x) (record { tree = x; says = says; meant = refl })

-- The names in a flat form: the commands' begin behind the others.
abbrev Lists : List ℕ → Code → Type 0
Lists text c = Listed text c c.commands

abbrev called : List ℕ → Code → ℕ → Word
called text c k = name_in text c.names (c.shared + c.row + k)

module _ (text : List ℕ) (x : Tree) (says : TextSaysTree text x) where
  abbrev flat : Code
  flat = code_of (layout_of (model_of x)) (names_of x)

  listed_in : Lists text flat
  unfolding code_of layout_of
  listed_in =
      let g = regular text x says in
      record {
        few_names = g.few_names;
        few = g.few_commands;
        named = λ k h. (told text x says g k h).named;
        short = λ k h. let t = told text x says g k h in omega (arith, ap length t.word, t.short);
      }

  commands_in_lem : flat.commands ≡ commands_in (N.read x)
  unfolding code_of layout_of commands_in
  commands_in_lem = refl

  called_in_lem : (k : ℕ) → k < flat.commands → called text flat k ≡ called_in text (N.read x) k
  unfolding code_of layout_of called_in
  called_in_lem k h = (told text x says (regular text x says) k h).word

module _ (text : List ℕ) (code : Code) (read : Ok code ≡ reading_of text) where
  abbrev known : ReadAs text code
  known = read_as text code read

  pub listed : Lists text code
  listed = subst (Lists text) (sym known.flat) (listed_in text known.tree known.says)

  pub few-listed : code.commands ≤ 16
  few-listed = listed.few

  module _ (b : List ℕ) (w : ℕ) where
    abbrev with : (ℕ → Word) → List ℕ → ℕ → List ℕ
    with f counts k = answer_line f counts text b w k

    -- The table that the code writes, from the flat form and the first counts that it has.
    pub table-read : (counts : List ℕ) → counts ≡ counts_after Steps text b blanks → code.commands ≤ length counts
        → table_in text code (take code.commands counts) b w ≡ table_of text b w
    table-read counts f long =
        let d = flat text known.tree known.says in
        let now = counts_after Steps text b blanks in
        ap (λ n. lines_from (with (called text code) (take code.commands counts)) 0 n) (length-take-le code.commands counts long)
        ∙ same_lines (with (called text code) (take code.commands counts)) (with (called text code) counts) 0 code.commands
        (λ k h. ap (λ n. line_for (called text code k) n (answer_of (Burst k w) text b blanks)) (get_or-take code.commands counts k 0 (omega (arith, h))))
        ∙ ap (λ (c : Code). lines_from (with (called text c) counts) 0 c.commands) known.flat
        ∙ ap (λ l. lines_from (with (called text d) l) 0 d.commands) f
        ∙ same_lines (with (called text d) now) (with (called_in text (N.read known.tree)) now) 0 d.commands
        (λ k h. ap (λ v. line_for v (get_or now k 0) (answer_of (Burst k w) text b blanks)) (called_in_lem text known.tree known.says k (omega (arith, h))))
        ∙ ap (lines_from (with (called_in text (N.read known.tree)) now) 0) (commands_in_lem text known.tree known.says)
        ∙ ap (λ (o : N.Outcome). lines_from (with (called_in text o) now) 0 (commands_in o)) (sym (says-answer known.says))

-- A text that was refused has no commands, and so no lines.
no_table_in : (text b : List ℕ) (w : ℕ) (r : Refusal) (o : N.Outcome) → answer text ≡ o → Err r ≡ reading_in o → [] ≡ table_of text b w
unfolding reading_in commands_in lines_from
no_table_in text b w r (N.read x) a e = cc
no_table_in text b w r (N.refused n i) a e =
    sym (ap (λ (o : N.Outcome). lines_from (answer_line (called_in text o) (counts_after Steps text b blanks) text b w) 0 (commands_in o)) a)

pub no-table : (text b : List ℕ) (w : ℕ) (r : Refusal) → Err r ≡ reading_of text → [] ≡ table_of text b w
no-table text b w r e = no_table_in text b w r (answer text) refl e

-- No name is longer than 16 bytes.
called_short : (text : List ℕ) (o : N.Outcome) → answer text ≡ o → (k : ℕ) → k < commands_in o → length (called_in text o k) ≤ 16
unfolding commands_in called_in
called_short text (N.read x) a k h = let says = (says_iff_answer text x).1 a in (told text x says (regular text x says) k h).short
called_short text (N.refused n i) a k h = absurd (omega (arith, h))

pub called-short : (text : List ℕ) (k : ℕ) → k < commands_in (answer text) → length (called_in text (answer text) k) ≤ 16
called-short text k h = called_short text (answer text) refl k h

few_commands : (text : List ℕ) (o : N.Outcome) → answer text ≡ o → commands_in o ≤ 16
unfolding commands_in
few_commands text (N.read x) a = (regular text x ((says_iff_answer text x).1 a)).few_commands
few_commands text (N.refused n i) a = omega arith

pub few-commands : (text : List ℕ) → commands_in (answer text) ≤ 16
few-commands text = few_commands text (answer text) refl

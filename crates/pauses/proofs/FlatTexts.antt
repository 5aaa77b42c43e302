-- The flat form of a text's model: it is sound, its transitions are those of the model's table of one row, and the search over it is the search of the text.
-- Assumes nothing.
use mathlib.Core.Path.{◌≡◌, refl, sym, ap, ◌∙◌, subst}
use mathlib.Core.Bool.{cond}
use mathlib.Core.List.{List}
use Prim.Native.Nat.{ℕ, ◌+◌, ◌^◌}
use lib.ListN.{length}
use lib.Seq.{sets}
use Rattle.notation.specs.Tokens.{Name}
use Rattle.notation.specs.Notation.{Tree}
use Rattle.std.specs.Prelude.{Ok}
use Rattle.notation.specs.Model.{Model}
use Rattle.notation.specs.Layout.{layout_of}
use Rattle.notation.specs.Regular.{Regular}
use Rattle.notation.specs.Texts.{model_of, names_of, TextSays}
use Rattle.notation.specs.working.Machine as N
use Rattle.notation.specs.working.Answer.{answer}
use Rattle.notation.proofs.Texts.{says-answer}
use Rattle.reader.specs.declared.Code.{Code}
use Rattle.reader.specs.Read.{filled, code_of, code_in, reading_in, read_code}
use Rattle.reader.proofs.ReadTexts.{read_regular}
use Rattle.evaluation.specs.working.CodeSystem.{Sound}
use Rattle.sheets.specs.Sheets.{System, size, system_of, header_bytes, sheet_bytes}
use Rattle.sheets.specs.working.FlatSystem.{system_in}
use Rattle.acceptance.specs.working.Test.{plan_of}
use Rattle.acceptance.proofs.TestTexts.{counts, star-count, flat_code, flat}
use Rattle.meaning.specs.Evidence.{Verdict, safe_by, void_by, unsafe_by, evidence_of}
use Rattle.exploration.specs.Trials.{trials_of}
use Rattle.exploration.specs.working.Trials.{trial_count}
use Rattle.exploration.specs.working.Found.{found_in, transitions_of, Agrees}
use Rattle.verdicts.specs.Left.{Left, zeroed}
use Rattle.verdicts.specs.working.Searching.{roomy, verdict_of, left_alone, found_by, search_for, search_in, search_of}
use Rattle.verdicts.specs.declared.finding.Finding.{Finding}
use Rattle.verdicts.specs.declared.finding.Finding.TheVariants.{Safe}
use Rattle.exploration.proofs.FindsRight.{finds-right, finds}
use Rattle.exploration.proofs.FindsOnce.{finds-once}
use Rattle.exploration.proofs.TrialCounts.{trials-counted}
use Rattle.verdicts.proofs.SearchTells.{Made, made_of, made_told}
use Rattle.pauses.specs.working.Pausing.{flat_of}

-- Code that is ready for the search, over which it is the search of a model.
pub record Searchable (c : Code) (m : Model) : Type 0 where
  pub sound : Sound (plan_of c)
  pub agrees : Agrees (transitions_of (system_in c.ops (plan_of c))) m
  pub same : (q p o : List ℕ) → search_for (system_in c.ops (plan_of c)) q p o ≡ search_for (system_of m) q p o

module _ (m : Model) (g : Regular m) (ns : List Name) where
  abbrev C : System
  C =
      system_in (filled 2048 (layout_of m).code)
      (record {
        ends = filled 20 (layout_of m).ends;
        stars = filled 16 (counts m g ns);
        shared = m.shared_names;
        row = m.row_names;
        commands = length m.commands;
        bits = m.shared_names + m.row_names;
      })

  code_agrees : Agrees (transitions_of C) m
  code_agrees =
      record {
        size = refl;
        commands = refl;
        words = λ k h. ap (λ (n : ℕ). 2 ^ n) (star-count m g ns k h);
        starts = (flat_code m g ns).starts;
        breaks = (flat_code m g ns).breaks;
        step = λ s k w h l. (flat_code m g ns).next s k w h l;
      }

  -- Both find the same verdict, and the bytes of its sheet hang on the counts alone.
  found-same : found_in (transitions_of C) ≡ found_in (transitions_of (system_of m))
  found-same =
      finds-once m (found_in (transitions_of C)) (found_in (transitions_of (system_of m))) (finds-right (transitions_of C) m code_agrees g) (finds m g)

  bytes_same : (x : Verdict) → sheet_bytes C (evidence_of x) ≡ sheet_bytes (system_of m) (evidence_of x)
  unfolding sheet_bytes header_bytes
  bytes_same (safe_by map) = refl
  bytes_same (void_by map) = refl
  bytes_same (unsafe_by s xs) = refl

  -- Where the trials are told, both make as many.
  told_same : (x : Verdict) (n t u : ℕ) → Made m x t → Made m x u → verdict_of x n t ≡ verdict_of x n u
  unfolding verdict_of trials_of
  told_same (safe_by map) n t u a b = ap (Safe n) (a _ refl ∙ sym (b _ refl))
  told_same (void_by map) n t u a b = refl
  told_same (unsafe_by s xs) n t u a b = refl

  code-made : Made m (found_in (transitions_of (system_of m))) (trial_count (transitions_of C))
  code-made = subst (λ (x : Verdict). Made m x (trial_count (transitions_of C))) found-same (trials-counted (transitions_of C) m code_agrees)

  abbrev leaving : Finding → List ℕ → List ℕ → List ℕ → List ℕ → Left
  leaving f b q p o = record { answer = Ok f; first = zeroed (size C) q; second = zeroed (size C) p; sheet = sets o 0 b }

  left_same : (q p o : List ℕ) → found_by C q p o ≡ found_by (system_of m) q p o
  left_same q p o =
      let x = found_in (transitions_of (system_of m)) in
      let t = trial_count (transitions_of C) in
      ap (λ (v : Verdict). leaving (verdict_of v (length (sheet_bytes C (evidence_of v))) t) (sheet_bytes C (evidence_of v)) q p o) found-same
      ∙ ap (λ (b : List ℕ). leaving (verdict_of x (length b) t) b q p o) (bytes_same x)
      ∙ ap (λ (f : Finding). leaving f (sheet_bytes (system_of m) (evidence_of x)) q p o)
      (told_same x (length (sheet_bytes (system_of m) (evidence_of x))) t (made_of m) code-made (made_told m))

  search-same : (q p o : List ℕ) → search_for C q p o ≡ search_for (system_of m) q p o
  unfolding search_for roomy
  search-same q p o = ap (λ (l : Left). cond (roomy C q p o) l (left_alone 8 0 q p o)) (left_same q p o)

  flat_searchable : Searchable (code_of (layout_of m) ns) m
  unfolding code_of layout_of
  flat_searchable = let f = flat m g ns in record { sound = f.sound; agrees = code_agrees; same = search-same }

-- Of a text that says a tree.
pub tree_searchable : (text : List ℕ) (x : Tree) → answer text ≡ N.read x → Searchable (read_code text) (model_of x)
unfolding reading_in
tree_searchable text x e =
    let c : read_code text ≡ code_of (layout_of (model_of x)) (names_of x) = ap (λ (o : N.Outcome). code_in (reading_in o)) e in
    subst (λ (d : Code). Searchable d (model_of x)) (sym c) (flat_searchable (model_of x) (read_regular text x e) (names_of x))

pub tree-search : (text : List ℕ) (x : Tree) → answer text ≡ N.read x → (q p o : List ℕ) → search_for (flat_of text) q p o ≡ search_of text q p o
unfolding search_in search_of
tree-search text x e q p o = (tree_searchable text x e).same q p o ∙ sym (ap (λ (u : N.Outcome). search_in u q p o) e)

-- Of a text that says a model.
pub record FlatSays (text : List ℕ) (m : Model) : Type 0 where
  pub tree : Tree
  pub read : answer text ≡ N.read tree
  pub sound : Sound (plan_of (read_code text))
  pub agrees : Agrees (transitions_of (flat_of text)) m
  pub same : (q p o : List ℕ) → search_for (flat_of text) q p o ≡ search_of text q p o

pub flat_says : (text : List ℕ) (m : Model) → TextSays text m → FlatSays text m
flat_says text m s =
    let e = says-answer s.says in
    let S = tree_searchable text s.tree e in
    record { tree = s.tree; read = e; sound = S.sound; agrees = subst (Agrees (transitions_of (flat_of text))) s.meant S.agrees; same = tree-search text s.tree e }

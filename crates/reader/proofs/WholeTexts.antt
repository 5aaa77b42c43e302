-- A whole text that was read: its two clauses, and the flat form of its model in the arrays.
-- Assumes nothing.
use Rattle.std.specs.Prelude.{Ok, Err}
use mathlib.Core.Path.{◌≡◌, refl, sym, ap, ◌∙◌}
use mathlib.Core.List.{List, ◌++◌, map}
use Prim.Native.Nat.{ℕ, ◌+◌}
use native.Mathlib.Nat.{zero-add}
use native.Mathlib.Omega.{arith}
use lib.ListN.{length, length-append, length-map}
use lib.Seq.{sets}
use Rattle.notation.specs.Tokens.{Name, Word}
use Rattle.notation.specs.Notation.{Clause, clause', Command, Tree, tree'}
use Rattle.notation.specs.Regular.{Regular}
use Rattle.notation.specs.Texts.{Numbered, words_of, model_of, title_of, names_of, command_of}
use Rattle.notation.specs.Layout.{joined, ends_from, layout_of}
use Rattle.notation.specs.working.Lexing.{tokens}
use Rattle.notation.specs.working.Table as T
use Rattle.notation.specs.working.Machine.{Outcome, read, refused, reading}
use Rattle.notation.specs.working.Descent.{Got, got, then_reads, reader}
use Rattle.notation.proofs.Outcomes.{says_iff}
use Rattle.notation.proofs.Regular.{tree_regular}
use Rattle.statements.specs.declared.cursor.Cursor.{Cursor}
use Rattle.statements.specs.declared.cursor.Ledger.{Ledger}
use Rattle.refusals.specs.declared.Refusal.{Refusal}
use Rattle.refusals.specs.Reasons.{number_of}
use Rattle.lexer.specs.working.Kinds.{kind_number}
use Rattle.lexer.specs.working.Pieces.{misplaced}
use Rattle.statements.specs.working.Names.{row_words}
use Rattle.statements.specs.working.Cursors.{Parsed, book_of, Ready}
use Rattle.reader.specs.Read.{placed}
use Rattle.reader.specs.working.Clauses.{WroteNames, clause_words, clause_ends, ClauseDone, ClauseSays}
use Rattle.statements.specs.working.Sequences.{Pair, pair_of, paired, pairing}
use Rattle.reader.specs.working.Commands.{with_commands, Naming, Arrays, arrays, WroteArrays, WroteCommands, stored_in, command_words, stars_in, commands_at, Commanded, CommandsSay}
use Rattle.reader.specs.working.Whole.{Heads, HeadsSay, ClausesDone, ClausesSay, ModelSays}
use Rattle.statements.proofs.StoredCode.{sets-append, stores, wrote_none, wrote_from, wrote_behind, done_then, done-ready}
use Rattle.reader.proofs.NameLists.{placed-append, named_behind}
use Rattle.reader.proofs.CommandLists.{arrays-same, commanded_wrote}
use Rattle.statements.proofs.Sequences.{pair_done, pair_bad}
use Rattle.reader.proofs.WholeDescent.{heads_bad, clauses_bad, command_missing, commands_bad, text-ends, text-goes-on}
use Rattle.reader.proofs.StoredModel.{stars_layout, code_layout, ends_layout, names_are}

-- ---- `start` and `keep`

two_ends : (text names : List ℕ) (l : Ledger) (k i : ℕ) (x : Clause) → length (clause_ends text names l k i x) ≡ 2
two_ends text names l k i (clause' a b) = refl

module _ (text names : List ℕ) (l : Ledger) (c : Cursor) (p e a e' : List ℕ) where
  abbrev words : ℕ → Clause → Numbered (List ℕ)
  words = clause_words text names l

  pub start_bad : (q : Refusal) → ClauseSays text names l 2 0 c p e a e' (Err q) → ClausesSay text names l c p e a e' (Err q)
  unfolding ClauseSays ClausesSay
  start_bad q k = (pair_bad (λ ts b. reader (length text) (T.clause 3) ts b) q k.0, k.1)

  module _ (d : Cursor) (h : ClauseSays text names l 2 0 c p e a e' (Ok d)) where
    first : ClauseDone text names l 2 0 c p e a e' d
    unfolding ClauseSays
    first = h

    pub keep-ready : Ready text l 0 c → Ready text l 0 d
    keep-ready r = done-ready first.done 0 r

    pub clauses-say : (a' e'' : List ℕ) (y : Parsed) → ClauseSays text names l 3 2 d a e' a' e'' y → ClausesSay text names l c p e a' e'' y
    unfolding ClauseSays ClausesSay pair_done
    clauses-say a' e'' (Err r) q = (
      ap (λ (o : Got Clause). pairing o (λ ts b. reader (length text) (T.clause 3) ts b)) first.done.says
          ∙ ap (λ (o : Got Clause). then_reads o (λ v ts b. got (pair_of first.done.tree v) ts b)) q.0,
      (
        done_then first.done q.1.0,
        wrote_behind e e' e'' 0 2 (clause_ends text names l c.stars c.emitted first.done.tree) first.ends
            (omega (arith, two_ends text names l c.stars c.emitted first.done.tree)) q.1.1,
      ),
    )
    clauses-say a' e'' (Ok v) q = record {
      done = pair_done (λ ts b. reader (length text) (T.clause 3) ts b) first.done q.done;
      ends =
          q.ends ∙ ap (λ (z : List ℕ). sets z 2 (clause_ends text names l d.stars d.emitted q.done.tree)) first.ends
          ∙ ap (λ (k : ℕ). sets (sets e 0 (clause_ends text names l c.stars c.emitted first.done.tree)) 2 (clause_ends text names l k d.emitted q.done.tree)) first.done.numbered
          ∙ ap (λ (i : ℕ). sets (sets e 0 (clause_ends text names l c.stars c.emitted first.done.tree)) 2
          (clause_ends text names l (words c.stars first.done.tree).next i q.done.tree)) first.done.long
          ∙ ap (λ (i : ℕ). sets (sets e 0 (clause_ends text names l c.stars c.emitted first.done.tree)) i
          (clause_ends text names l (words c.stars first.done.tree).next (c.emitted + length (words c.stars first.done.tree).is)
          q.done.tree)) (sym (two_ends text names l c.stars c.emitted first.done.tree) ∙ sym (zero-add _))
          ∙ sym (sets-append (clause_ends text names l c.stars c.emitted first.done.tree)
          (clause_ends text names l (words c.stars first.done.tree).next (c.emitted + length (words c.stars first.done.tree).is)
          q.done.tree) e 0);
    }

-- ---- the whole

-- The outcome of a text that is refused so.
abbrev refused_so : Refusal → Outcome
refused_so r = refused (number_of r.reason) r.place

module _ (text : List ℕ) (s : Arrays) (names' : List ℕ) where
  pub head-refused : (q : Refusal) → HeadsSay text s.names names' (Err q) → ModelSays text s (arrays names' s.ops s.ends s.stars) (Err q)
  unfolding HeadsSay ModelSays
  head-refused q k = (heads_bad text (number_of q.reason) q.place k.0, record { names = k.1; ops = wrote_none; ends = wrote_none; stars = wrote_none })

  module _ (c : Cursor) (l : Ledger) (h : HeadsSay text s.names names' (Ok (c, l))) where
    headed : Heads text s.names names' c l
    unfolding HeadsSay
    headed = h

    pub head-ready : Ready text l 0 c
    head-ready = headed.naming.ready

    module _ (ops' ends' : List ℕ) where
      -- The arrays after the clauses.
      abbrev S : Arrays
      S = arrays names' ops' ends' s.stars

      from_front : c.emitted ≡ 0
      from_front = ap (λ (z : Cursor). z.emitted) headed.same

      wrote_names : WroteNames 0 s.names names'
      wrote_names = record { names = headed.tree.one ++ headed.tree.two; is = headed.stored }

      pub both_refused : (q : Refusal) → ClausesSay text names' l c s.ops s.ends ops' ends' (Err q) → ModelSays text s S (Err q)
      unfolding ClausesSay ModelSays
      both_refused q k = (
        clauses_bad text names' l c headed.tree headed.says (number_of q.reason) q.place k.0,
        record { names = wrote_names; ops = wrote_from from_front k.1.0; ends = k.1.1; stars = wrote_none },
      )

      module _ (d : Cursor) (q : ClausesSay text names' l c s.ops s.ends ops' ends' (Ok d)) where
        claused : ClausesDone text names' l c s.ops s.ends ops' ends' d
        unfolding ClausesSay
        claused = q

        -- the ends of the clauses' expressions, if their stars are numbered from j on and their code begins at place i
        abbrev clauses_ends : ℕ → ℕ → List ℕ
        clauses_ends j i = clause_ends text names' l j i claused.done.tree.one
            ++ clause_ends text names' l (clause_words text names' l j claused.done.tree.one).next
            (i + length (clause_words text names' l j claused.done.tree.one).is) claused.done.tree.two

        none_yet : l.commands ≡ 0
        none_yet = ap (λ (z : Ledger). z.commands) headed.ledger

        four_ends : (j i : ℕ) → 4 + l.commands ≡ 0 + length (clauses_ends j i)
        four_ends j i =
            let one = claused.done.tree.one in
            let k = (clause_words text names' l j one).next in
            let m = i + length (clause_words text names' l j one).is in
            omega (
              arith,
              none_yet,
              length-append (clause_ends text names' l j i one) (clause_ends text names' l k m claused.done.tree.two),
              two_ends text names' l j i one,
              two_ends text names' l k m claused.done.tree.two,
            )

        -- What commands wrote was written behind declarations and clauses.
        wrote_all : (t : Arrays) → WroteCommands l d.emitted S t → WroteArrays 0 0 0 0 s t
        wrote_all t w =
            let ws = headed.tree.one in
            let vs = headed.tree.two in
            let many : l.shared + l.row + l.commands ≡ 0 + length (ws ++ vs) =
            omega (arith, ap (λ (z : Ledger). z.shared) headed.ledger, ap (λ (z : Ledger). z.row) headed.ledger, none_yet, length-append ws vs) in
            record {
              names = named_behind s.names names' t.names 0 (l.shared + l.row + l.commands) (ws ++ vs) headed.stored many w.names;
              ops = wrote_from from_front (done_then claused.done w.ops);
              ends = wrote_behind s.ends ends' t.ends 0 (4 + l.commands) (clauses_ends c.stars c.emitted) claused.ends (four_ends c.stars c.emitted) w.ends;
              stars = wrote_from none_yet w.stars;
            }

        pub first_missing : (r : Refusal) → r ≡ misplaced d.next → (kind_number d.next.kind ≡ 5 → ⊥) → ModelSays text s S (Err r)
        unfolding ModelSays
        first_missing r e u = (
          command_missing text names' l c headed.tree headed.says d claused.done.tree claused.done.says claused.done.fresh u ∙ ap refused_so (sym e),
          wrote_all S arrays-same,
        )

        pub both_naming : Naming text names' l d
        both_naming = record {
          ready = done-ready claused.done 0 head-ready;
          long = headed.naming.long;
        }

        module _ (u : kind_number d.next.kind ≡ 5) (t : Arrays) where
          pub all-refused : (r : Refusal) → CommandsSay text l d (arrays names' ops' ends' s.stars) (commands_at text names' l d) t (Err r) → ModelSays text s t (Err r)
          unfolding CommandsSay ModelSays
          all-refused r z =
              (commands_bad text names' l c headed.tree headed.says d claused.done.tree claused.done.says u (number_of r.reason) r.place z.0, wrote_all t z.1)

          module _ (v : Cursor) (m : Ledger) (k : CommandsSay text l d (arrays names' ops' ends' s.stars) (commands_at text names' l d) t (Ok (v, m))) where
            commanded : Commanded text l d (arrays names' ops' ends' s.stars) (commands_at text names' l d) t v m
            unfolding CommandsSay
            commanded = k

            pub more_follows : (r : Refusal) → r ≡ misplaced v.next → (kind_number v.next.kind ≡ 26 → ⊥) → ModelSays text s t (Err r)
            unfolding ModelSays
            more_follows r e n = (
              text-goes-on text names' l c headed.tree headed.says d claused.done.tree claused.done.says u v.next commanded.tree (book_of text t.names m v) commanded.says
                  commanded.naming.ready.fresh n ∙ ap refused_so (sym e),
              wrote_all t (commanded_wrote text l d S (commands_at text names' l d) t v m commanded),
            )

            abbrev ws : List Name
            ws = headed.tree.one

            abbrev vs : List Name
            vs = headed.tree.two

            abbrev ks : Pair Clause Clause
            ks = claused.done.tree

            abbrev xs : List Command
            xs = commanded.tree

            abbrev x : Tree
            x = tree' ws vs ks.one ks.two xs

            module _ (n : kind_number v.next.kind ≡ 26) where
              said : reading (length text) (tokens text) ≡ read x
              said = text-ends text names' l c headed.tree headed.says d ks claused.done.says u v.next xs (book_of text t.names m v) commanded.says n

              regular : Regular (model_of x)
              regular = tree_regular ((says_iff (length text) (tokens text) x).1 said)

              shared-is : l.shared ≡ length ws
              shared-is = ap (λ (z : Ledger). z.shared) headed.ledger

              row_is : l.row ≡ length vs
              row_is = ap (λ (z : Ledger). z.row) headed.ledger

              from_zero : c.stars ≡ 0
              from_zero = ap (λ (z : Cursor). z.stars) headed.same

              abbrev clause_code : ℕ → List ℕ
              clause_code j = (paired (clause_words text names' l) (clause_words text names' l) j ks).is

              abbrev parts : List (List ℕ)
              parts = map (command_words (words_of ws) (words_of vs) l.shared) xs

              -- what is stored, with the words of the names
              stored : t ≡ stored_in (words_of ws) (words_of vs) l d.emitted xs (arrays names' ops' ends' s.stars)
              stored = commanded.stored ∙ ap (λ (z : List Word). stored_in z (row_words text names' l) l d.emitted xs (arrays names' ops' ends' s.stars)) headed.shared
                  ∙ ap (λ (z : List Word). stored_in (words_of ws) z l d.emitted xs (arrays names' ops' ends' s.stars)) headed.row

              place_is : d.emitted ≡ 0 + length (clause_code 0)
              place_is = claused.done.long ∙ ap (λ (i : ℕ). i + length (clause_code c.stars)) from_front ∙ ap (λ (j : ℕ). 0 + length (clause_code j)) from_zero

              names-stored : t.names ≡ placed s.names 0 (names_of x)
              names-stored =
                  let i : l.shared + l.row + l.commands ≡ 0 + length (ws ++ vs) = omega (arith, shared-is, row_is, none_yet, length-append ws vs) in
                  ap (λ (z : Arrays). z.names) stored ∙ ap (λ (z : List ℕ). placed z (l.shared + l.row + l.commands) (map title_of xs)) headed.stored
                  ∙ ap (λ (j : ℕ). placed (placed s.names 0 (ws ++ vs)) j (map title_of xs)) i ∙ sym (placed-append (ws ++ vs) (map title_of xs) s.names 0)
                  ∙ ap (λ (z : List Name). placed s.names 0 z) (names_are text names' l ws vs headed.shared headed.row shared-is xs ks.one ks.two)

              ops-front : ops' ≡ sets s.ops 0 (clause_code 0)
              ops-front = claused.done.stored ∙ ap (λ (i : ℕ). sets s.ops i (clause_code c.stars)) from_front ∙ ap (λ (j : ℕ). sets s.ops 0 (clause_code j)) from_zero

              ops-stored : t.ops ≡ sets s.ops 0 (layout_of (model_of x)).code
              ops-stored =
                  stores s.ops ops' t.ops 0 d.emitted (clause_code 0) (joined parts) ops-front place_is (ap (λ (z : Arrays). z.ops) stored)
                  ∙ ap (λ (z : List ℕ). sets s.ops 0 z) (code_layout text names' l ws vs headed.shared headed.row shared-is xs ks.one ks.two regular)

              ends-front : ends' ≡ sets s.ends 0 (clauses_ends 0 0)
              ends-front = claused.ends ∙ ap (λ (j : ℕ). sets s.ends 0 (clauses_ends j c.emitted)) from_zero ∙ ap (λ (i : ℕ). sets s.ends 0 (clauses_ends 0 i)) from_front

              ends-stored : t.ends ≡ sets s.ends 0 (layout_of (model_of x)).ends
              ends-stored =
                  stores s.ends ends' t.ends 0 (4 + l.commands) (clauses_ends 0 0) (ends_from (0 + length (clause_code 0)) parts) ends-front (four_ends 0 0)
                  (ap (λ (z : Arrays). z.ends) stored ∙ ap (λ (i : ℕ). sets ends' (4 + l.commands) (ends_from i parts)) place_is)
                  ∙ ap (λ (z : List ℕ). sets s.ends 0 z) (ends_layout text names' l ws vs headed.shared headed.row shared-is xs ks.one ks.two regular)

              stars-stored : t.stars ≡ sets s.stars 0 (layout_of (model_of x)).stars
              stars-stored =
                  ap (λ (z : Arrays). z.stars) stored ∙ ap (λ (i : ℕ). sets s.stars i (map (stars_in (words_of ws) (words_of vs)) xs)) none_yet
                  ∙ ap (λ (z : List ℕ). sets s.stars 0 z) (stars_layout text names' l ws vs headed.shared headed.row shared-is xs ks.one ks.two)

              ledger-is : m ≡ record { shared = (layout_of (model_of x)).shared; row = (layout_of (model_of x)).row; commands = (layout_of (model_of x)).commands }
              unfolding layout_of model_of
              ledger-is =
                  let i : 0 + length xs ≡ length (map (command_of (words_of ws) (words_of vs)) xs) = zero-add (length xs) ∙ sym (length-map xs (command_of (words_of ws) (words_of vs))) in
                  commanded.ledger ∙ ap (with_commands (length xs)) headed.ledger ∙ ap (λ (j : ℕ). record { shared = length ws; row = length vs; commands = j }) i

              pub model-says : ModelSays text s t (Ok m)
              unfolding ModelSays
              model-says = record { tree = x; says = said; names = names-stored; ops = ops-stored; ends = ends-stored; stars = stars-stored; ledger = ledger-is }

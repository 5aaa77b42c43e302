-- A command: its title and its body, and what is stored of it.
-- Assumes nothing.
use Rattle.std.specs.Prelude.{false, Ok, Err}
use mathlib.Core.Path.{◌≡◌, refl, sym, ap, ◌∙◌, subst}
use mathlib.Core.List.{List, [], ◌∷◌, append_assoc, append-nil}
use Prim.Native.Nat.{ℕ, ◌+◌, ◌*◌, ◌≤◌, ◌<◌}
use native.Mathlib.Omega.{arith}
use lib.ListN.{length, set, length-set}
use lib.Seq.{sets}
use Rattle.notation.specs.Tokens.{Word, Name}
use Rattle.notation.specs.Notation.{Item, Command, command'}
use Rattle.notation.specs.Texts.{Numbered, command_of}
use Rattle.notation.specs.Layout.{command_code, ends_from, joined}
use Rattle.notation.specs.working.Descent.{Got, got, then_reads}
use Rattle.statements.specs.declared.cursor.Cursor.{Cursor}
use Rattle.statements.specs.declared.cursor.Ledger.{Ledger}
use Rattle.refusals.specs.declared.Refusal.{Refusal}
use Rattle.lexer.specs.working.Pieces.{listed}
use Rattle.statements.specs.working.Names.{shared_words, row_words}
use Rattle.statements.specs.working.Cursors.{book_of, Ready, Done}
use Rattle.statements.specs.working.Expressions.{expr_words}
use Rattle.statements.specs.working.Items.{items_words}
use Rattle.reader.specs.Read.{placed}
use Rattle.statements.specs.working.Sequences.{Tested, tested_words}
use Rattle.reader.specs.working.Commands.{with_commands, Naming, Titled, TitleSays, body_reader, BodySays, command_words, stars_in, one_at, arrays, CommandsSay}
use Rattle.statements.proofs.StoredCode.{wrote_none, wrote_from, said_ok, said_bad, done-ready}
use Rattle.reader.proofs.NameLists.{named-same}
use Rattle.lexer.proofs.Lookup.{words-kept}

-- A command made of its name and its body.
abbrev pub made : Name → Tested Item → Command
made n v = command' n v.one v.two.one v.two.two

-- The names stored before are as they were.
module _ (text names : List ℕ) (j : ℕ) (n : Name) (few : j < 28) where
  pub kept-shared : (l : Ledger) → l.shared ≤ j → shared_words text (placed names j (n ∷ [])) l ≡ shared_words text names l
  unfolding placed
  kept-shared l h = words-kept text names j n.place (length n.word) few 0 l.shared (omega arith)

  pub kept_row : (l : Ledger) → l.shared + l.row ≤ j → row_words text (placed names j (n ∷ [])) l ≡ row_words text names l
  unfolding placed
  kept_row l h = words-kept text names j n.place (length n.word) few l.shared l.row (omega arith)

pub placed-length : (names : List ℕ) (j : ℕ) (n : Name) → length (placed names j (n ∷ [])) ≡ length names
unfolding placed
placed-length names j n = simp length-set

-- The code of a body is that of the command, and its stars are the command's.
module _ (text names : List ℕ) (l : Ledger) (n : Name) (v : Tested Item) where
  body-words : (tested_words text names l (items_words text names l false) 0 v).is ≡ command_words (shared_words text names l) (row_words text names l) l.shared (made n v)
  unfolding expr_words items_words command_of command_code
  body-words = simp append_assoc

  body-stars : (tested_words text names l (items_words text names l false) 0 v).next ≡ stars_in (shared_words text names l) (row_words text names l) (made n v)
  unfolding expr_words items_words
  body-stars = refl

module _ {text names : List ℕ} {l : Ledger} {c : Cursor} (g : Naming text names l c) (names' : List ℕ) where
  pub title-refused : (ops ends stars : List ℕ) (q : Refusal) → TitleSays text names l c names' (Err q) → CommandsSay text l c (arrays names ops ends stars) (one_at text names l c) (arrays names' ops ends stars) (Err q)
  unfolding TitleSays CommandsSay
  title-refused ops ends stars q k = (
    ap (λ (o : Got Name). then_reads (then_reads o (λ n ts b. then_reads (body_reader (length text) ts b) (λ v ts b. got (made n v) ts b))) (λ x ts b. got (x ∷ []) ts b)) k.0,
    record { names = named-same k.1; ops = wrote_none; ends = wrote_none; stars = wrote_none },
  )

  module _ (d : Cursor) (l' : Ledger) (h : TitleSays text names l c names' (Ok (d, l'))) where
    abbrev T : Titled text names l c names' d l'
    unfolding TitleSays
    T = h

    same : d ≡ record { next = d.next; emitted = c.emitted; items = c.items; nodes = c.nodes; stars = 0 }
    same = T.same

    pub title-ready : Ready text l' 3 d
    title-ready = subst (λ (z : Ledger). Ready text z 3 d) (sym T.ledger) (record {
      fits = g.ready.fits;
      fresh = T.fresh;
      names = g.ready.names;
      commands = omega (arith, T.few);
      items = subst (λ (z : Cursor). z.items ≤ 256) (sym same) g.ready.items;
      nodes = subst (λ (z : Cursor). z.nodes ≤ 1024) (sym same) g.ready.nodes;
      stars = subst (λ (z : Cursor). z.stars ≤ 8) (sym same) (omega arith);
      room = subst (λ (z : Cursor). z.emitted + 3 ≤ z.nodes + 3 * z.items + 3 * (l.commands + 1)) (sym same) (omega (arith, g.ready.room));
    })

    pub title-few : l.commands < 16
    title-few = T.few

    abbrev body : Got (Tested Item)
    body = body_reader (length text) (listed text d.next) (book_of text names' l' d)

    titled_is : one_at text names l c ≡ then_reads (then_reads body (λ v ts b. got (made T.tree v) ts b)) (λ x ts b. got (x ∷ []) ts b)
    titled_is = ap (λ (o : Got Name). then_reads (then_reads o (λ n ts b. then_reads (body_reader (length text) ts b) (λ v ts b. got (made n v) ts b))) (λ x ts b. got (x ∷ []) ts b)) T.says

    from_place_lem : d.emitted ≡ c.emitted
    from_place_lem = ap (λ (z : Cursor). z.emitted) same

    pub body_refused : (ends stars : List ℕ) {ops ops' : List ℕ} {q : Refusal} → BodySays text names' l' d ops ops' (Err q) →
        CommandsSay text l c (arrays names ops ends stars) (one_at text names l c) (arrays names' ops' ends stars) (Err q)
    unfolding CommandsSay
    body_refused ends stars b =
        let k = said_bad b in (
          titled_is ∙ ap (λ (o : Got (Tested Item)). then_reads (then_reads o (λ v ts b. got (made T.tree v) ts b)) (λ x ts b. got (x ∷ []) ts b)) k.0,
          record { names = record { names = T.tree ∷ []; is = T.stored }; ops = wrote_from from_place_lem k.1; ends = wrote_none; stars = wrote_none },
        )

    module _ {ops ops' : List ℕ} {v : Cursor} (b : BodySays text names' l' d ops ops' (Ok v)) where
      abbrev W : ℕ → Tested Item → Numbered (List ℕ)
      W = tested_words text names' l' (items_words text names' l' false)

      done : Done text names' l' W 3 d ops body ops' v
      done = said_ok b

      pub command-small : (v.emitted < 65536) × (v.stars < 65536)
      command-small = (omega (arith, title-ready.room, title-ready.commands, done.level, done.nodes, done.items), omega (arith, done.stars))

      abbrev j : ℕ
      j = l.shared + l.row + l.commands

      abbrev x : Command
      x = made T.tree done.tree

      abbrev code : List ℕ
      code = command_words (shared_words text names l) (row_words text names l) l.shared x

      shared_same : shared_words text names' l' ≡ shared_words text names l
      shared_same = ap (λ (z : Ledger). shared_words text names' z) T.ledger ∙ ap (λ (z : List ℕ). shared_words text z (with_commands 1 l)) T.stored
          ∙ kept-shared text names j T.tree (omega (arith, g.ready.names, T.few)) (with_commands 1 l) (omega arith)

      row_same : row_words text names' l' ≡ row_words text names l
      row_same = ap (λ (z : Ledger). row_words text names' z) T.ledger ∙ ap (λ (z : List ℕ). row_words text z (with_commands 1 l)) T.stored
          ∙ kept_row text names j T.tree (omega (arith, g.ready.names, T.few)) (with_commands 1 l) (omega arith)

      from_zero : d.stars ≡ 0
      from_zero = ap (λ (z : Cursor). z.stars) same

      words_are_lem : (W d.stars done.tree).is ≡ code
      words_are_lem =
          ap (λ (k : ℕ). (W k done.tree).is) from_zero ∙ body-words text names' l' T.tree done.tree
          ∙ ap (λ (ws : List Word). command_words ws (row_words text names' l') l'.shared x) shared_same
          ∙ ap (λ (vs : List Word). command_words (shared_words text names l) vs l'.shared x) row_same
          ∙ ap (λ (z : Ledger). command_words (shared_words text names l) (row_words text names l) z.shared x) T.ledger

      stars_are_lem : v.stars ≡ stars_in (shared_words text names l) (row_words text names l) x
      stars_are_lem =
          done.numbered ∙ ap (λ (k : ℕ). (W k done.tree).next) from_zero ∙ body-stars text names' l' T.tree done.tree
          ∙ ap (λ (ws : List Word). stars_in ws (row_words text names' l') x) shared_same ∙ ap (λ (vs : List Word). stars_in (shared_words text names l) vs x) row_same

      place_is : v.emitted ≡ c.emitted + length code
      place_is = done.long ∙ ap (λ (i : ℕ). i + length (W d.stars done.tree).is) from_place_lem ∙ ap (λ (z : List ℕ). c.emitted + length z) words_are_lem

      ops_are : ops' ≡ sets ops c.emitted code
      ops_are = done.stored ∙ ap (λ (i : ℕ). sets ops i (W d.stars done.tree).is) from_place_lem ∙ ap (λ (z : List ℕ). sets ops c.emitted z) words_are_lem

      pub command-says : (ends stars : List ℕ) →
          CommandsSay text l c (arrays names ops ends stars) (one_at text names l c) (arrays names' ops' (set ends (4 + l.commands) v.emitted) (set stars l.commands v.stars)) (Ok (v, l'))
      unfolding CommandsSay joined ends_from
      command-says ends stars = record {
        tree = x ∷ [];
        some = omega arith;
        says = titled_is ∙ ap (λ (o : Got (Tested Item)). then_reads (then_reads o (λ v ts b. got (made T.tree v) ts b)) (λ x ts b. got (x ∷ []) ts b)) done.says;
        stored = λ t. arrays (T.stored t) ((ops_are ∙ ap (λ (z : List ℕ). sets ops c.emitted z) (sym (append-nil code))) t)
            (set ends (4 + l.commands) (place_is t)) (set stars l.commands (stars_are_lem t));
        place = place_is ∙ ap (λ (z : List ℕ). c.emitted + length z) (sym (append-nil code));
        ledger = T.ledger;
        naming = record { ready = done-ready done 0 title-ready; long = ap length T.stored ∙ placed-length names j T.tree ∙ g.long };
      }

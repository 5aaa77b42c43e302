-- `command` and its name: what the descent answers, and the name stored.
-- Assumes nothing.
use Rattle.std.specs.Prelude.{Ok, Err}
use mathlib.Core.Path.{◌≡◌, refl, sym, ap, ◌∙◌}
use mathlib.Core.Bool.{true, false}
use mathlib.Core.List.{List, [], ◌∷◌, ◌++◌, append_assoc, map-append}
use mathlib.Core.Option.{Option, none, some}
use Prim.Native.Nat.{ℕ, suc, ◌+◌, ◌-◌, ◌≤◌, ◌<◌}
use native.Mathlib.Numerals.{add-one}
use native.Mathlib.Omega.{arith}
use lib.Dec.{ltb}
use lib.ListN.{length, set}
use borrow.Author.Tests.{lt-ltb, le-ltb}
use Rattle.notation.specs.Tokens.{Token, sign, name, Name, Word, Lexeme}
use Rattle.notation.specs.Notation.{Kind, command_name, part, declares, begins_command}
use Rattle.notation.specs.Rules.{view, has, elem, name_counts}
use Rattle.notation.specs.Texts.{place_of, among}
use Rattle.notation.specs.working.Lexing.{tokens_from}
use Rattle.notation.specs.working.Ledger.{Book, note, fault, tally, exceeds}
use Rattle.notation.specs.working.Table.{title, find, lines, skips}
use Rattle.notation.specs.working.Descent.{Got, got, ruling, reader, sequence}
use Rattle.notation.proofs.Readers.{reader_token}
use Rattle.lexer.specs.working.Kinds.{kind_number}
use Rattle.lexer.specs.declared.pieces.Piece.{Piece}
use Rattle.statements.specs.declared.cursor.Cursor.{Cursor}
use Rattle.statements.specs.declared.cursor.Ledger.{Ledger}
use Rattle.refusals.specs.declared.Reason.TheVariants.{Redeclared, TooMany}
use Rattle.refusals.specs.declared.Refusal.{Refusal}
use Rattle.refusals.specs.Reasons.{number_of}
use Rattle.lexer.specs.working.Pieces.{misplaced, name_in, listed, Fresh}
use Rattle.lexer.specs.working.Names.{words_in}
use Rattle.statements.specs.working.Names.{shared_words, row_words, command_words, names_kept}
use Rattle.statements.specs.working.Cursors.{refused_at, stopped, book_of}
use Rattle.reader.specs.Read.{placed}
use Rattle.reader.specs.working.Commands.{with_commands, title_at, TitleSays}
use Rattle.statements.proofs.Moves.{Past}
use Rattle.statements.proofs.Symbols.{listed-name, missing}
use Rattle.lexer.proofs.Lookup.{piece_word, piece_length, found_among, with_name, words-kept, words-declared}
use Rattle.statements.proofs.NameKinds.{any_name}

pub title_bad : (text names : List ℕ) (l : Ledger) (c : Cursor) (r q : Refusal) → r ≡ q → title_at text names l c ≡ stopped q → TitleSays text names l c names (Err r)
unfolding TitleSays
title_bad text names l c r q e h = (h ∙ ap stopped (sym e), refl)

-- ---- the name stored

module _ (text names : List ℕ) (t : Piece) (f : Fresh text t) (long : length names ≡ 56) where
  abbrev w : Word
  w = (name_in text t).word

  pub place-one : (j : ℕ) → with_name names j t.start (t.end - t.start) ≡ placed names j (name_in text t ∷ [])
  unfolding placed
  place-one j = ap (λ (k : ℕ). with_name names j t.start k) (sym (piece_length text t f))

  module _ (l : Ledger) (j : ℕ) (e : j ≡ l.shared + l.row + l.commands) (few : j < 28) where
    abbrev after : List ℕ
    after = with_name names j t.start (t.end - t.start)

    same-shared : shared_words text after l ≡ shared_words text names l
    same-shared = words-kept text names j t.start (t.end - t.start) few 0 l.shared (omega arith)

    same_row : row_words text after l ≡ row_words text names l
    same_row = words-kept text names j t.start (t.end - t.start) few l.shared l.row (omega arith)

    one_more : command_words text after (with_commands 1 l) ≡ command_words text names l ++ w ∷ []
    one_more = words-declared text names j t.start (t.end - t.start) few (l.shared + l.row) l.commands (sym e) long ∙ ap (λ (v : Word). command_words text names l ++ v ∷ []) (piece_word text t f)

    pub names_more : names_kept text after (with_commands 1 l) ≡ names_kept text names l ++ (w, command_name) ∷ []
    unfolding names_kept
    names_more =
        rw (same-shared, same_row, one_more) (simp (map-append, append_assoc))

-- ---- what the rules say of a command's name, after `command`

module _ (text names : List ℕ) (l : Ledger) (c : Cursor) where
  abbrev B : Book
  B = book_of text names l c

  pub begins_full : (t : Token) → 16 ≤ l.commands → fault B (part begins_command t) ≡ some 7
  unfolding fault view tally elem exceeds
  begins_full t h = rw (lt-ltb 16 (suc l.commands) (omega arith))

  pub begins-fits : (t : Token) → l.commands < 16 → fault B (part begins_command t) ≡ none
  unfolding fault view tally elem exceeds
  begins-fits t h = rw (le-ltb 16 (suc l.commands) (omega arith))

  -- the book after `command`, whose name is still to come
  abbrev begun : Book
  begun = record { names = names_kept text names l; counts = l.shared ∷ l.row ∷ (l.shared + l.row) ∷ (l.commands + 1) ∷ c.items ∷ c.nodes ∷ 0 ∷ [] }

  note-begins : (t : Token) → note B (part begins_command t) ≡ begun
  unfolding note view tally elem
  note-begins t = rw add-one refl

  title-again : (n : Name) → has (names_kept text names l) (λ s. true) n.word ≡ true → fault begun (part (declares command_name) (name n)) ≡ some 4
  unfolding fault view tally elem exceeds name_counts
  title-again n h = rw h

  title_new : (n : Name) → has (names_kept text names l) (λ s. true) n.word ≡ false → fault begun (part (declares command_name) (name n)) ≡ none
  unfolding fault view tally elem exceeds name_counts
  title_new n h = rw h

  note-title : (n : Name) → note begun (part (declares command_name) (name n)) ≡ record { names = names_kept text names l ++ (n.word, command_name) ∷ []; counts = begun.counts }
  unfolding note view tally elem name_counts
  note-title n = refl

  title-is : (t : Piece) (b : Book) → kind_number t.kind ≡ 24 → reader (length text) title (listed text t) b
      ≡ ruling t.start (fault b (part (declares command_name) (name (name_in text t))))
      (got (name_in text t) (tokens_from text t.end) (note b (part (declares command_name) (name (name_in text t)))))
  unfolding sequence find lines skips
  title-is t b u = rw (listed-name text t u, reader_token (length text) title) refl

  pub title_full : 16 ≤ l.commands → title_at text names l c ≡ stopped (refused_at TooMany c.next)
  unfolding title_at number_of
  title_full h = ap (λ (o : Option ℕ). ruling c.next.start o (reader (length text) title (tokens_from text c.next.end) (note B (part begins_command (sign 5))))) (begins_full (sign 5) h)

  module _ (h : l.commands < 16) (d : Cursor) (q : Past text c c.items c.nodes 0 d) where
    title-goes : title_at text names l c ≡ reader (length text) title (listed text d.next) begun
    unfolding title_at
    title-goes = ap (λ (o : Option ℕ). ruling c.next.start o (reader (length text) title (tokens_from text c.next.end) (note B (part begins_command (sign 5))))) (begins-fits (sign 5) h)
        ∙ ap (λ (b : Book). reader (length text) title (tokens_from text c.next.end) b) (note-begins (sign 5)) ∙ ap (λ (ts : List Lexeme). reader (length text) title ts begun) q.next.tokens

    pub title_missing : (kind_number d.next.kind ≡ 24 → ⊥) → title_at text names l c ≡ stopped (misplaced d.next)
    unfolding skips find lines
    title_missing u = title-goes ∙ missing text d.next title begun q.next.fresh refl refl (λ z. absurd (u z))

    module _ (u : kind_number d.next.kind ≡ 24) (n i : ℕ) (e : n ≡ l.shared + l.row + l.commands) (k : i ≡ 0 + place_of (name_in text d.next).word (words_in text names 0 (n - 0))) where
      abbrev N : Name
      N = name_in text d.next

      declared-before : has (names_kept text names l) (λ s. true) N.word ≡ ltb i n
      declared-before =
          let z : n - 0 ≡ n = omega arith in
          any_name text names l N.word ∙ ap (λ (m : ℕ). among N.word (words_in text names 0 m)) (sym e ∙ sym z) ∙ found_among text names N.word n 0 ∙ ap (λ (m : ℕ). ltb m n) (sym k)

      abbrev named : Got Name
      named = got N (tokens_from text d.next.end) (note begun (part (declares command_name) (name N)))

      pub title_twice : i < n → title_at text names l c ≡ stopped (refused_at Redeclared d.next)
      unfolding number_of
      title_twice x = title-goes ∙ title-is d.next begun u ∙ ap (λ (o : Option ℕ). ruling d.next.start o named) (title-again N (declared-before ∙ lt-ltb i n x))

      pub title-says : n ≤ i → length names ≡ 56 → l.shared + l.row ≤ 12 → (v : Cursor) → Past text d d.items d.nodes d.stars v → (names' : List ℕ) →
          names' ≡ set (set names n d.next.start) (28 + n) (d.next.end - d.next.start)
          → TitleSays text names l c names' (Ok (v, record { shared = l.shared; row = l.row; commands = l.commands + 1 }))
      unfolding TitleSays
      title-says x long few v p names' s =
          let stored : names' ≡ placed names n (N ∷ []) = s ∙ place-one text names d.next q.next.fresh long n in
          record {
            tree = N;
            says = title-goes ∙ title-is d.next begun u ∙ ap (λ (o : Option ℕ). ruling d.next.start o named) (title_new N (declared-before ∙ le-ltb i n x))
                ∙ ap (λ (b : Book). got N (tokens_from text d.next.end) b) (note-title N ∙ book)
                ∙ ap (λ (ts : List Lexeme). got N ts (book_of text names' (with_commands 1 l) v)) p.next.tokens;
            stored = stored ∙ ap (λ (j : ℕ). placed names j (N ∷ [])) e;
            ledger = refl;
            same = p.is ∙ ap (λ (z : Cursor). record { next = v.next; emitted = z.emitted; items = z.items; nodes = z.nodes; stars = z.stars }) q.is;
            fresh = p.next.fresh;
            few = h;
          }
        where
          book : record { names = names_kept text names l ++ (N.word, command_name) ∷ []; counts = begun.counts } ≡ book_of text names' (with_commands 1 l) v
          book =
              let a : names_kept text names l ++ (N.word, command_name) ∷ [] ≡ names_kept text names' (with_commands 1 l) =
              sym (names_more text names d.next q.next.fresh long l n e (omega arith)) ∙ ap (λ (z : List ℕ). names_kept text z (with_commands 1 l)) (sym s) in
              let items : v.items ≡ c.items = p.items_are ∙ q.items_are in
              let nodes : v.nodes ≡ c.nodes = p.nodes_are ∙ q.nodes_are in
              let stars : v.stars ≡ 0 = p.stars_are ∙ q.stars_are in
              ap (λ (z : List (Word × Kind)). record { names = z; counts = begun.counts }) a
              ∙ rw (items, nodes, stars) refl

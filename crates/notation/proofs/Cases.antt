-- Texts and what they are answered: a table of which every line is computed.
-- Assumes nothing.
use mathlib.Core.Path.{◌≡◌, refl}
use mathlib.Core.Bool.{true, false}
use mathlib.Core.List.{List, [], ◌∷◌, ◌++◌, map}
use Prim.Native.Nat.{ℕ}
use Prim.Native.String.{String}
use Rattle.notation.specs.Bytes.{bytes, in_lower_case, same_word}
use Rattle.notation.specs.Tokens.{Name, reserved, word_in, word_token}
use Rattle.notation.specs.Notation.{Tree}
use Rattle.notation.specs.Rules.{same_kind, allowed, name_counts, view, has, elem}
use Rattle.notation.specs.Model.{Expr, lit, star, shared, row, neg, conj, disj, skip_row, put_row, skip, put, for, Model}
use Rattle.notation.specs.Texts.{place_of, among, name_of, expr_of, row_item_of, row_items_of, item_of, items_of, command_of, clause_of, model_of, names_of}
use Rattle.notation.specs.working.Lexing.{span, mark, front, lexemes, tokens_from}
use Rattle.notation.specs.working.Ledger.{tally, note, exceeds, fault}
use Rattle.notation.specs.working.Table.{lines, skips, find, step, ending}
use Rattle.notation.specs.working.Machine.{Outcome, read, refused, reads}
use Rattle.notation.specs.working.Answer.{answer}

-- What is expected of a text: the model that it says; the names that it declares, each with the place where it stands;
-- that it says some model; or its first refusal, by number and place.
pub data Expected : Type 0 where
  says_model : Model → Expected
  has_names : List Name → Expected
  is_read : Expected
  is_refused : ℕ → ℕ → Expected

pub record Case : Type 0 where
  pub text : List ℕ
  pub expected : Expected

infix 68 ◌gives◌
abbrev pub ◌gives◌ : List ℕ → Expected → Case
◌gives◌ t e = record { text = t; expected = e }

-- What came of a text, told as far as was expected: its model only where one is named.
abbrev pub came_read : Expected → Tree → Expected
came_read (says_model m) x = says_model (model_of x)
came_read (has_names ns) x = has_names (names_of x)
came_read is_read x = is_read
came_read (is_refused n i) x = is_read

abbrev pub came : Expected → Outcome → Expected
came e (read x) = came_read e x
came e (refused n i) = is_refused n i

-- The models G, which lets a page be both writable and executable, and H, which does not: they differ in one expression.
abbrev pub granting : Expr → Model
granting e = record {
  shared_names = 1;
  row_names = 2;
  start = record { whole = shared 0; each = neg (row 1) };
  keep = record { whole = lit true; each = neg (conj (row 0) (row 1)) };
  commands = record {
    test = shared 0;
    do_items = for (lit true) (put_row 0 (star 0) ∷ put_row 1 e ∷ []) (skip_row ∷ []) ∷ [];
    else_items = skip ∷ [];
  } ∷ [];
}

-- Texts that begin with these 50 bytes, and the model of one with stars in two commands.
abbrev pub begun : String → List ℕ
begun s = bytes "shared m. row w x. start 1 each 1. keep 1 each 1. " ++ bytes s

abbrev pub starred : Model
starred = record {
  shared_names = 1;
  row_names = 2;
  start = record { whole = lit true; each = lit true };
  keep = record { whole = lit true; each = lit true };
  commands =
      record {
        test = star 0;
        do_items = for (star 1) (put_row 1 (star 2) ∷ put_row 0 (conj (row 1) (star 3)) ∷ []) (put_row 0 (star 4) ∷ []) ∷ put 0 (star 5) ∷ [];
        else_items = put 0 (disj (star 6) (star 7)) ∷ [];
      } ∷
      record { test = lit true; do_items = skip ∷ put 0 (neg (star 0)) ∷ []; else_items = skip ∷ [] } ∷
      [];
}

-- Texts with this in `start`, and their models.
abbrev pub starting : String → List ℕ
starting s = bytes "shared m n. row w. start " ++ bytes s ++ bytes " each w. keep 1 each 0. command c if 1 do skip else skip."

abbrev pub starts_with : Expr → Model
starts_with e = record {
  shared_names = 2;
  row_names = 1;
  start = record { whole = e; each = row 0 };
  keep = record { whole = lit true; each = lit false };
  commands = record { test = lit true; do_items = skip ∷ []; else_items = skip ∷ [] } ∷ [];
}

-- A name where it stands.
abbrev pub standing : ℕ → String → Name
standing i s = record { place = i; word = bytes s }

unfoldable pub cases : List Case
cases =
    -- G, H and the empty text
    bytes "shared m. row w x.\nstart m each not x.\nkeep 1 each not (w and x).\ncommand grant if m do\nfor 1 do w := *; x := * else skip end else skip.\n" gives says_model (granting (star 1)) ∷
    bytes "shared m. row w x.\nstart m each not x.\nkeep 1 each not (w and x).\ncommand grant if m do\nfor 1 do w := *; x := not w and * else skip end else skip.\n" gives
    says_model (granting (conj (neg (row 0)) (star 1))) ∷
    bytes "" gives is_refused 3 0 ∷
    -- how expressions group: parentheses first, then `not`, `and`, `or`, and each operator from the left
    starting "m and n and 0" gives says_model (starts_with (conj (conj (shared 0) (shared 1)) (lit false))) ∷
    starting "m or n or 0" gives says_model (starts_with (disj (disj (shared 0) (shared 1)) (lit false))) ∷
    starting "m or n and 0" gives says_model (starts_with (disj (shared 0) (conj (shared 1) (lit false)))) ∷
    starting "m and n or 0" gives says_model (starts_with (disj (conj (shared 0) (shared 1)) (lit false))) ∷
    starting "m and (n and 0)" gives says_model (starts_with (conj (shared 0) (conj (shared 1) (lit false)))) ∷
    starting "(m or n) and 0" gives says_model (starts_with (conj (disj (shared 0) (shared 1)) (lit false))) ∷
    starting "not m and n" gives says_model (starts_with (conj (neg (shared 0)) (shared 1))) ∷
    starting "not (m and n) or not not 1" gives says_model (starts_with (disj (neg (conj (shared 0) (shared 1))) (neg (neg (lit true))))) ∷
    -- stars are numbered on through the branches of `for` and past `else`, and from 0 in each command
    begun "command c if * do for * do x := *; w := x and * else w := * end; m := * else m := * or *. command d if 1 do skip; m := not * else skip." gives says_model starred ∷
    -- where names stand, which have no case
    bytes "shared m. row w x. start m each x. keep 1 each 1. command grant if 1 do skip else skip. command c if 1 do skip else skip." gives
    has_names (standing 7 "m" ∷ standing 14 "w" ∷ standing 16 "x" ∷ standing 58 "grant" ∷ standing 96 "c" ∷ []) ∷
    bytes "shared Mode. row oWNER_1. start MODE each Owner_1. keep 1 each 1. command Grant if 1 do skip else skip." gives
    has_names (standing 7 "mode" ∷ standing 17 "owner_1" ∷ standing 74 "grant" ∷ []) ∷
    -- bytes outside the notation, neighbours of those inside among them: such a byte ends a word, and is refused where it stands
    bytes "/" gives is_refused 2 0 ∷
    bytes "@" gives is_refused 2 0 ∷
    bytes "[" gives is_refused 2 0 ∷
    bytes "`" gives is_refused 2 0 ∷
    bytes "{" gives is_refused 2 0 ∷
    bytes "^" gives is_refused 2 0 ∷
    bytes "-" gives is_refused 2 0 ∷
    bytes "," gives is_refused 2 0 ∷
    bytes "+" gives is_refused 2 0 ∷
    bytes "<" gives is_refused 2 0 ∷
    bytes ">" gives is_refused 2 0 ∷
    bytes "'" gives is_refused 2 0 ∷
    bytes "shared\tm." gives is_refused 2 6 ∷
    bytes "shared m.\r\n" gives is_refused 2 9 ∷
    bytes "shared ab-cd." gives is_refused 2 9 ∷
    bytes "sha-red m." gives is_refused 3 0 ∷
    bytes "shared m. row w.#" gives is_refused 2 16 ∷
    begun "command c if 1&1" gives is_refused 2 64 ∷
    begun "command c if 1 do skip else skip.!" gives is_refused 2 83 ∷
    -- words of 16 bytes and of 17, in every kind of place
    bytes "shared abcdefghijklmnop. row. start abcdefghijklmnop each 1. keep 1 each 1. command BCDEFGHIJKLMNOPA if 1 do skip else skip." gives is_read ∷
    bytes "shared abcdefghijklmnopq." gives is_refused 2 7 ∷
    bytes "sharedsharedshared m." gives is_refused 2 0 ∷
    bytes "shared m 0000000000000000." gives is_refused 3 9 ∷
    bytes "shared m 00000000000000000." gives is_refused 2 9 ∷
    begun "command c if 1 a2345678901234567" gives is_refused 2 65 ∷
    begun "command c if 1 do skip else skip. _2345678901234567" gives is_refused 2 84 ∷
    -- marks and words that have no use
    bytes ":" gives is_refused 3 0 ∷
    bytes "=" gives is_refused 3 0 ∷
    bytes "shared m: n" gives is_refused 3 8 ∷
    begun "command c if 1 do m = 1" gives is_refused 3 70 ∷
    begun "command c if 1 do m : = 1" gives is_refused 3 70 ∷
    begun "command c if 1 do m :== 1" gives is_refused 3 72 ∷
    begun "command c if 1 do m ::= 1" gives is_refused 3 70 ∷
    bytes "shared 0m." gives is_refused 3 7 ∷
    bytes "shared _m." gives is_refused 3 7 ∷
    bytes "shared 9." gives is_refused 3 7 ∷
    bytes "shared m. row. start 2" gives is_refused 3 21 ∷
    bytes "shared m. row. start 00" gives is_refused 3 21 ∷
    bytes "shared m. row. start 1m" gives is_refused 3 21 ∷
    bytes "shared m. row. start _" gives is_refused 3 21 ∷
    bytes "Shared m." gives is_refused 3 0 ∷
    -- texts that end too soon: the place is the length, with the blanks at the end
    bytes "shared m" gives is_refused 3 8 ∷
    bytes "shared m  " gives is_refused 3 10 ∷
    bytes "shared m.\n" gives is_refused 3 10 ∷
    bytes " " gives is_refused 3 1 ∷
    bytes "\n\n" gives is_refused 3 2 ∷
    begun "" gives is_refused 3 50 ∷
    begun "command c if 1 do skip else skip" gives is_refused 3 82 ∷
    begun "command c if 1 do skip else skip \n" gives is_refused 3 84 ∷
    -- tokens in the wrong place, whatever else is wrong with them
    bytes "row" gives is_refused 3 0 ∷
    bytes "  ." gives is_refused 3 2 ∷
    bytes "shared row." gives is_refused 3 7 ∷
    bytes "shared m. start" gives is_refused 3 10 ∷
    bytes "shared m. row w. keep" gives is_refused 3 17 ∷
    bytes "shared m. row w. start each" gives is_refused 3 23 ∷
    bytes "shared m. row w. start 1." gives is_refused 3 24 ∷
    bytes "shared m. row w. start m m" gives is_refused 3 25 ∷
    bytes "shared m. row w. start m z" gives is_refused 3 25 ∷
    bytes "shared m. row w. start m not" gives is_refused 3 25 ∷
    bytes "shared m. row w. start m and or" gives is_refused 3 29 ∷
    bytes "shared m. row w. start m := 1" gives is_refused 3 25 ∷
    bytes "shared m. row w. start ()" gives is_refused 3 24 ∷
    bytes "shared m. row w. start (m each" gives is_refused 3 26 ∷
    bytes "shared m. row w. start m)" gives is_refused 3 24 ∷
    bytes "shared *" gives is_refused 3 7 ∷
    bytes "shared m. row w. start m *" gives is_refused 3 25 ∷
    begun "command if" gives is_refused 3 58 ∷
    begun "command c do" gives is_refused 3 60 ∷
    begun "command c if 1 do else" gives is_refused 3 68 ∷
    begun "command c if 1 do *" gives is_refused 3 68 ∷
    begun "command c if 1 do 1" gives is_refused 3 68 ∷
    begun "command c if 1 do skip; else" gives is_refused 3 74 ∷
    begun "command c if 1 do skip." gives is_refused 3 72 ∷
    begun "command c if 1 do skip end" gives is_refused 3 73 ∷
    begun "command c if 1 do for 1 do for" gives is_refused 3 77 ∷
    begun "command c if 1 do for 1 do skip else skip." gives is_refused 3 91 ∷
    begun "command c if 1 do skip else skip. skip" gives is_refused 3 84 ∷
    begun "command c if 1 do skip else skip.." gives is_refused 3 83 ∷
    -- names declared twice, also where the second is over a limit, and where more is wrong after it
    bytes "shared m m" gives is_refused 4 9 ∷
    bytes "shared m. row w m" gives is_refused 4 16 ∷
    bytes "shared m. row w w" gives is_refused 4 16 ∷
    begun "command m" gives is_refused 4 58 ∷
    begun "command x" gives is_refused 4 58 ∷
    begun "command c if 1 do skip else skip. command c" gives is_refused 4 92 ∷
    bytes "shared a b c d e f g h h" gives is_refused 4 23 ∷
    bytes "shared. row a b c d e f g h i j a" gives is_refused 4 32 ∷
    bytes "shared a b c d e f g h. row i j k l a" gives is_refused 4 36 ∷
    bytes "shared m m @" gives is_refused 4 9 ∷
    -- names that are unknown, or not of the kind wanted
    bytes "shared m. row w. start z" gives is_refused 5 23 ∷
    bytes "shared m. row w. start N" gives is_refused 5 23 ∷
    bytes "shared m. row w. start w" gives is_refused 5 23 ∷
    bytes "shared m. row w. start m each w and z" gives is_refused 5 36 ∷
    bytes "shared m. row w. start 1 each 1. keep w" gives is_refused 5 38 ∷
    begun "command c if x" gives is_refused 5 63 ∷
    begun "command c if c" gives is_refused 5 63 ∷
    begun "command c if 1 do x := 1" gives is_refused 5 68 ∷
    begun "command c if 1 do c := 1" gives is_refused 5 68 ∷
    begun "command c if 1 do z := 1" gives is_refused 5 68 ∷
    begun "command c if 1 do m := w" gives is_refused 5 73 ∷
    begun "command c if 1 do for c" gives is_refused 5 72 ∷
    begun "command c if 1 do for w do m := 1" gives is_refused 5 77 ∷
    begun "command c if 1 do for w do x := c" gives is_refused 5 82 ∷
    begun "command c if 1 do skip else skip. command d if c" gives is_refused 5 97 ∷
    -- stars in `start` and `keep`
    bytes "shared m. row w. start *" gives is_refused 6 23 ∷
    bytes "shared m. row w. start m and not *" gives is_refused 6 33 ∷
    bytes "shared m. row w. start m each (*" gives is_refused 6 31 ∷
    bytes "shared m. row w. start m each w. keep *" gives is_refused 6 38 ∷
    bytes "shared m. row w. start m each w. keep m each w or *" gives is_refused 6 50 ∷
    -- as many names as there may be, and one more
    bytes "shared a b c d e f g h. row i j k l. start a and h each i or l. keep 1 each 1. command m if 1 do skip else skip." gives is_read ∷
    bytes "shared a b. row d e f g h i j k l m. start 1 each 1. keep 1 each 1. command c if 1 do skip else skip." gives is_read ∷
    bytes "shared a b c d e f g h. row. start 1 each 1. keep 1 each 1. command i if 1 do skip else skip." gives is_read ∷
    bytes "shared. row a b d e f g h i j k. start 1 each 1. keep 1 each 1. command c if 1 do skip else skip." gives is_read ∷
    bytes "shared a b c d e f g h i" gives is_refused 7 23 ∷
    bytes "shared. row a b c d e f g h i j k" gives is_refused 7 32 ∷
    bytes "shared a b c d e f g h. row i j k l m" gives is_refused 7 36 ∷
    bytes "shared a b c. row d e f g h i j k l m" gives is_refused 7 36 ∷
    -- nesting by parentheses, by `not` and by both, as deep as it may be and deeper
    bytes "shared m. row. start ((((((((((((((((m)))))))))))))))) each 1. keep 1 each 1. command c if 1 do skip else skip." gives is_read ∷
    bytes "shared m. row. start (((((((((((((((((m))))))))))))))))) each 1. keep 1 each 1. command c if 1 do skip else skip." gives is_refused 7 37 ∷
    bytes "shared m. row. start not not not not not not not not not not not not not not not not m each 1. keep 1 each 1. command c if 1 do skip else skip." gives is_read ∷
    bytes "shared m. row. start not not not not not not not not not not not not not not not not not m each 1. keep 1 each 1. command c if 1 do skip else skip." gives is_refused 7 85 ∷
    bytes "shared m. row. start not(not(not(not(not(not(not(not(m)))))))) and not(not(not(not(not(not(not(not(m)))))))) each 1. keep 1 each 1. command c if 1 do skip else skip." gives is_read ∷
    bytes "shared m. row. start not(not(not(not(not(not(not(not(m and not m" gives is_refused 7 59 ∷
    bytes "shared m. row. start not(not(not(not(not(not(not(not(m and (m" gives is_refused 7 59 ∷
    bytes "shared m. row. start m each ((((((((((((((((not m" gives is_refused 7 44 ∷
    -- eight stars in each command, and a ninth
    begun "command c if * do m := * and * else for * do x := * else x := * end; m := * or *. command d if * do m := * and * and * and * and * and * and * else skip." gives is_read ∷
    begun "command c if * do m := * and * else for * do x := * else x := * end; m := * or * or *." gives is_refused 7 134 ∷
    begun "command c if * and * and * and * and * and * and * and * and * do" gives is_refused 7 111 ∷
    -- every end of the letters and digits; no names; no blanks; many; names like reserved words
    bytes "shared A_0 Z. row a z_9 zZ. start A_0 and Z each a or z_9. keep Z each zZ. command Zzz if Z do Z := A_0 else skip." gives is_read ∷
    bytes "shared. row. start 1 each 0. keep 1 each 0. command c if 1 do skip else skip." gives is_read ∷
    bytes "shared m.row w.start(m)each(w).keep(1)each(1).command c if(m)do m:=not(m);skip else skip." gives is_read ∷
    bytes "\nshared\nm .\n row\n\n.start 1\neach 1 .keep 1 each 1.command c if 1 do skip else skip . \n " gives is_read ∷
    bytes "shared m mm shared1 a_row. row rows. start m each rows. keep mm each 1. command commands if a_row do skip else skip." gives is_read ∷
    -- names in other cases than they are declared in, used and declared again; reserved words in other cases, where a name, the word itself and nothing of the kind may stand
    bytes "shared Page. row oWNER. start page each Owner. keep PAGE each ownER. command Grant if pAGE do Page := PagE; for oWnEr do OWNER := page else skip end else skip." gives is_read ∷
    bytes "shared m M" gives is_refused 4 9 ∷
    bytes "shared Page. row pAGE" gives is_refused 4 17 ∷
    bytes "shared m. row w W" gives is_refused 4 16 ∷
    begun "command GRANT if 1 do skip else skip. command grant" gives is_refused 4 96 ∷
    begun "command M" gives is_refused 4 58 ∷
    begun "command c if X" gives is_refused 5 63 ∷
    bytes "Shared" gives is_refused 3 0 ∷
    bytes "shared Row" gives is_refused 3 7 ∷
    bytes "shared m. ROW" gives is_refused 3 10 ∷
    bytes "shared m. row. start m Each" gives is_refused 3 23 ∷
    begun "command IF" gives is_refused 3 58 ∷
    begun "command c if 1 do skip else skip. Command" gives is_refused 3 84 ∷
    -- a reserved word as a part of another
    bytes "shared Row_1 aRow. row Rows. start row_1 each ROWS. keep AROW each 1. command Doing if 1 do skip else skip." gives is_read ∷
    bytes "shared Rowaaaaaaaaaaaaa" gives is_refused 3 23 ∷
    bytes "shared Rowaaaaaaaaaaaaaa" gives is_refused 2 7 ∷
    []

pub all-cases : map (λ (c : Case). came c.expected (answer c.text)) cases ≡ map (λ (c : Case). c.expected) cases
unfolding bytes in_lower_case same_word reserved word_in word_token same_kind allowed name_counts view has elem place_of among name_of expr_of row_item_of row_items_of item_of items_of command_of clause_of model_of names_of
    span mark front lexemes tokens_from tally note exceeds fault lines skips find step ending reads answer cases
all-cases = refl

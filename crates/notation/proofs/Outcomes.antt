-- The reading and the definitions agree: on which tokens say which tree, and on the first refusal.
-- Assumes nothing.
use mathlib.Core.Path.{◌≡◌, refl, sym, ◌∙◌, ap, ap₂, subst}
use mathlib.Core.Bool.{false≢true}
use mathlib.Core.List.{List, [], ◌∷◌, ◌++◌, append_assoc, append-nil}
use mathlib.Core.Option.{Option, none, some, none-ne-some, some-injective}
use Prim.Native.Nat.{ℕ}
use mathlib.Core.Logic.{◌↔◌}
use Rattle.notation.specs.Tokens.{Token, Lexeme, at}
use Rattle.notation.specs.Notation.{Role, Part, part, Tree, TextIs}
use Rattle.notation.specs.Rules.{elem, Kept}
use Rattle.notation.specs.Texts.{Spells, spells_none, spells, Says, Begins, Refused, at_byte, at_token, at_end, at_rule, Faultless}
use Rattle.notation.specs.working.Ledger.{Book, blank_book, note, notes, fault, Clean}
use Rattle.notation.specs.working.Table.{whole, Reads, State, step, ending, firsts}
use Rattle.notation.specs.working.Machine.{Outcome, read, refused, at_last, ruled, stepped, reads, start, reading}
use Rattle.notation.proofs.Completion.{complete}
use Rattle.notation.proofs.TableLL1.{ll1-table}
use Rattle.notation.proofs.TableRuns.{Good, step-reads, ending-reads, reads-ending, reads-step}
use Rattle.notation.proofs.NotationToTable.{text-is}
use Rattle.notation.proofs.TableToNotation.{tree_of}
use Rattle.notation.proofs.Ledger.{breach-is, notes-one, clean_kept}

start_good : Good (whole ∷ [])
unfolding firsts elem
start_good = (λ k e. absurd (false≢true e), tt)

abbrev Stands : State → List Part → Tree → Type 0
Stands s ps x = Reads s.want s.cont ps x

-- Where the reading comes to after clean parts of a text, and how what follows there follows from the start.
record Along (len : ℕ) (s : State) (b : Book) (us : List Lexeme) (ps qs : List Part) (x : Tree) : Type 0 where
  to : State
  runs : (ts : List Lexeme) → reads len (us ++ ts) s b ≡ reads len ts to (notes b ps)
  stands : Stands to qs x
  good : Good to.want
  back : (rs : List Part) (y : Tree) → Stands to rs y → Stands s (ps ++ rs) y

along : (len : ℕ) {us : List Lexeme} {ps : List Part} → Spells us ps → (qs : List Part) (x : Tree) (s : State) (b : Book) → Good s.want
    → Stands s (ps ++ qs) x → Clean b ps → Along len s b us ps qs x
unfolding reads
along len spells_none qs x s b g D c = record { to = s; runs = λ ts. refl; stands = D; good = g; back = λ rs y E. E }
along len (spells i r t w) qs x s b g D c =
    let h = reads-step ll1-table g D in
    let a = along len w qs x h.0 (note b (part r t)) h.3 h.2 c.1 in
    record { to = a.to; runs = λ ts. rw (h.1, c.0) (a.runs ts); stands = a.stands; good = a.good; back = λ rs y E. step-reads s.want s.cont h.1 (a.back rs y E) }

-- Parts after which some tokens stand can begin a text.
begins : (s : State) (ps : List Part) → ((rs : List Part) (y : Tree) → Stands s rs y → Stands start (ps ++ rs) y) → Begins ps
begins s ps back =
    let h = complete s.want s.cont in
    let x = tree_of (back h.0 h.1 h.2) in
    record { rest = h.0; tree = x.0; form = x.1 }

-- The rules are kept, by the parts and by the book.
from-kept : {ps : List Part} → Kept ps → Clean blank_book ps
from-kept {ps} h = (clean_kept ps).1 h

to-kept : {ps : List Part} → Clean blank_book ps → Kept ps
to-kept {ps} c = (clean_kept ps).0 c

-- Which tokens say which tree.
pub says-read : (len : ℕ) {ts : List Lexeme} {x : Tree} → Says ts x → reading len ts ≡ read x
unfolding reads
says-read len {ts} {x} r =
    let a = along len r.spelt [] x start blank_book start_good (rw append-nil (text-is r.form)) (from-kept r.kept) in
    let e : at_last len (ending a.to.want a.to.cont) ≡ read x = rw (reads-ending a.stands) in
    (rw append-nil at (a.runs [])) ∙ e

spells-more : {us : List Lexeme} {ps : List Part} → Spells us ps → (i : ℕ) (r : Role) (t : Token) → Spells (us ++ at i (some t) ∷ []) (ps ++ part r t ∷ [])
spells-more spells_none i r t = spells i r t spells_none
spells-more (spells j r' t' w) i r t = spells j r' t' (spells-more w i r t)

-- Where the first refusal is, the reading refuses.
reaches : (len : ℕ) {us : List Lexeme} (f : Faultless us) → Along len start blank_book us f.parts f.begins.rest f.begins.tree
reaches len f = along len f.spelt f.begins.rest f.begins.tree start blank_book start_good (text-is f.begins.form) (from-kept f.kept)

pub refused-reading : {len : ℕ} {ts : List Lexeme} {n i : ℕ} → Refused len ts n i → reading len ts ≡ refused n i
unfolding reads
refused-reading {len} (at_byte us i ts f) = (reaches len f).runs (at i none ∷ ts)
refused-reading {len} (at_token us i t ts f no_way) = a.runs (at i (some t) ∷ ts) ∙ go (step a.to.want a.to.cont t) refl
  where
    a : Along len start blank_book us f.parts f.begins.rest f.begins.tree
    a = reaches len f

    go : (o : Option (Role × State)) → step a.to.want a.to.cont t ≡ o
        → stepped i (notes blank_book f.parts) t o (λ r s. reads len ts s (note (notes blank_book f.parts) (part r t))) ≡ refused 3 i
    go none e = refl
    go (some y) e = absurd (no_way (record {
      parts = f.parts ++ part y.0 t ∷ [];
      spelt = spells-more f.spelt i y.0 t;
      begins = begins y.1 (f.parts ++ part y.0 t ∷ []) (λ rs z D. rw append_assoc (a.back _ z (step-reads a.to.want a.to.cont e D)));
    }))
refused-reading {len} (at_end us f no_end) = (rw append-nil at (a.runs [])) ∙ go (ending a.to.want a.to.cont) refl
  where
    a : Along len start blank_book us f.parts f.begins.rest f.begins.tree
    a = reaches len f

    go : (o : Option Tree) → ending a.to.want a.to.cont ≡ o → at_last len o ≡ refused 3 len
    go none e = refl
    go (some x) e = let y = tree_of (rw append-nil at (a.back [] x (ending-reads a.to.want a.to.cont e))) in absurd (no_end y.0 y.1)
refused-reading {len} (at_rule us i r t ts n g b e) =
    let a = along len g.spelt (part r t ∷ b.rest) b.tree start blank_book start_good (rw append_assoc at (text-is b.form)) (from-kept g.kept) in
    let f : fault (notes blank_book g.parts) (part r t) ≡ some n = breach-is g.parts (part r t) ∙ e in
    let h = reads-step ll1-table a.good a.stands in
    a.runs (at i (some t) ∷ ts) ∙ rw (h.1, f)

-- What good symbols stand for gives one tree.
reads-one : (ps : List Part) {x y : Tree} (s : State) → Good s.want → Stands s ps x → Stands s ps y → x ≡ y
reads-one [] {x} {y} s g D E = some-injective x y (sym (reads-ending D) ∙ reads-ending E)
reads-one (part r t ∷ ps) {x} {y} s g D E =
    let h = reads-step ll1-table g D in
    let i = reads-step ll1-table g E in
    let e : i.0 ≡ h.0 = ap (λ (z : Role × State). z.1) (some-injective _ _ (sym i.1 ∙ h.1)) in
    reads-one ps h.0 h.3 h.2 (subst (λ (z : State). Stands z ps y) e i.2)

said : (ps : List Part) {x : Tree} → Stands start ps x → TextIs ps x
said ps D = subst (λ (z : Tree). TextIs ps z) (reads-one ps start start_good (text-is (tree_of D).1) D) (tree_of D).1

-- The tokens that a text can begin with determine their roles.
roles : {us : List Lexeme} {ps qs : List Part} → Spells us ps → Spells us qs → (rs ss : List Part) (x y : Tree) (s : State) → Good s.want → Stands s (ps ++ rs) x → Stands s (qs ++ ss) y → ps ≡ qs
roles spells_none spells_none rs ss x y s g D E = refl
roles (spells i r t w) (spells {ps = qs} _ r' _ v) rs ss x y s g D E =
    let h = reads-step ll1-table g D in
    let k = reads-step ll1-table g E in
    let e = some-injective _ _ (sym k.1 ∙ h.1) in
    let z = subst (λ (z : Role × State). Stands z.1 (qs ++ ss) y) e k.2 in
    let f = roles w v rs ss x y h.0 h.3 h.2 z in
    let c : r' ≡ r = ap (λ (z : Role × State). z.0) e in
    ap₂ (λ (a : Role) (as' : List Part). part a t ∷ as') (sym c) f

pub one-role : {us : List Lexeme} {ps qs : List Part} → Spells us ps → Spells us qs → Begins ps → Begins qs → ps ≡ qs
one-role w v b c = roles w v b.rest c.rest b.tree c.tree start start_good (text-is b.form) (text-is c.form)

-- The parts of one token more: those of the tokens before, and one.
record Last (us : List Lexeme) (t : Token) (qs : List Part) : Type 0 where
  front : List Part
  role : Role
  spelt : Spells us front
  are : qs ≡ front ++ part role t ∷ []

last-part : (us : List Lexeme) (i : ℕ) (t : Token) {qs : List Part} → Spells (us ++ at i (some t) ∷ []) qs → Last us t qs
last-part [] i t (spells _ r _ spells_none) = record { front = []; role = r; spelt = spells_none; are = refl }
last-part (at j none ∷ us) i t {qs = qs} x5 = elim x5 [ ]
last-part (at j (some t') ∷ us) i t (spells _ r _ w) =
    let h = last-part us i t w in
    record { front = part r t' ∷ h.front; role = h.role; spelt = spells j r t' h.spelt; are = ap (λ (as' : List Part). part r t' ∷ as') h.are }

-- What begins a text with one part more begins one.
begins-less : (ps : List Part) (p : Part) → Begins (ps ++ p ∷ []) → Begins ps
begins-less ps p b = record { rest = p ∷ b.rest; tree = b.tree; form = rw append_assoc at b.form }

-- What the reading answers is so.
abbrev pub Rightly : ℕ → List Lexeme → Outcome → Type 0
Rightly len ts (read x) = Says ts x
Rightly len ts (refused n i) = Refused len ts n i

clean_more : (b : Book) (ps : List Part) (p : Part) → Clean b ps → fault (notes b ps) p ≡ none → Clean b (ps ++ p ∷ [])
clean_more b [] p c e = (e, tt)
clean_more b (r ∷ ps) p c e = (c.0, clean_more (note b r) ps p c.1 e)

-- The state and the book after clean parts: what stands there is what may follow from the start.
record At (us : List Lexeme) (ps : List Part) (s : State) (b : Book) : Type 0 where
  spelt : Spells us ps
  back : (rs : List Part) (y : Tree) → Stands s rs y → Stands start (ps ++ rs) y
  forth : (rs : List Part) (y : Tree) → Stands start (ps ++ rs) y → Stands s rs y
  good : Good s.want
  clean : Clean blank_book ps
  book : notes blank_book ps ≡ b

-- One token on.
next : {us : List Lexeme} {ps : List Part} {s : State} {b : Book} (i : ℕ) (y : Role × State) (t : Token) → At us ps s b → step s.want s.cont t ≡ some y → fault b (part y.0 t) ≡ none →
    At (us ++ at i (some t) ∷ []) (ps ++ part y.0 t ∷ []) y.1 (note b (part y.0 t))
next {us} {ps} {s} {b} i y t a e f =
    record {
      spelt = spells-more a.spelt i y.0 t;
      back = λ rs z D. rw append_assoc (a.back _ z (step-reads s.want s.cont e D));
      forth = λ rs z D. (there rs z (a.forth _ z (rw append_assoc at D))).0;
      good = let h = complete y.1.want y.1.cont in (there h.0 h.1 (step-reads s.want s.cont e h.2)).1;
      clean = clean_more blank_book ps (part y.0 t) a.clean (rw a.book f);
      book = notes-one blank_book ps (part y.0 t) ∙ rw a.book;
    }
  where
    there : (rs : List Part) (z : Tree) → Stands s (part y.0 t ∷ rs) z → Stands y.1 rs z × Good y.1.want
    there rs z D =
        let h = reads-step ll1-table a.good D in
        let i : h.0 ≡ y.1 = ap (λ (z : Role × State). z.1) (some-injective _ _ (sym h.1 ∙ e)) in
        subst (λ (v : State). Stands v rs z × Good v.want) i (h.2, h.3)

-- Where no step takes the token, no roles make it one that a text can begin with.
blocked : (s : State) (ps : List Part) (t : Token) {us : List Lexeme} {qs : List Part} → step s.want s.cont t ≡ none → Good s.want
    → ((rs : List Part) (y : Tree) → Stands start (ps ++ rs) y → Stands s rs y) →
    Last us t qs → Begins qs → Spells us ps → Begins ps → ⊥
blocked s ps t e g forth l b w c =
    let d : Begins (l.front ++ part l.role t ∷ []) = rw l.are at b in
    let f : l.front ≡ ps = one-role l.spelt w (begins-less l.front (part l.role t) d) c in
    let h : Begins (ps ++ part l.role t ∷ []) = rw f at d in
    none-ne-some _ (sym e ∙ (reads-step ll1-table g (forth _ h.tree (rw append_assoc at (text-is h.form)))).1)

abbrev faultless : {us : List Lexeme} {ps : List Part} {s : State} {b : Book} → At us ps s b → Faultless us
faultless {us} {ps} {s} a = record { parts = ps; spelt = a.spelt; begins = begins s ps a.back; kept = to-kept a.clean }

rightly : (len : ℕ) (ts us : List Lexeme) (ps : List Part) (s : State) (b : Book) → At us ps s b → Rightly len (us ++ ts) (reads len ts s b)
unfolding reads
rightly len [] us ps s b a = rw append-nil (go (ending s.want s.cont) refl)
  where
    go : (o : Option Tree) → ending s.want s.cont ≡ o → Rightly len us (at_last len o)
    go none e = at_end us (faultless a) (λ x i. none-ne-some x (sym e ∙ reads-ending (a.forth [] x (rw append-nil (text-is i)))))
    go (some x) e = record { parts = ps; spelt = a.spelt; form = said ps (rw append-nil at (a.back [] x (ending-reads s.want s.cont e))); kept = to-kept a.clean }
rightly len (at i none ∷ ts) us ps s b a = at_byte us i ts (faultless a)
rightly len (at i (some t) ∷ ts) us ps s b a =
    go (step s.want s.cont t) refl (λ y. rightly len ts (us ++ at i (some t) ∷ []) (ps ++ part y.0 t ∷ []) y.1 (note b (part y.0 t)))
  where
    ruling : (y : Role × State) (o : Option ℕ) → step s.want s.cont t ≡ some y → fault b (part y.0 t) ≡ o →
        (At (us ++ at i (some t) ∷ []) (ps ++ part y.0 t ∷ []) y.1 (note b (part y.0 t)) → Rightly len ((us ++ at i (some t) ∷ []) ++ ts) (reads len ts y.1 (note b (part y.0 t)))) →
        Rightly len (us ++ at i (some t) ∷ ts) (ruled i o (reads len ts y.1 (note b (part y.0 t))))
    ruling y none e f rec = rw append_assoc at (rec (next i y t a e f))
    ruling y (some n) e f rec =
        at_rule us i y.0 t ts n (faultless a) (begins y.1 (ps ++ part y.0 t ∷ []) (λ rs z D. rw append_assoc (a.back _ z (step-reads s.want s.cont e D))))
        (sym (breach-is ps (part y.0 t)) ∙ ap (λ (c : Book). fault c (part y.0 t)) a.book ∙ f)

    go : (o : Option (Role × State)) → step s.want s.cont t ≡ o →
        ((y : Role × State) → At (us ++ at i (some t) ∷ []) (ps ++ part y.0 t ∷ []) y.1 (note b (part y.0 t))
        → Rightly len ((us ++ at i (some t) ∷ []) ++ ts) (reads len ts y.1 (note b (part y.0 t)))) →
        Rightly len (us ++ at i (some t) ∷ ts) (stepped i b t o (λ r s. reads len ts s (note b (part r t))))
    go none e rec =
        at_token us i t ts (faultless a) (λ v. blocked s ps t e a.good a.forth (last-part us i t v.spelt) v.begins a.spelt (begins s ps a.back))
    go (some y) e rec = ruling y (fault b (part y.0 t)) e refl (rec y)

-- The reading answers rightly on any tokens.
pub reading-right : (len : ℕ) (ts : List Lexeme) → Rightly len ts (reading len ts)
reading-right len ts =
    rightly len ts [] [] start blank_book (record { spelt = spells_none; back = λ rs y D. D; forth = λ rs y D. D; good = start_good; clean = tt; book = refl })

pub says_iff : (len : ℕ) (ts : List Lexeme) (x : Tree) → Says ts x ↔ (reading len ts ≡ read x)
says_iff len ts x = (says-read len, λ e. rw e at (reading-right len ts))

-- Each line of the tables of cases is a fact of the definitions: its text says that model, says some model, or has that first refusal.
-- Assumes nothing.
use mathlib.Core.Path.{◌≡◌, refl}
use mathlib.Core.List.{List, [], ◌∷◌, map}
use Prim.Native.Nat.{ℕ}
use native.Mathlib.Omega.{arith}
use Rattle.notation.specs.Tokens.{Name}
use Rattle.notation.specs.Notation.{Tree}
use Rattle.notation.specs.Model.{Model}
use Rattle.notation.specs.Texts.{model_of, names_of, TextSaysTree, TextSays, TextRefused}
use Rattle.notation.specs.Regular.{Every}
use Rattle.notation.specs.working.Machine.{Outcome, read, refused}
use Rattle.notation.specs.working.Answer.{answer}
use Rattle.notation.proofs.Texts.{says_iff_answer, refused_iff_answer}
use Rattle.notation.proofs.Cases.{Expected, says_model, has_names, is_read, is_refused, Case, came, cases, all-cases}

abbrev pub Holds : List ℕ → Expected → Type 0
Holds text (says_model m) = TextSays text m
Holds text (has_names ns) = (x : Tree) × TextSaysTree text x × (names_of x ≡ ns)
Holds text is_read = (m : Model) × TextSays text m
Holds text (is_refused n i) = TextRefused text n i

says : (text : List ℕ) (m : Model) (o : Outcome) → answer text ≡ o → came (says_model m) o ≡ says_model m → TextSays text m
says text m (read x) a e = record { tree = x; says = (says_iff_answer text x).1 a; meant = cc }
says text m (refused n i) a e = let z : ◌≡◌ {A = ℕ} 0 1 = cc in absurd (omega arith)

named : (text : List ℕ) (ns : List Name) (o : Outcome) → answer text ≡ o → came (has_names ns) o ≡ has_names ns → (x : Tree) × TextSaysTree text x × (names_of x ≡ ns)
named text ns (read x) a e = (x, (says_iff_answer text x).1 a, cc)
named text ns (refused n i) a e = let z : ◌≡◌ {A = ℕ} 0 1 = cc in absurd (omega arith)

reads : (text : List ℕ) (o : Outcome) → answer text ≡ o → came is_read o ≡ is_read → (m : Model) × TextSays text m
reads text (read x) a e = (model_of x, record { tree = x; says = (says_iff_answer text x).1 a; meant = refl })
reads text (refused n i) a e = let z : ◌≡◌ {A = ℕ} 0 1 = cc in absurd (omega arith)

refuses : (text : List ℕ) (n i : ℕ) (o : Outcome) → answer text ≡ o → came (is_refused n i) o ≡ is_refused n i → TextRefused text n i
refuses text n i (read x) a e = let z : ◌≡◌ {A = ℕ} 0 1 = cc in absurd (omega arith)
refuses text n i (refused k j) a e = (refused_iff_answer text n i).1 cc

holds : (text : List ℕ) (e : Expected) → came e (answer text) ≡ e → Holds text e
holds text (says_model m) h = says text m (answer text) refl h
holds text (has_names ns) h = named text ns (answer text) refl h
holds text is_read h = reads text (answer text) refl h
holds text (is_refused n i) h = refuses text n i (answer text) refl h

-- What is computed of a whole table holds of each of its lines.
pub each_holds : (cs : List Case) → map (λ (c : Case). came c.expected (answer c.text)) cs ≡ map (λ (c : Case). c.expected) cs → Every (λ (c : Case). Holds c.text c.expected) cs
each_holds [] h = tt
each_holds (c ∷ cs) h = (holds c.text c.expected cc, each_holds cs cc)

pub all-cases_hold : Every (λ (c : Case). Holds c.text c.expected) cases
all-cases_hold = each_holds cases all-cases

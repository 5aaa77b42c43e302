-- What a portion does from one pause to the next, and what yes and no mean to whether a state has been met.
-- Assumes nothing.
use mathlib.Core.Path.{◌≡◌, refl, sym, ap, ◌∙◌, subst}
use mathlib.Core.Bool.{Bool, true, false, true≢false}
use mathlib.Core.Logic.{◌↔◌, ◌⊎◌, inl, inr, ⊎_elim}
use mathlib.Core.List.{List}
use Prim.Native.Nat.{ℕ, ◌+◌, ◌<◌, ◌≤◌}
use native.Mathlib.Omega.{arith}
use lib.Dec.{ltb}
use lib.ListN.{length, get_or, take}
use borrow.Author.Tests.{lt-ltb, ltb-true}
use Rattle.notation.specs.Model.{Model}
use Rattle.notation.specs.Texts.{TextSays}
use Rattle.meaning.specs.OneRow.{state_count}
use Rattle.exploration.specs.Findings.{Reaches}
use Rattle.exploration.specs.Pause.{Pause}
use Rattle.exploration.specs.working.Transitions.{Transitions}
use Rattle.exploration.specs.working.Exploring.{Seen}
use Rattle.exploration.specs.working.Pauses.{Stand, seen_in, broke_off, opened, after, further, pause_of, over}
use Rattle.exploration.specs.working.Found.{transitions_of}
use Rattle.exploration.proofs.Order.{lt_or_ge}
use Rattle.exploration.proofs.Pauses.{Marked, fit_after, mark-stays}
use Rattle.exploration.proofs.PortionEnds.{grown-further, most-further, least-further, further_none, further-ended}
use Rattle.exploration.proofs.Portions.{further-further}
use Rattle.questions.specs.Answers as Q
use Rattle.std.specs.Prelude.{Ok}
use Rattle.pauses.specs.Promises.{Paused, HandsBack, PortionMeans, PortionsTell, MetMeans, MetTells, MetReaches, MetExactly, MetAtBreak, MetStays, met_reply}
use Rattle.pauses.specs.Promises as P
use Rattle.pauses.specs.working.Pausing.{flat_of, portion_of}
use Rattle.pauses.proofs.AnyCalls as C
use Rattle.pauses.proofs.MetRefusals.{met_entry, met-refusals}
use Rattle.pauses.proofs.Unaltered.{over-same, StandsAt, portion-goes, later_at, unaltered-at}
use Rattle.pauses.proofs.PausesTold.{mark, marked-among, among-marked, means, pauses_tell}

module _ (text : List ℕ) (m : Model) (says : TextSays text m) (h : ℕ) (a : Paused) (S : StandsAt text m says h a) (k : ℕ) where
  abbrev T : Transitions
  T = transitions_of (flat_of text)

  -- Where the search stands then.
  abbrev stand : Stand
  stand = after (transitions_of (flat_of text)) (h + k)

  stand-is : further T k (after T h) ≡ stand
  stand-is = further-further T h k (opened T)

  abbrev handed : Paused
  handed =
      let s = after (transitions_of (flat_of text)) (h + k) in
      record { position = pause_of s; first = over (seen_in s.went).queue a.first; second = over (seen_in s.went).parent a.second }

  pub handed_back : HandsBack (portion_of text a.position k a.first a.second) handed
  handed_back =
      let e = portion-goes text m says h a S k in
      (ap (λ H. H.answer) e, ap (λ H. H.first) e, ap (λ H. H.second) e)

  expanded-is : a.position.expanded ≡ (after T h).expanded
  expanded-is = ap (λ (p : Pause). p.expanded) S.holds.position

  met-is : a.position.met ≡ length (seen_in (after T h).went).queue
  met-is = ap (λ (p : Pause). p.met) S.holds.position

  broke-is : a.position.broke ≡ broke_off (after T h).went
  broke-is = ap (λ (p : Pause). p.broke) S.holds.position

  ended_is : P.Ended a.position → (broke_off (after T h).went ≡ true) ⊎ (length (seen_in (after T h).went).queue ≤ (after T h).expanded)
  ended_is (inl e) = inl (sym broke-is ∙ e)
  ended_is (inr l) = inr (omega (arith, l, met-is, expanded-is))

  stays : (k ≡ 0) ⊎ P.Ended a.position → stand ≡ after T h
  stays (inl z) = sym stand-is ∙ ap (λ (n : ℕ). further T n (after T h)) z ∙ further_none T (after T h)
  stays (inr e) = sym stand-is ∙ further-ended T k (after T h) (ended_is e)

  paused-same : {p q : Pause} {f g s t : List ℕ} → p ≡ q → f ≡ g → s ≡ t
      → ◌≡◌ {A = Paused} (record { position = p; first = f; second = s }) (record { position = q; first = g; second = t })
  paused-same e f g = λ i. record { position = e i; first = f i; second = g i }

  handed_same : stand ≡ after T h → handed ≡ a
  handed_same e =
      let x = seen_in (after T h).went in
      paused-same
      (ap pause_of e ∙ sym S.holds.position)
      (ap (λ (s : Stand). over (seen_in s.went).queue a.first) e ∙ over-same x.queue a.first S.holds.queue)
      (ap (λ (s : Stand). over (seen_in s.went).parent a.second) e
      ∙ over-same x.parent a.second
      (subst (λ (n : ℕ). take n a.second ≡ x.parent) (sym (fit_after T (C.law text m says) h).sized) S.holds.parents))

  pub portion-means : PortionMeans m a k handed
  portion-means =
      record {
        most = omega (arith, expanded-is, subst (λ (s : Stand). s.expanded ≤ (after T h).expanded + k) stand-is (most-further T k (after T h)));
        least =
            ⊎_elim
            (λ e. inl e)
            (λ (e : stand.expanded ≡ (after T h).expanded + k). inr (omega (arith, e, expanded-is)))
            (subst
            (λ (s : Stand). ((broke_off s.went ≡ true) ⊎ (length (seen_in s.went).queue ≤ s.expanded)) ⊎ (s.expanded ≡ (after T h).expanded + k))
            stand-is (least-further T k (after T h)));
        grows = omega (arith, met-is, subst (λ (s : Stand). length (seen_in (after T h).went).queue ≤ length (seen_in s.went).queue) stand-is (grown-further T k (after T h)));
        first_kept = C.over-rest (seen_in stand.went).queue a.first (length (seen_in stand.went).queue) (omega arith);
        second_kept = C.over-rest (seen_in stand.went).parent a.second (state_count m) (omega (arith, (fit_after T (C.law text m says) (h + k)).sized, C.sized text m says));
        unchanged = λ e. handed_same (stays e);
      }

pub portions_tell : PortionsTell
portions_tell text m says a U k =
    let (h, S) = unaltered-at text m says a U in
    (handed text m says h a S k, handed_back text m says h a S k, portion-means text m says h a S k)

-- Questions.

-- Whether a reply is yes.
abbrev is_yes : Q.Wording → ℕ
is_yes Q.yes = 1
is_yes Q.no = 0
is_yes (Q.told w) = 0

yes-is : (b : Bool) → (Q.wording_of (Ok b) ≡ Q.yes) ↔ (b ≡ true)
unfolding Q.wording_of
yes-is true = (λ e. refl, λ e. refl)
yes-is false = (λ e. let z : ◌≡◌ {A = ℕ} 0 1 = ap is_yes e in absurd (omega arith), λ e. absurd (true≢false (sym e)))

no-is : (b : Bool) → (Q.wording_of (Ok b) ≡ Q.no) ↔ (b ≡ false)
unfolding Q.wording_of
no-is true = (λ e. let z : ◌≡◌ {A = ℕ} 1 0 = ap is_yes e in absurd (omega arith), λ e. absurd (true≢false e))
no-is false = (λ e. refl, λ e. refl)

module _ (text : List ℕ) (m : Model) (says : TextSays text m) (h : ℕ) (a : Paused) (S : StandsAt text m says h a) (t : ℕ) (l : t < state_count m) where
  abbrev entry : ℕ
  entry = get_or a.second t 0

  reply-is : met_reply text t a.first a.second ≡ Q.wording_of (Ok (ltb 0 (get_or a.second t 0)))
  reply-is = ap Q.wording_of (met_entry text m says t a.first a.second S.room l)

  abbrev x : Seen
  x = seen_in (after (transitions_of (flat_of text)) h).went

  marked_entry : Marked t (seen_in (after (transitions_of (flat_of text)) h).went) → ltb 0 entry ≡ true
  marked_entry k = lt-ltb 0 entry (positive entry (λ z. k (sym (mark text m says h a S t l) ∙ z)))
    where
      positive : (n : ℕ) → (n ≡ 0 → ⊥) → 0 < n
      positive n e = omega arith

  entry_marked : ltb 0 entry ≡ true → Marked t (seen_in (after (transitions_of (flat_of text)) h).went)
  entry_marked e z = let n = ltb-true 0 entry e in let f = mark text m says h a S t l ∙ z in omega (arith, n, f)

  pub yes-marked : (met_reply text t a.first a.second ≡ Q.yes) ↔ Marked t (seen_in (after (transitions_of (flat_of text)) h).went)
  yes-marked = (
    λ e. entry_marked ((yes-is (ltb 0 entry)).0 (sym reply-is ∙ e)),
    λ k. reply-is ∙ (yes-is (ltb 0 entry)).1 (marked_entry k),
  )

  no_unmarked : (met_reply text t a.first a.second ≡ Q.no) ↔ (¬ (Marked t (seen_in (after (transitions_of (flat_of text)) h).went)))
  no_unmarked = (
    λ e k. true≢false (sym (marked_entry k) ∙ (no-is (ltb 0 entry)).0 (sym reply-is ∙ e)),
    λ k. reply-is ∙ (no-is (ltb 0 entry)).1 (unset (ltb 0 entry) (λ e. k (entry_marked e))),
  )
    where
      unset : (b : Bool) → (b ≡ true → ⊥) → b ≡ false
      unset true f = absurd (f refl)
      unset false f = refl

  pub met-means : MetMeans a t (met_reply text t a.first a.second)
  met-means =
      record {
        yes = (
          λ e. marked-among text m says h a S t l (yes-marked.0 e),
          λ k. yes-marked.1 (among-marked text m says h a S t k),
        );
        no = (
          λ e k. no_unmarked.0 e (among-marked text m says h a S t k),
          λ k. no_unmarked.1 (λ n. k (marked-among text m says h a S t l n)),
        );
      }

pub met-tells : MetTells
met-tells text m says a U t l = let (h, S) = unaltered-at text m says a U in met-means text m says h a S t l

-- Yes is said of states only.
yes-state : (text : List ℕ) (m : Model) → TextSays text m → (first second : List ℕ) → P.TableRoom m first second → (t : ℕ) → met_reply text t first second ≡ Q.yes → t < state_count m
yes-state text m says first second r t e =
    ⊎_elim
    (λ (l : t < state_count m). l)
    (λ (l : state_count m ≤ t).
    let z : ◌≡◌ {A = ℕ} 0 1 = sym (ap is_yes ((met-refusals text t first second).of_state m says r l)) ∙ ap is_yes e in
    absurd (omega arith))
    (lt_or_ge t (state_count m))

pub met_reaches : MetReaches
met_reaches text m says a U t e =
    let (h, S) = unaltered-at text m says a U in
    let l = yes-state text m says a.first a.second S.room t e in
    let (i, k, f) = (met-means text m says h a S t l).yes.0 e in
    subst (Reaches m) f ((means text m says h a S).reached i k)

pub met-exactly : MetExactly
met-exactly text m says a U b t l =
    let M = (met-tells text m says a U t l).yes in
    let E = (pauses_tell text m says a U).exactly b t l in
    (λ e. E.0 (M.0 e), λ s. M.1 (E.1 s))

pub met-at_break : MetAtBreak
met-at_break text m says a U b =
    let E = (pauses_tell text m says a U).broken b in (
      E.start,
      E.steps,
      E.first_of_all,
      λ t l. let M = (met-tells text m says a U t l).yes in (λ e. (E.exactly t l).0 (M.0 e), λ s. M.1 ((E.exactly t l).1 s)),
    )

pub met-stays : MetStays
met-stays text m says a b U since t e =
    let (h, S) = unaltered-at text m says a U in
    let (k, R) = later_at text m says h a S b since in
    let l = yes-state text m says a.first a.second S.room t e in
    let T = transitions_of (flat_of text) in
    let law = C.law text m says in
    (yes-marked text m says (h + k) b R t l).1
    (subst (λ (s : Stand). Marked t (seen_in s.went)) (further-further T h k (opened T))
    (mark-stays T law t k (after T h) (fit_after T law h) ((yes-marked text m says h a S t l).0 e)))

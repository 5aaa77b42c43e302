-- A rule for walks of functions that have a list to lend: a call of `survey`. What lies in memory is lent to it for a lifetime of the call and comes back, and the reply's own machine value lands.
-- Assumes `Logic`.
use mathlib.Core.Path.{◌≡◌, refl, sym, ap, subst}
use Prim.Native.Nat.{ℕ}
use mathlib.Core.List.{[], ◌∷◌, List}
use lib.ListN.{length}
use seplogic.Ra.Ura.{Ura}
use base.Fraction.{full_share}
use mir.Syntax.{Place, Opd as Operand, Body, named, seq, call}
use mir.Val.{Val}
use base.Logic.{SProp, ent, sep, id⊢}
use base.Fml.{GName, Lft, Share, Fml, fsep, flft, flent}
use prog.Memory.{Memory}
use prog.Routine.{Routine}
use prog.Wp.{Env, Calls, Loops}
use types.Logic.{Logic, sem}
use contract.Monad.{Fun, fact}
use types.Kit.{Item, ‵, raw, some, later, ◌⊛◌, Post, Seq, Go, runs, lands, ◌$◌, ◌∵◌, !, qed, move, drop, use1, use3, split, join, pick, rewrite, fsplit, fjoin, feq_l, frame, await, done}
use types.Run.{Opds}
use types.SemTy.{cells, Arr}
use types.Tokens.{lft_new, lft_end}
use sound.WpLaws.{FmC}
use denote.Laws.{Is, shows}
use denote.Memory.{mem}
use denote.Builtin.{u8}
use denote.Ref.{Bor, MutBor}
use denote.Slice.{slice_val, MutSlice, ShrSlice, Room, finally}
use denote.Lend.{Held, lends_slice, slice_back}
use denote.Index.{row, whole_in, whole_out}
use denote.Steps.{only, owned, peeks, heard, nothing}
use denote.Struct.Laws as LL
use denote.Enum.Laws as EL
use denote.Triple.Statement.{Contract, Triple}
use denote.Triple.Call.{calls_at}
use denote.Triple.Entry.{alive}
use denote.Triple.Spec.{triple_of}
use denote.Triple.Clauses.{ensured, lasts}
use Rattle.sheets.specs.SheetTexts.{AreBytes}
use Rattle.windows.specs.working.Surveying.{survey_of}
use Rattle.windows.specs.declared.record.Step.{Step}
use Rattle.windows.specs.declared.record.Question.{Question}
use Rattle.windows.specs.declared.record.Reply.{Reply}
use Rattle.windows.specs.contracts.record.Step as R
use Rattle.windows.specs.contracts.record.Question as Q
use Rattle.windows.proofs.record.Question.TheLaws as Q'
use Rattle.windows.specs.contracts.record.Reply as B
use Rattle.windows.proofs.record.Reply.TheLaws as B'
use Rattle.windows.specs.contracts.asking.begin as begin
use Rattle.windows.specs.contracts.survey as survey
use Rattle.windows.proofs.survey.Symbol.{name as #survey}

-- the contract of `survey`
abbrev pub SurveyOf : {M : Type 1} {𝓤 : Ura M} (𝓛 : Logic 𝓤) (at_mem : Memory → SProp 𝓤) (run : Routine → Fun 𝓤) → Contract 𝓤
SurveyOf 𝓛 at_mem run = triple_of 𝓛 survey.signature (survey.spec 𝓛 at_mem run)

module _ {M : Type 1} {𝓤 : Ura M} (𝓛 : Logic 𝓤) (at_mem : Memory → SProp 𝓤) (run : Routine → Fun 𝓤) (κ₁ κ₂ : Lft) (q₁ q₂ : Share) (b o : ℕ) (ys : List Step) (text sheet : Bor (List ℕ)) (question : Question) where
  open 𝓛 use {H, A}

  abbrev s₁ : Val
  s₁ = slice_val (b, o) (length ys)

  abbrev s₂ : Val
  s₂ = slice_val text.ref_ptr (length text.now)

  abbrev s₃ : Val
  s₃ = slice_val sheet.ref_ptr (length sheet.now)

  abbrev s₄ : Val
  s₄ = EL.val Q.the_type Q'.the_laws question

  abbrev to-list : GName → MutBor (List Step)
  to-list δ = record { ref_ptr = (b, o); ghost_name = δ; now = ys }

  -- the list afterwards, and the reply
  abbrev pub zs : List Step
  zs = (survey_of question text.now sheet.now ys).list

  abbrev pub res : Reply
  res = (survey_of question text.now sheet.now ys).reply

  abbrev pub said : Val
  said = LL.val B.the_type B'.the_laws res

  -- the tokens of text and sheet, and what the two own
  abbrev pub Tokens : SProp 𝓤
  Tokens = alive 𝓛 begin.signature (κ₁, (κ₂, tt)) (q₁, (q₂, tt))

  abbrev pub Own₁ : Fml
  Own₁ = (ShrSlice (named 1) κ₁ u8).own_val text (s₂ ∷ [])

  abbrev pub Own₂ : Fml
  Own₂ = (ShrSlice (named 2) κ₂ u8).own_val sheet (s₃ ∷ [])

  abbrev Lent : ℕ → GName → Fml
  Lent ν δ = (MutSlice (named 0) (ν ∷ []) R.the_row).own_val (to-list δ) (s₁ ∷ [])

  abbrev pub to : ℕ → GName → (SurveyOf 𝓛 at_mem run).Ghost
  to ν δ = (((ν ∷ [], (κ₁, (κ₂, tt))), (full_share, (q₁, (q₂, tt))), tt, (to-list δ, (text, (sheet, (question, tt)))), (s₁ ∷ [], (s₂ ∷ [], (s₃ ∷ [], (s₄ ∷ [], tt))))), tt)

  goes : Is Q.the_row question (s₄ ∷ []) → (ν : ℕ) (δ : GName) → ent 𝓤 (sep 𝓤 (sep 𝓤 (A.lft (ν ∷ []) full_share) Tokens) (sep 𝓤 (sem 𝓛 (Lent ν δ)) (sem 𝓛 (fsep Own₁ Own₂)))) ((SurveyOf 𝓛 at_mem run).pre (to ν δ))
  goes is ν δ =
      qed 𝓛 ((‵ (flft (ν ∷ []) full_share) ⊛ raw Tokens) ∷ ‵ (Lent ν δ) ∷ ‵ (fsep Own₁ Own₂) ∷ []) ∵ move ! (2 ∷ []) $ fsplit ! $
      nothing ! $ owned ! Q.the_row (Is Q.the_row) (EL.makes Q.the_type Q'.the_plain 𝓛) question _ is $ fjoin ! $ move ! (2 ∷ 0 ∷ []) $ fjoin ! $ move ! (1 ∷ 0 ∷ []) $ fjoin ! $ move ! (2 ∷ 0 ∷ []) $ fjoin ! $ move ! (1 ∷ 0 ∷ []) $ join ! $ frame ! $ done !

  -- what is ensured of the list afterwards and of the reply
  abbrev Known : List Step → Reply → Type 0
  Known l r = (l ≡ zs) × (r ≡ res) × AreBytes sheet.now

  module _ {Γ : List (Item 𝓤)} {E : Env 𝓤 H} {C : Calls 𝓤 H} {Λ : Loops 𝓤 H} {p : Post 𝓤 H} {xs : List Operand} {d : Place} {rest : Body} where
    pub calls_survey : FmC 𝓤 H 𝓛.laws C → Triple 𝓤 (C #survey) (SurveyOf 𝓛 at_mem run) → Room R.the_row (length ys) → Is Q.the_row question (s₄ ∷ [])
        → ((ν : ℕ) (δ : GName) → Opds (Go {0}) 𝓛 (raw ((SurveyOf 𝓛 at_mem run).pre (to ν δ)) ∷ ‵ (flent (ν ∷ []) (Held R.the_row (length ys) b o δ)) ∷ Γ) E xs ((SurveyOf 𝓛 at_mem run).args (to ν δ)))
        → (AreBytes sheet.now → Is B.the_row res (said ∷ []) → Seq (Go {0}) 𝓛 (‵ (row R.the_row full_share zs b o) ∷ raw Tokens ∷ Γ) (lands C Λ E d said rest p))
        → Seq (Go {0}) 𝓛 (‵ (row R.the_row full_share ys b o) ∷ raw Tokens ∷ ‵ Own₁ ∷ ‵ Own₂ ∷ Γ) (runs C Λ E (seq (call #survey xs d) rest) p)
    calls_survey fm known room is os k =
        lft_new ! tt (λ ν. move ! (1 ∷ []) $ use1 𝓛 (‵ (cells (mem R.the_row) ys b o)) (whole_in 𝓛 R.the_row ys b o) $
        use1 𝓛 (later (some (λ (δ : GName). ‵ (Lent ν δ) ⊛ ‵ (flent (ν ∷ []) (Held R.the_row (length ys) b o δ))))) (lends_slice 𝓛 R.the_row (named 0) (ν ∷ []) ys b o room) $ await ! tt $ pick ! (λ δ. split ! $
        -- [the list; the lender's part; ν's token; the tokens; the text's; the sheet's; ..]
        move ! (2 ∷ 3 ∷ []) $ join ! $ move ! (3 ∷ 4 ∷ []) $ fjoin ! $ move ! (1 ∷ 2 ∷ 0 ∷ []) $ use3 𝓛 (raw ((SurveyOf 𝓛 at_mem run).pre (to ν δ))) (goes is ν δ) $
        calls_at ! fm (SurveyOf 𝓛 at_mem run) known (to ν δ) (os ν δ) (λ v.
        use1 𝓛 (later (some (λ (r : Reply). ((‵ (flft (ν ∷ []) full_share) ⊛ raw Tokens) ⊛ ‵ ((B.the_row).own_val r (v ∷ []))) ⊛ raw (ensured 𝓛 survey.ended (survey.clauses 𝓛 at_mem run) (ν ∷ [], (κ₁, (κ₂, tt))) (to-list δ, (text, (sheet, (question, tt)))) tt r)))) (id⊢ 𝓤 _) $ await ! tt $ pick ! (λ r.
        split ! $ move ! (1 ∷ []) $ use1 𝓛 (some (λ (ws : List Step × (Unit {0} × (Unit {0} × (Unit {0} × Unit {0})))). ‵ (lasts survey.ended (ν ∷ [], (κ₁, (κ₂, tt))) (to-list δ, (text, (sheet, (question, tt)))) ws) ⊛ raw (fact 𝓤 (Known ws.0 r)))) (id⊢ 𝓤 _) $ pick ! (λ ws.
        split ! $ move ! (1 ∷ []) $ heard ! (Known ws.0 r) (λ e. fsplit ! $ fsplit ! $ fsplit ! $ move ! (1 ∷ []) $ feq_l ! (λ _. move ! (1 ∷ []) $ drop ! $ rewrite ! 0 (λ (m : List Step). ‵ (finally R.the_row δ m)) e.0 refl $
        -- [what the list ended with; ..; the tokens and the result; the lender's part; ..]
        move ! (2 ∷ []) $ split ! $ move ! (1 ∷ []) $ rewrite ! 0 (λ (z : Reply). ‵ ((B.the_row).own_val z (v ∷ []))) e.1 refl $ peeks ! B.the_row (Is B.the_row) (shows 𝓛 B.the_row) res (v ∷ []) (λ is-v. drop ! $
        split ! $ lft_end ! tt $ move ! (0 ∷ 4 ∷ 2 ∷ []) $ use3 𝓛 (later (‵ ((Arr (mem R.the_row) (length ys)).own_at zs b o))) (slice_back 𝓛 R.the_row (ν ∷ []) δ zs (length ys) b o) $ await ! tt $
        fsplit ! $ drop ! $ use1 𝓛 (‵ (row R.the_row full_share zs b o)) (whole_out 𝓛 R.the_row zs b o) $ move ! (2 ∷ []) $ drop ! $
        subst (λ (u : Val). Seq (Go {0}) 𝓛 (‵ (row R.the_row full_share zs b o) ∷ raw Tokens ∷ Γ) (lands C Λ E d u rest p)) (sym (ap only (LL.tells B.the_type B'.the_laws res (v ∷ []) is-v)))
        (k e.2 (subst (Is B.the_row res) (LL.tells B.the_type B'.the_laws res (v ∷ []) is-v) is-v))))))))))

-- A record by value that is lent from a local: one walk for every function `fn f(player: Player, text: &[u8], sheet: &[u8]) -> Move { let mut lent = player; let answer = g(&mut lent, text, sheet); Move { player: lent, answer: answer } }`.
-- The walk knows of g only that it meets the contract of a record that is lent, `On move` of `Lent.antt`. So it holds of any key g and any `move`; a function's own proof is `by_value_as` at its own two.
-- The local is lent to g for a lifetime of the call, and comes back moved.
-- Assumes nothing.
use mathlib.Core.Path.{◌≡◌, refl, subst}
use Prim.Native.Nat.{ℕ}
use mathlib.Core.List.{[], ◌∷◌, List}
use lib.ListN.{length}
use seplogic.Ra.Ura.{Ura}
use base.Fraction.{full_share}
use mir.Syntax.{Callee, Fn, named, erased, mut, imm, w8, ty_int, ty_ref, local, value_local, memory_slot, place, copy, rv_opd, addr_of, aggregate, assign, seq, call, return}
use mir.Val.{Val, vptr}
use base.Logic.{SProp, ent, sep, emp, via, fst∗, id⊢}
use base.Fml.{GName, Lft, Share, flft, flent, fres, fsep, fat}
use prog.Wp.{WpFn, Tables}
use types.Logic.{Logic, sem}
use contract.Monad.{fact}
use types.Kit.{‵, raw, some, later, ◌⊛◌, ⋆, ◌$◌, ◌∵◌, !, qed, by, move, keep, drop, use1, use3, split, join, pick, rewrite, fsplit, fjoin, fpick, fpack, suffices, frame, await, done}
use types.Run.{look, init, forget, stop, from, load, addr, of_opd, and_then, no_more, assigns, land, returns, enter, alloc1, alloc0, params1, pass1, pass0, free1, free0}
use types.Part.{agg}
use types.SemTy.{Body}
use types.Tokens.{lft_new, lft_end}
use sound.WpLaws.{fm_of, WpFn-mono}
use denote.RattleType.{owns}
use denote.Laws.{Is, shows}
use denote.Memory.{mem, pointee, cell_at, part_of}
use denote.Builtin.{u8}
use denote.Ref.{Bor, MutBor, MutRef}
use denote.Slice.{slice_val, slice_ty, ShrSlice, shr_slice_vals, shr_slice_Tells, shr_slice_Lawful}
use denote.Lend.{lends_ref, ref_back}
use denote.Signature.{plain, shr_slice_of}
use denote.Steps.{only, owned, peeks, heard, nothing}
use denote.Struct.Steps.{spelt}
use denote.Struct.Laws as LL
use denote.Enum.Laws as EL
use denote.Triple.Statement.{Triple}
use denote.Triple.Call.{calls_at}
use denote.Triple.Entry.{on_entry, alive}
use denote.Triple.Spec.{Meets}
use denote.Triple.Clauses.{Clauses, closing, ensured, lasts}
use denote.Triple.Walked.{says, Stays, stay_dropped, walk_of, Goes-dropped, ends_at, walked, walk_Meets}
use denote.Exit.{yes}
use Rattle.sheets.specs.SheetTexts.{AreBytes}
use Rattle.player.specs.declared.record.Player.{Player}
use Rattle.std.specs.Prelude.{Result}
use Rattle.conditions.specs.declared.outcome.Declined.{Declined}
use Rattle.player.specs.declared.record.Answer.{Answer}
use Rattle.player.specs.declared.record.Move.{Move}
-- P is Player, and N what is new, Move
use Rattle.player.specs.contracts.record.Player as P
use Rattle.player.proofs.record.Player.TheLaws as P'
use Rattle.player.specs.contracts.record.Move as N
use Rattle.player.proofs.record.Move.TheLaws as N'
use Rattle.player.proofs.Lent.{answer_type, answer_row, answer_laws, answer_mir, Moves, On, OnOf}
-- two functions of the kind, for their signatures alone: every other has the same
use Rattle.player.specs.contracts.forward as on
use Rattle.player.specs.contracts.values.forward_of as f

-- the code, at the key of the function that it calls
abbrev pub code_of : Callee → Fn
code_of g = record {
  lifetimes = 2;
  outlives = [];
  ty_params = [];
  givens = 0;
  params = 3;
  locals = local N'.mir value_local ∷ local P'.mir value_local ∷ local (slice_ty (ty_ref (named 0) imm (ty_int w8))) value_local ∷ local (slice_ty (ty_ref (named 1) imm (ty_int w8))) value_local
      ∷ local P'.mir memory_slot ∷ local answer_mir value_local ∷ local (ty_ref erased mut (pointee (P.the_row).written)) value_local ∷ local P'.mir value_local ∷ [];
  body = seq (assign (place 4 []) (rv_opd (copy (place 1 []))))
      (seq (assign (place 6 []) (addr_of (place 4 [])))
      (seq (call g (copy (place 6 []) ∷ copy (place 2 []) ∷ copy (place 3 []) ∷ []) (place 5 []))
      (seq (assign (place 7 []) (rv_opd (copy (place 4 []))))
      (seq (assign (place 0 []) (aggregate (copy (place 7 []) ∷ copy (place 5 []) ∷ [])))
      return))));
}

-- what the function still has at exit: nothing
abbrev stayed : Stays (f.ended).signature.params (f.ended).kept
stayed = (stay_dropped (plain (λ _. P.the_row)) yes, (stay_dropped (shr_slice_of (0 ∷ []) tt (plain (λ _. u8))) yes, (stay_dropped (shr_slice_of (1 ∷ []) tt (plain (λ _. u8))) yes, tt)))

-- the contract of the function by value
abbrev pub Value : {M : Type 1} (𝓤 : Ura M) (moves : Moves) → Clauses 𝓤 f.ended
Value 𝓤 moves κs a = record { ghost = Unit {0}; requires = λ _. emp 𝓤; ensures = λ _ r _. fact 𝓤 ((r ≡ moves a.1.0.now a.1.1.0.now a.0) × AreBytes a.1.1.0.now) }

-- a record in a local, as a lender has it, and back
module _ {M : Type 1} {𝓤 : Ura M} (𝓛 : Logic 𝓤) (h : Player) (b : ℕ) where
  lies_in : Is P.the_row h (P'.lowered h ∷ []) → ent 𝓤 (sem 𝓛 (fat full_share P'.mir b 0 (P'.lowered h))) (sem 𝓛 ((mem P.the_row).own_at h b 0))
  unfolding part_of
  lies_in is =
      qed 𝓛 (‵ (fat full_share P'.mir b 0 (P'.lowered h)) ∷ []) ∵ use1 𝓛 (‵ (cell_at full_share (P.the_row).mir (P'.lowered h ∷ []) b 0)) (𝓛.laws.at_raw full_share P'.mir b 0 (P'.lowered h)) $
      owned ! P.the_row (Is P.the_row) (LL.makes P.the_type P'.the_plain 𝓛) h _ is $ move ! (1 ∷ 0 ∷ []) $ fjoin ! $ fpack ! (List Val) (λ us. fsep (cell_at full_share (P.the_row).mir us b 0) ((P.the_row).own_val h us)) (P'.lowered h ∷ []) $ done !

  lies_out : ent 𝓤 (sem 𝓛 ((mem P.the_row).own_at h b 0)) (sep 𝓤 (sem 𝓛 (fat full_share P'.mir b 0 (P'.lowered h))) (sem 𝓛 ((P.the_row).own_val h (P'.lowered h ∷ []))))
  unfolding part_of
  lies_out =
      qed 𝓛 (‵ ((mem P.the_row).own_at h b 0) ∷ []) ∵ fpick ! (λ vs. fsplit ! $ spelt ! P.the_row (Is P.the_row) (shows 𝓛 P.the_row) (LL.vals P.the_type P'.the_laws) (LL.tells P.the_type P'.the_laws) full_share h vs b 0 $
      use1 𝓛 (‵ (fat full_share P'.mir b 0 (P'.lowered h))) (𝓛.laws.raw_at full_share P'.mir b 0 (P'.lowered h)) $ done !)

module _ {M : Type 1} {𝓤 : Ura M} (𝓛 : Logic 𝓤) (moves : Moves) (κ₁ κ₂ : Lft) (q₁ q₂ : Share) (h : Player) (text sheet : Bor (List ℕ)) where
  open 𝓛 use {H, A}

  abbrev s₁ : Val
  s₁ = slice_val text.ref_ptr (length text.now)

  abbrev s₂ : Val
  s₂ = slice_val sheet.ref_ptr (length sheet.now)

  abbrev x : Player × (Bor (List ℕ) × (Bor (List ℕ) × Unit {0}))
  x = (h, (text, (sheet, tt)))

  abbrev at : List Val × (List Val × (List Val × Unit {0}))
  at = (P'.lowered h ∷ [], (s₁ ∷ [], (s₂ ∷ [], tt)))

  abbrev m : Move
  m = moves text.now sheet.now h

  abbrev Tokens : SProp 𝓤
  Tokens = alive 𝓛 f.signature (κ₁, (κ₂, tt)) (q₁, (q₂, tt))

  abbrev mach : Val
  mach = LL.val N.the_type N'.the_laws m

  abbrev Post : Val → SProp 𝓤
  Post = (walk_of 𝓛 f.ended stayed (Value 𝓤 moves)).post (((κ₁, (κ₂, tt)), (q₁, (q₂, tt)), tt, x, at), tt)

  exits : Is N.the_row m (mach ∷ []) → AreBytes sheet.now → ent 𝓤 (⋆ 𝓛 (raw Tokens ∷ [])) (Post mach)
  exits is are_bytes =
      qed 𝓛 (raw Tokens ∷ []) ∵ suffices ! _ (ends_at 𝓛 f.ended stayed (Value 𝓤 moves) (((κ₁, (κ₂, tt)), (q₁, (q₂, tt)), tt, x, at), tt) mach m (tt, (tt, (tt, tt))) (tt, (tt, (tt, tt)))) $ says ! (refl, are_bytes) $
      frame ! $ nothing ! $ nothing ! $ fjoin ! $ nothing ! $ fjoin ! $ nothing ! $ fjoin ! $ frame ! $ owned ! N.the_row (Is N.the_row) (LL.makes N.the_type N'.the_plain 𝓛) m _ is $ done !

  abbrev lent_at : ℕ → GName → MutBor Player
  lent_at l δ = record { ref_ptr = (l, 0); ghost_name = δ; now = h }

  abbrev to : ℕ → ℕ → GName → (OnOf 𝓛 moves).Ghost
  to l ν δ = (((ν ∷ [], (κ₁, (κ₂, tt))), (full_share, (q₁, (q₂, tt))), tt, (lent_at l δ, (text, (sheet, tt))), (vptr l 0 ∷ [], (s₁ ∷ [], (s₂ ∷ [], tt)))), tt)

  goes : (l ν : ℕ) (δ : GName) → ent 𝓤 (sep 𝓤 (sep 𝓤 (A.lft (ν ∷ []) full_share) Tokens) (sep 𝓤 (sem 𝓛 ((MutRef (named 0) (ν ∷ []) P.the_row).own_val (lent_at l δ) (vptr l 0 ∷ [])))
      (sem 𝓛 (owns (ShrSlice (named 0) κ₁ u8 ∷ ShrSlice (named 1) κ₂ u8 ∷ []) (text, (sheet, tt)) (s₁ ∷ [], (s₂ ∷ [], tt)))))) ((OnOf 𝓛 moves).pre (to l ν δ))
  goes l ν δ =
      qed 𝓛 ((‵ (flft (ν ∷ []) full_share) ⊛ raw Tokens) ∷ ‵ ((MutRef (named 0) (ν ∷ []) P.the_row).own_val (lent_at l δ) (vptr l 0 ∷ [])) ∷ ‵ (owns (ShrSlice (named 0) κ₁ u8 ∷ ShrSlice (named 1) κ₂ u8 ∷ []) (text, (sheet, tt)) (s₁ ∷ [], (s₂ ∷ [], tt))) ∷ []) ∵
      move ! (1 ∷ 2 ∷ []) $ fjoin ! $ move ! (1 ∷ 0 ∷ []) $ join ! $ frame ! $ done !

  made : Is P.the_row m.player (P'.lowered m.player ∷ []) → Is answer_row m.answer (EL.vals answer_type answer_laws m.answer) → Is N.the_row m (mach ∷ [])
  made is-p is-s = LL.owes N.the_type N'.the_laws m (is-p, (is-s, tt))

  module _ (𝓣 : Tables 𝓤 H) (g : Callee) (known : Triple 𝓤 (𝓣.C g) (OnOf 𝓛 moves)) (is-h : Is P.the_row h (P'.lowered h ∷ [])) (is₁ : Is (ShrSlice (named 0) κ₁ u8) text (s₁ ∷ [])) (is₂ : Is (ShrSlice (named 1) κ₂ u8) sheet (s₂ ∷ [])) where
    walk : ent 𝓤 (on_entry 𝓛 f.signature (κ₁, (κ₂, tt)) (q₁, (q₂, tt)) x at) (WpFn 𝓤 H 𝓣.C 𝓣.Λ (code_of g) (P'.lowered h ∷ s₁ ∷ s₂ ∷ []) Post)
    walk =
        qed 𝓛 (raw Tokens ∷ ‵ (owns (P.the_row ∷ ShrSlice (named 0) κ₁ u8 ∷ ShrSlice (named 1) κ₂ u8 ∷ []) x at) ∷ []) ∵ enter ! 𝓣.C 𝓣.Λ (code_of g) (P'.lowered h ∷ s₁ ∷ s₂ ∷ []) _ $
        alloc1 ! (λ l₀. alloc1 ! (λ l₁. alloc1 ! (λ l₂. alloc1 ! (λ l₃. alloc1 ! (λ l₄. alloc1 ! (λ l₅. alloc1 ! (λ l₆. alloc1 ! (λ l₇. alloc0 ! $ params1 ! $ pass1 ! (init ! 12 refl ((LL.lawful P.the_type P'.the_laws 𝓛).typed h _ is-h).0) $
        pass1 ! (init ! 10 refl ((shr_slice_Lawful 𝓛 (named 0) κ₁ u8).typed text (s₁ ∷ []) is₁).0) $ pass1 ! (init ! 8 refl ((shr_slice_Lawful 𝓛 (named 1) κ₂ u8).typed sheet (s₂ ∷ []) is₂).0) $ pass0 ! $
        assigns ! (of_opd ! (load ! (from ! (stop !)) (look ! 12 refl))) (from ! (stop !)) (init ! 6 refl ((LL.lawful P.the_type P'.the_laws 𝓛).typed h _ is-h).0) $
        assigns ! (addr ! (from ! (stop !))) (from ! (stop !)) (init ! 2 refl (tt, tt)) $
        -- the local is lent for a lifetime ν
        lft_new ! tt (λ ν. move ! (7 ∷ []) $ use1 𝓛 (‵ ((mem P.the_row).own_at h l₄ 0)) (lies_in 𝓛 h l₄ is-h) $
        use1 𝓛 (later (some (λ (δ : GName). ‵ ((MutRef (named 0) (ν ∷ []) P.the_row).own_val (lent_at l₄ δ) (vptr l₄ 0 ∷ [])) ⊛ ‵ (flent (ν ∷ []) (Body (mem P.the_row) l₄ 0 δ))))) (lends_ref 𝓛 P.the_row (named 0) (ν ∷ []) h l₄ 0) $ await ! tt $ pick ! (λ δ. split ! $
        -- [the reference; the lender's part; ν's token; _7; …; _6; …; _5; …; that _4 dies; _3; …; _2; …; _1; …; room for _0; …; the tokens; what the parameters own]
        move ! (19 ∷ []) $ fsplit ! $ drop ! $ move ! (3 ∷ 19 ∷ []) $ join ! $ move ! (0 ∷ 2 ∷ 1 ∷ []) $ use3 𝓛 (raw ((OnOf 𝓛 moves).pre (to l₄ ν δ))) (goes l₄ ν δ) $
        -- [what `forward` asks; the lender's part; _7; …; _6; …; _5; …; that _4 dies; _3; …; _2; …; _1; …; room for _0; …]
        calls_at ! (fm_of 𝓤 H 𝓛.laws 𝓣) (OnOf 𝓛 moves) known (to l₄ ν δ) (and_then ! (load ! (from ! (stop !)) (look ! 4 refl)) (and_then ! (load ! (from ! (stop !)) (look ! 11 refl)) (and_then ! (load ! (from ! (stop !)) (look ! 9 refl)) (no_more !)))) (λ v.
        use1 𝓛 (later (some (λ (r : Result Answer Declined). ((‵ (flft (ν ∷ []) full_share) ⊛ raw Tokens) ⊛ ‵ (answer_row.own_val r (v ∷ []))) ⊛ raw (ensured 𝓛 on.ended (On 𝓤 moves) (ν ∷ [], (κ₁, (κ₂, tt))) (lent_at l₄ δ, (text, (sheet, tt))) tt r)))) (id⊢ 𝓤 _) $ await ! tt $ pick ! (λ r.
        split ! $ move ! (1 ∷ []) $ use1 𝓛 (some (λ (ws : Player × (Unit {0} × (Unit {0} × Unit {0}))). ‵ (lasts on.ended (ν ∷ [], (κ₁, (κ₂, tt))) (lent_at l₄ δ, (text, (sheet, tt))) ws) ⊛ raw (fact 𝓤 ((ws.0 ≡ m.player) × (r ≡ m.answer) × AreBytes sheet.now)))) (id⊢ 𝓤 _) $ pick ! (λ ws.
        split ! $ move ! (1 ∷ []) $ heard ! ((ws.0 ≡ m.player) × (r ≡ m.answer) × AreBytes sheet.now) (λ e. fsplit ! $ fsplit ! $ move ! (1 ∷ []) $ drop ! $ rewrite ! 0 (λ (z : Player). ‵ (fres δ ((P.the_row).coded.code z))) e.0 refl $
        -- [what the record ended with; ..; the tokens and the result; the lender's part; the locals]
        move ! (2 ∷ []) $ split ! $ move ! (1 ∷ []) $ rewrite ! 0 (λ (z : Result Answer Declined). ‵ (answer_row.own_val z (v ∷ []))) e.1 refl $ peeks ! answer_row (Is answer_row) (shows 𝓛 answer_row) m.answer (v ∷ []) (λ is. drop ! $
        land ! (from ! (stop !)) (init ! 8 refl ((EL.lawful answer_type answer_laws 𝓛 tt).typed m.answer _ is).0) $
        rewrite ! 8 (λ (us : List Val). ‵ (fat full_share answer_mir l₅ 0 (only us))) (EL.tells answer_type answer_laws m.answer _ is) refl $
        -- the lifetime is ended, and the local comes back
        split ! $ lft_end ! tt $ move ! (0 ∷ 4 ∷ 2 ∷ []) $ use3 𝓛 (later (‵ ((mem P.the_row).own_at m.player l₄ 0))) (ref_back 𝓛 P.the_row (ν ∷ []) δ m.player l₄ 0) $ await ! tt $
        use1 𝓛 (‵ (fat full_share P'.mir l₄ 0 (P'.lowered m.player)) ⊛ ‵ ((P.the_row).own_val m.player (P'.lowered m.player ∷ []))) (lies_out 𝓛 m.player l₄) $ split ! $
        move ! (1 ∷ []) $ peeks ! P.the_row (Is P.the_row) (shows 𝓛 P.the_row) m.player _ (λ is-p. drop ! $
        keep ! (1 ∷ 3 ∷ 4 ∷ 5 ∷ 6 ∷ 7 ∷ 8 ∷ 0 ∷ 9 ∷ 10 ∷ 11 ∷ 12 ∷ 13 ∷ 14 ∷ 15 ∷ 16 ∷ 17 ∷ []) $
        -- [the tokens; local i at 15 - 2 i]
        assigns ! (of_opd ! (load ! (from ! (stop !)) (look ! 7 refl))) (from ! (stop !)) (init ! 1 refl ((LL.lawful P.the_type P'.the_laws 𝓛).typed m.player _ is-p).0) $
        assigns ! (agg ! (and_then ! (load ! (from ! (stop !)) (look ! 1 refl)) (and_then ! (load ! (from ! (stop !)) (look ! 5 refl)) (no_more !)))) (from ! (stop !)) (init ! 15 refl ((LL.lawful N.the_type N'.the_laws 𝓛).typed m _ (made is-p (subst (Is answer_row m.answer) (EL.tells answer_type answer_laws m.answer _ is) is))).0) $
        returns ! (look ! 15 refl) $ forget ! 15 refl $ forget ! 13 refl $ forget ! 11 refl $ forget ! 9 refl $ forget ! 7 refl $ forget ! 5 refl $ forget ! 3 refl $ forget ! 1 refl $
        move ! (15 ∷ 16 ∷ []) $ free1 ! $ move ! (13 ∷ 14 ∷ []) $ free1 ! $ move ! (11 ∷ 12 ∷ []) $ free1 ! $ move ! (9 ∷ 10 ∷ []) $ free1 ! $ move ! (7 ∷ 8 ∷ []) $ free1 ! $ move ! (5 ∷ 6 ∷ []) $ free1 ! $ move ! (3 ∷ 4 ∷ []) $ free1 ! $ move ! (1 ∷ 2 ∷ []) $ free1 ! $ free0 ! $
        by ! (exits (made is-p (subst (Is answer_row m.answer) (EL.tells answer_type answer_laws m.answer _ is) is)) e.2)))))))))))))))))

-- the function by value meets its contract, where the one that it lends to meets its own
pub by_value : {M : Type 1} {𝓤 : Ura M} (𝓛 : Logic 𝓤) (moves : Moves) (𝓣 : Tables 𝓤 𝓛.H) (g : Callee) → Triple 𝓤 (𝓣.C g) (OnOf 𝓛 moves)
    → Meets 𝓛 f.signature (WpFn 𝓤 𝓛.H 𝓣.C 𝓣.Λ (code_of g)) (closing 𝓛 f.ended (Value 𝓤 moves))
by_value {𝓤 = 𝓤} 𝓛 moves 𝓣 g known =
    walk_Meets 𝓛 f.ended stayed (Goes-dropped 𝓛 2 (plain (λ _. P.the_row)) yes (λ κs x f. refl), (Goes-dropped 𝓛 2 (shr_slice_of (0 ∷ []) tt (plain (λ _. u8))) yes (λ κs x f. refl), (Goes-dropped 𝓛 2 (shr_slice_of (1 ∷ []) tt (plain (λ _. u8))) yes (λ κs x f. refl), tt)))
    (Value 𝓤 moves) (WpFn 𝓤 𝓛.H 𝓣.C 𝓣.Λ (code_of g)) (WpFn-mono 𝓤 𝓛.H 𝓛.laws 𝓣 (code_of g))
    (walked 𝓛 f.ended stayed (Value 𝓤 moves) (WpFn 𝓤 𝓛.H 𝓣.C 𝓣.Λ (code_of g)) (λ κs. (LL.vals P.the_type P'.the_laws, (shr_slice_vals, (shr_slice_vals, tt)))) (λ κs. (LL.tells P.the_type P'.the_laws, (shr_slice_Tells (named 0) κs.0 u8, (shr_slice_Tells (named 1) κs.1.0 u8, tt))))
    (λ κs qs bounds a _ are. via 𝓤 _ (fst∗ 𝓤 _ (emp 𝓤)) (walk 𝓛 moves κs.0 κs.1.0 qs.0 qs.1.0 a.0 a.1.0 a.1.1.0 𝓣 g known are.0 are.1.0 are.1.1.0)))

-- the same at a contract whose clauses are these, as a function's own
pub by_value_as : {M : Type 1} {𝓤 : Ura M} (𝓛 : Logic 𝓤) (moves : Moves) (c : Clauses 𝓤 f.ended) → Value 𝓤 moves ≡ c → (𝓣 : Tables 𝓤 𝓛.H) (g : Callee) → Triple 𝓤 (𝓣.C g) (OnOf 𝓛 moves)
    → Meets 𝓛 f.signature (WpFn 𝓤 𝓛.H 𝓣.C 𝓣.Λ (code_of g)) (closing 𝓛 f.ended c)
by_value_as {𝓤 = 𝓤} 𝓛 moves c same 𝓣 g known = subst (λ (d : Clauses 𝓤 f.ended). Meets 𝓛 f.signature (WpFn 𝓤 𝓛.H 𝓣.C 𝓣.Λ (code_of g)) (closing 𝓛 f.ended d)) same (by_value 𝓛 moves 𝓣 g known)

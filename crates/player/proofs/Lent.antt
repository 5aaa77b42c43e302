-- A lent record that a move changes in place: one walk for every function `fn f(player: &mut Player, text: &[u8], sheet: &[u8]) -> Result<Answer, Declined> { let moved = g(text, sheet, *player); *player = moved.player; moved.answer }`.
-- The walk knows of g only that it meets `From move`: its result is `move text sheet player`. So it holds of any key g and any `move`; a function's own proof is `lent_as` at its own two.
-- Assumes nothing.
use mathlib.Core.Path.{◌≡◌, refl, ap, subst}
use Prim.Native.Nat.{ℕ}
use mathlib.Core.List.{[], ◌∷◌, List}
use lib.ListN.{length}
use seplogic.Ra.Ura.{Ura}
use base.Fraction.{full_share}
use mir.Syntax.{Callee, Fn, Ty, named, mut, imm, w8, ty_int, ty_ref, local, value_local, place, copy, deref, field, rv_opd, assign, seq, call, return}
use mir.Val.{Val, vptr}
use base.Logic.{SProp, ent, emp, via, fst∗, snd∗, ex_e, id⊢}
use base.Fml.{GName, Lft, Share, ftrue, flft, fobs, fbor, fat}
use prog.Wp.{Calls, Loops, WpFn, Tables}
use types.Logic.{Logic, sem}
use contract.Monad.{fact}
use types.Kit.{‵, raw, later, some, ◌⊛◌, ⋆, ◌$◌, ◌∵◌, !, qed, by, move, keep, drop, use1, use2, split, join, pick, rewrite, fsplit, fsplit3, fjoin, fjoin3, feq_i, suffices, frame, await, done}
use types.Run.{look, look_raw, init, store_raw, forget, stop, hop, fld, from, load, of_opd, and_then, no_more, assigns, land, returns, enter, alloc1, alloc0, params1, pass1, pass0, free1, free0}
use types.Part.{whole, sub, look_in}
use types.SemTy.{Body}
use sound.WpLaws.{FmC, fm_of, WpFn-mono}
use denote.RattleType.{RattleType, owns}
use denote.Laws.{Is, shows}
use denote.Memory.{mem, pointee}
use denote.Builtin.{u8}
use denote.Ref.{Bor, MutBor, MutRef, mut_vals, mut_Tells}
use denote.Slice.{slice_val, slice_ty, ShrSlice, shr_slice_vals, shr_slice_Tells, shr_slice_Lawful}
use denote.Signature.{plain, shr_slice_of}
use denote.Steps.{only, opens, closes, owned, peeks, heard, nothing}
use denote.Struct.Steps.{spelt}
use denote.Struct.Laws as LL
use denote.Enum.Declared.{Declared, variants}
use denote.Enum.Enum.{Plainss}
use denote.Enum.Laws as EL
use denote.Triple.Statement.{Contract, Triple}
use denote.Triple.Call.{calls_at}
use denote.Triple.Entry.{on_entry}
use denote.Triple.Spec.{Meets, triple_of}
use denote.Triple.Walked.{says, Stays, stay_ref, stay_dropped, walk_of, Goes-ref, Goes-dropped, ends_at, walked, walk_Meets}
use denote.Triple.Clauses.{Clauses, closing, ensured, lasts}
use denote.Exit.{yes}
use Rattle.sheets.specs.SheetTexts.{AreBytes}
use Rattle.player.specs.declared.record.Player.{Player}
use Rattle.player.specs.declared.record.Move.{Move}
-- the types: P is Player, A what a move answers, D what is told in its place, R the one or the other, and N what is new, Move
use Rattle.player.specs.contracts.record.Player as P
use Rattle.player.proofs.record.Player.TheLaws as P'
use Rattle.player.specs.contracts.record.Answer as A
use Rattle.player.proofs.record.Answer.TheLaws as A'
use Rattle.conditions.specs.contracts.outcome.Declined as D
use Rattle.conditions.proofs.outcome.Declined.TheLaws as D'
use Rattle.std.specs.contracts.result.Result as R
use Rattle.std.proofs.result.Result.TheLaws as R'
use Rattle.player.specs.contracts.record.Move as N
use Rattle.player.proofs.record.Move.TheLaws as N'
-- two functions of the kind, for their signatures alone: every other has the same
use Rattle.player.specs.contracts.forward as on
use Rattle.player.specs.contracts.moves.forward_from as by_value

-- an answer, or what is told in its place
abbrev pub answer_type : Declared
answer_type = R.the_type A.the_row D.the_row

abbrev pub answer_row : RattleType
answer_row = R.the_row A.the_row D.the_row

abbrev pub answer_laws : EL.Laws answer_type
answer_laws = R'.the_laws A.the_row D.the_row A'.the_row_laws D'.the_row_laws A'.the_told D'.the_told

abbrev pub answer_mir : Ty
answer_mir = (R'.lowers A.the_row D.the_row A'.the_row_laws D'.the_row_laws A'.the_told D'.the_told).mir

abbrev pub answer_plain : Plainss (variants answer_type)
answer_plain = R'.the_plain A.the_row D.the_row A'.the_row_plain D'.the_row_plain

-- what a move does to a text, a sheet and a record
abbrev pub Moves : Type 0
Moves = List ℕ → List ℕ → Player → Move

-- the code, at the key of the function that it calls
abbrev pub code_of : Callee → Fn
code_of g = record {
  lifetimes = 3;
  outlives = [];
  ty_params = [];
  givens = 0;
  params = 3;
  locals = local answer_mir value_local ∷ local (ty_ref (named 0) mut (pointee (P.the_row).written)) value_local ∷ local (slice_ty (ty_ref (named 1) imm (ty_int w8))) value_local
      ∷ local (slice_ty (ty_ref (named 2) imm (ty_int w8))) value_local ∷ local N'.mir value_local ∷ local P'.mir value_local ∷ local P'.mir value_local ∷ [];
  body = seq (assign (place 5 []) (rv_opd (copy (place 1 (deref P'.mir ∷ [])))))
      (seq (call g (copy (place 2 []) ∷ copy (place 3 []) ∷ copy (place 5 []) ∷ []) (place 4 []))
      (seq (assign (place 6 []) (rv_opd (copy (place 4 (field 0 ∷ [])))))
      (seq (assign (place 1 (deref P'.mir ∷ [])) (rv_opd (copy (place 6 []))))
      (seq (assign (place 0 []) (rv_opd (copy (place 4 (field 1 ∷ [])))))
      return))));
}

-- what the function still has at exit: the record, and nothing of the two slices
abbrev stayed : Stays (on.ended).signature.params (on.ended).kept
stayed = (stay_ref (0 ∷ []) tt (plain (λ _. P.the_row)), (stay_dropped (shr_slice_of (1 ∷ []) tt (plain (λ _. u8))) yes, (stay_dropped (shr_slice_of (2 ∷ []) tt (plain (λ _. u8))) yes, tt)))

module _ {M : Type 1} (𝓤 : Ura M) (moves : Moves) where
  -- the contract of the function by value, and of the one on a record that is lent
  abbrev pub From : Clauses 𝓤 by_value.ended
  From κs a = record { ghost = Unit {0}; requires = λ _. emp 𝓤; ensures = λ _ r _. fact 𝓤 ((r ≡ moves a.0.now a.1.0.now a.1.1.0) × AreBytes a.1.0.now) }

  abbrev pub On : Clauses 𝓤 on.ended
  On κs a = record { ghost = Unit {0}; requires = λ _. emp 𝓤; ensures = λ _ r e. fact 𝓤 ((e.0.now ≡ (moves a.1.0.now a.1.1.0.now a.0.now).player) × (r ≡ (moves a.1.0.now a.1.1.0.now a.0.now).answer) × AreBytes a.1.1.0.now) }

abbrev pub FromOf : {M : Type 1} {𝓤 : Ura M} (𝓛 : Logic 𝓤) (moves : Moves) → Contract 𝓤
FromOf {𝓤 = 𝓤} 𝓛 moves = triple_of 𝓛 by_value.signature (closing 𝓛 by_value.ended (From 𝓤 moves))

abbrev pub OnOf : {M : Type 1} {𝓤 : Ura M} (𝓛 : Logic 𝓤) (moves : Moves) → Contract 𝓤
OnOf {𝓤 = 𝓤} 𝓛 moves = triple_of 𝓛 on.signature (closing 𝓛 on.ended (On 𝓤 moves))

-- what whoever holds a `Move` knows of its two fields
parts : (r : Move) {v : Val} → Is N.the_row r (v ∷ []) → Is P.the_row r.player (LL.vals P.the_type P'.the_laws r.player) × (Is answer_row r.answer (EL.vals answer_type answer_laws r.answer) × Unit {0})
parts r is = LL.owed N.the_type N'.the_laws r _ is

module _ {M : Type 1} {𝓤 : Ura M} (𝓛 : Logic 𝓤) (moves : Moves) (κ κ₁ κ₂ : Lft) (q q₁ q₂ : Share) (b o : ℕ) (γ : GName) (h : Player) (text sheet : Bor (List ℕ)) where
  open 𝓛 use {H}

  abbrev s₁ : Val
  s₁ = slice_val text.ref_ptr (length text.now)

  abbrev s₂ : Val
  s₂ = slice_val sheet.ref_ptr (length sheet.now)

  abbrev x : MutBor Player × (Bor (List ℕ) × (Bor (List ℕ) × Unit {0}))
  x = (record { ref_ptr = (b, o); ghost_name = γ; now = h }, (text, (sheet, tt)))

  abbrev at : List Val × (List Val × (List Val × Unit {0}))
  at = (vptr b o ∷ [], (s₁ ∷ [], (s₂ ∷ [], tt)))

  abbrev Post : Val → SProp 𝓤
  Post = (walk_of 𝓛 on.ended stayed (On 𝓤 moves)).post (((κ, (κ₁, (κ₂, tt))), (q, (q₁, (q₂, tt))), tt, x, at), tt)

  abbrev to : (FromOf 𝓛 moves).Ghost
  to = (((κ₁, (κ₂, tt)), (q₁, (q₂, tt)), tt, (text, (sheet, (h, tt))), (s₁ ∷ [], (s₂ ∷ [], (P'.lowered h ∷ [], tt)))), tt)

  -- what the callee is handed: the slices' tokens, what the slices own, and a record made anew
  goes : Is P.the_row h (P'.lowered h ∷ []) → ent 𝓤 (⋆ 𝓛 ((‵ (flft κ₁ q₁) ⊛ ‵ (flft κ₂ q₂) ⊛ ‵ ftrue) ∷ ‵ (owns (ShrSlice (named 1) κ₁ u8 ∷ ShrSlice (named 2) κ₂ u8 ∷ []) (text, (sheet, tt)) (s₁ ∷ [], (s₂ ∷ [], tt))) ∷ [])) ((FromOf 𝓛 moves).pre to)
  goes was =
      qed 𝓛 ((‵ (flft κ₁ q₁) ⊛ ‵ (flft κ₂ q₂) ⊛ ‵ ftrue) ∷ ‵ (owns (ShrSlice (named 1) κ₁ u8 ∷ ShrSlice (named 2) κ₂ u8 ∷ []) (text, (sheet, tt)) (s₁ ∷ [], (s₂ ∷ [], tt))) ∷ []) ∵
      move ! (1 ∷ []) $ fsplit ! $ move ! (1 ∷ []) $ fsplit ! $ move ! (1 ∷ []) $ owned ! P.the_row (Is P.the_row) (LL.makes P.the_type P'.the_plain 𝓛) h _ was $ fjoin ! $
      move ! (1 ∷ 0 ∷ []) $ fjoin ! $ move ! (1 ∷ 0 ∷ []) $ fjoin ! $ move ! (1 ∷ 0 ∷ []) $ join ! $ frame ! $ done !

  -- what the callee ensures of its result
  abbrev Known : Move → Type 0
  Known r = (r ≡ moves text.now sheet.now h) × AreBytes sheet.now

  -- of the callee's `ensured`, the clause alone
  said : (r : Move) → ent 𝓤 (ensured 𝓛 by_value.ended (From 𝓤 moves) (κ₁, (κ₂, tt)) (text, (sheet, (h, tt))) tt r) (fact 𝓤 (Known r))
  said r = ex_e 𝓤 _ (λ ws. snd∗ 𝓤 (sem 𝓛 (lasts by_value.ended (κ₁, (κ₂, tt)) (text, (sheet, (h, tt))) ws)) (fact 𝓤 (Known r)))

  exits : (r : Move) → Is answer_row r.answer (EL.vals answer_type answer_laws r.answer) → Known r
      → ent 𝓤 (⋆ 𝓛 (‵ (fobs γ ((P.the_row).coded.code r.player)) ∷ ‵ (fbor κ (Body (mem P.the_row) b o γ)) ∷ ‵ (flft κ q) ∷ (‵ (flft κ₁ q₁) ⊛ ‵ (flft κ₂ q₂) ⊛ ‵ ftrue) ∷ [])) (Post (EL.val answer_type answer_laws r.answer))
  exits r is e =
      qed 𝓛 (‵ (fobs γ ((P.the_row).coded.code r.player)) ∷ ‵ (fbor κ (Body (mem P.the_row) b o γ)) ∷ ‵ (flft κ q) ∷ (‵ (flft κ₁ q₁) ⊛ ‵ (flft κ₂ q₂) ⊛ ‵ ftrue) ∷ []) ∵
      suffices ! _ (ends_at 𝓛 on.ended stayed (On 𝓤 moves) (((κ, (κ₁, (κ₂, tt))), (q, (q₁, (q₂, tt))), tt, x, at), tt) (EL.val answer_type answer_laws r.answer) r.answer (r.player, (tt, (tt, tt))) (tt, (tt, (tt, tt)))) $
      says ! (ap (λ (m : Move). m.player) e.0, ap (λ (m : Move). m.answer) e.0, e.1) $ move ! (2 ∷ 3 ∷ []) $ join ! $ frame ! $
      feq_i ! (List Val) (vptr b o ∷ []) (vptr b o ∷ []) refl $ fjoin3 ! $ nothing ! $ nothing ! $ fjoin ! $ nothing ! $ fjoin ! $ move ! (1 ∷ 0 ∷ []) $ fjoin ! $ frame ! $
      owned ! answer_row (Is answer_row) (EL.makes answer_type answer_plain 𝓛) r.answer _ is $ done !

  module _ (C : Calls 𝓤 H) (Λ : Loops 𝓤 H) (fm : FmC 𝓤 H 𝓛.laws C) (g : Callee) (known : Triple 𝓤 (C g) (FromOf 𝓛 moves)) where
    walk : Is (ShrSlice (named 1) κ₁ u8) text (s₁ ∷ []) → Is (ShrSlice (named 2) κ₂ u8) sheet (s₂ ∷ []) → ent 𝓤 (on_entry 𝓛 on.signature (κ, (κ₁, (κ₂, tt))) (q, (q₁, (q₂, tt))) x at) (WpFn 𝓤 H C Λ (code_of g) (vptr b o ∷ s₁ ∷ s₂ ∷ []) Post)
    walk is₁ is₂ =
        qed 𝓛 ((‵ (flft κ q) ⊛ ‵ (flft κ₁ q₁) ⊛ ‵ (flft κ₂ q₂) ⊛ ‵ ftrue) ∷ ‵ (owns (MutRef (named 0) κ P.the_row ∷ ShrSlice (named 1) κ₁ u8 ∷ ShrSlice (named 2) κ₂ u8 ∷ []) x at) ∷ []) ∵ enter ! C Λ (code_of g) (vptr b o ∷ s₁ ∷ s₂ ∷ []) _ $
        alloc1 ! (λ l₀. alloc1 ! (λ l₁. alloc1 ! (λ l₂. alloc1 ! (λ l₃. alloc1 ! (λ l₄. alloc1 ! (λ l₅. alloc1 ! (λ l₆. alloc0 ! $ params1 ! $ pass1 ! (init ! 10 refl (tt, tt)) $
        pass1 ! (init ! 8 refl ((shr_slice_Lawful 𝓛 (named 1) κ₁ u8).typed text (s₁ ∷ []) is₁).0) $ pass1 ! (init ! 6 refl ((shr_slice_Lawful 𝓛 (named 2) κ₂ u8).typed sheet (s₂ ∷ []) is₂).0) $ pass0 ! $
        -- [_6; …; _5; …; _4; …; _3; …; _2; …; _1; …; room for _0; …; the tokens; what the parameters own]: the borrow is opened
        move ! (15 ∷ []) $ fsplit ! $ fsplit3 ! $ drop ! $ move ! (17 ∷ []) $ split ! $ move ! (2 ∷ 3 ∷ 0 ∷ []) $
        opens ! tt P.the_row {h = h} b o (λ vs. spelt ! P.the_row (Is P.the_row) (shows 𝓛 P.the_row) (LL.vals P.the_type P'.the_laws) (LL.tells P.the_type P'.the_laws) full_share h vs b o $
        move ! (1 ∷ []) $ peeks ! P.the_row (Is P.the_row) (shows 𝓛 P.the_row) h (P'.lowered h ∷ []) (λ was. drop ! $
        -- [the record's cell; the open borrow; obs; auth; the slices' tokens; what the slices own; _6; …; _5; …; _4; …; _3; …; _2; …; _1; …; room for _0; …]
        assigns ! (of_opd ! (load ! (from ! (hop ! (look ! 16 refl) (stop !))) (look_raw ! 0 refl))) (from ! (stop !)) (init ! 8 refl ((LL.lawful P.the_type P'.the_laws 𝓛).typed h _ was).0) $
        move ! (4 ∷ 5 ∷ []) $ use2 𝓛 (raw ((FromOf 𝓛 moves).pre to)) (goes was) $
        -- [what the callee asks; the record's cell; the open borrow; obs; auth; _6; …; _5; …; _4; …; _3; …; _2; …; _1; …; room for _0; …]
        calls_at ! fm (FromOf 𝓛 moves) known to (and_then ! (load ! (from ! (stop !)) (look ! 13 refl)) (and_then ! (load ! (from ! (stop !)) (look ! 11 refl)) (and_then ! (load ! (from ! (stop !)) (look ! 7 refl)) (no_more !)))) (λ v.
        use1 𝓛 (later (some (λ (r : Move). ((‵ (flft κ₁ q₁) ⊛ ‵ (flft κ₂ q₂) ⊛ ‵ ftrue) ⊛ ‵ ((N.the_row).own_val r (v ∷ []))) ⊛ raw (ensured 𝓛 by_value.ended (From 𝓤 moves) (κ₁, (κ₂, tt)) (text, (sheet, (h, tt))) tt r)))) (id⊢ 𝓤 _) $ await ! tt $ pick ! (λ r.
        split ! $ move ! (1 ∷ []) $ use1 𝓛 (raw (fact 𝓤 (Known r))) (said r) $ heard ! (Known r) (λ e. split ! $ move ! (1 ∷ []) $
        peeks ! N.the_row (Is N.the_row) (shows 𝓛 N.the_row) r (v ∷ []) (λ is. drop ! $
        -- [the slices' tokens; the record's cell; the open borrow; obs; auth; room for _6; …; _5; …; room for _4; …; _3; …; _2; …; _1; …; room for _0; …]: the result lands, and its machine value is written out
        land ! (from ! (stop !)) (init ! 9 refl ((LL.lawful N.the_type N'.the_laws 𝓛).typed r _ is).0) $
        rewrite ! 9 (λ (us : List Val). ‵ (fat full_share N'.mir l₄ 0 (only us))) (LL.tells N.the_type N'.the_laws r _ is) refl $
        assigns ! (of_opd ! (load ! (from ! (fld ! refl (stop !))) (look_in ! 9 (sub ! 0 refl (whole !))))) (from ! (stop !)) (init ! 5 refl ((LL.lawful P.the_type P'.the_laws 𝓛).typed r.player _ (parts r is).0).0) $
        assigns ! (of_opd ! (load ! (from ! (stop !)) (look ! 5 refl))) (from ! (hop ! (look ! 15 refl) (stop !))) (store_raw ! 1 refl ((LL.lawful P.the_type P'.the_laws 𝓛).typed r.player _ (parts r is).0).0) $
        assigns ! (of_opd ! (load ! (from ! (fld ! refl (stop !))) (look_in ! 9 (sub ! 1 refl (whole !))))) (from ! (stop !)) (init ! 17 refl ((EL.lawful answer_type answer_laws 𝓛 tt).typed r.answer _ (parts r is).1.0).0) $
        move ! (1 ∷ 2 ∷ 3 ∷ 4 ∷ []) $ owned ! P.the_row (Is P.the_row) (LL.makes P.the_type P'.the_plain 𝓛) r.player _ (parts r is).0 $ move ! (1 ∷ 0 ∷ []) $ closes ! tt P.the_row r.player (P'.lowered r.player ∷ []) b o $
        -- [obs; the borrow; the token; the slices' tokens; _6; …; _5; …; _4; …; _3; …; _2; …; _1; …; _0; …]
        returns ! (look ! 16 refl) $ forget ! 4 refl $ forget ! 6 refl $ forget ! 8 refl $ forget ! 10 refl $ forget ! 12 refl $ forget ! 14 refl $ forget ! 16 refl $
        move ! (16 ∷ 17 ∷ []) $ free1 ! $ move ! (14 ∷ 15 ∷ []) $ free1 ! $ move ! (12 ∷ 13 ∷ []) $ free1 ! $ move ! (10 ∷ 11 ∷ []) $ free1 ! $ move ! (8 ∷ 9 ∷ []) $ free1 ! $ move ! (6 ∷ 7 ∷ []) $ free1 ! $ move ! (4 ∷ 5 ∷ []) $ free1 ! $ free0 ! $
        keep ! (0 ∷ 1 ∷ 2 ∷ 3 ∷ []) $ by ! (exits r (parts r is).1.0 e))))))))))))))

-- the function on a record that is lent meets its contract, where the one that it calls meets its own
pub lent : {M : Type 1} {𝓤 : Ura M} (𝓛 : Logic 𝓤) (moves : Moves) (𝓣 : Tables 𝓤 𝓛.H) (g : Callee) → Triple 𝓤 (𝓣.C g) (FromOf 𝓛 moves)
    → Meets 𝓛 on.signature (WpFn 𝓤 𝓛.H 𝓣.C 𝓣.Λ (code_of g)) (closing 𝓛 on.ended (On 𝓤 moves))
lent {𝓤 = 𝓤} 𝓛 moves 𝓣 g known =
    walk_Meets 𝓛 on.ended stayed (Goes-ref 𝓛 3 0 tt (plain (λ _. P.the_row)), (Goes-dropped 𝓛 3 (shr_slice_of (1 ∷ []) tt (plain (λ _. u8))) yes (λ κs x f. refl), (Goes-dropped 𝓛 3 (shr_slice_of (2 ∷ []) tt (plain (λ _. u8))) yes (λ κs x f. refl), tt)))
    (On 𝓤 moves) (WpFn 𝓤 𝓛.H 𝓣.C 𝓣.Λ (code_of g)) (WpFn-mono 𝓤 𝓛.H 𝓛.laws 𝓣 (code_of g))
    (walked 𝓛 on.ended stayed (On 𝓤 moves) (WpFn 𝓤 𝓛.H 𝓣.C 𝓣.Λ (code_of g)) (λ κs. (mut_vals, (shr_slice_vals, (shr_slice_vals, tt))))
    (λ κs. (mut_Tells (named 0) κs.0 P.the_row, (shr_slice_Tells (named 1) κs.1.0 u8, (shr_slice_Tells (named 2) κs.1.1.0 u8, tt))))
    (λ κs qs bounds a _ are. via 𝓤 _ (fst∗ 𝓤 _ (emp 𝓤)) (walk 𝓛 moves κs.0 κs.1.0 κs.1.1.0 qs.0 qs.1.0 qs.1.1.0 a.0.ref_ptr.0 a.0.ref_ptr.1 a.0.ghost_name a.0.now a.1.0 a.1.1.0 𝓣.C 𝓣.Λ (fm_of 𝓤 𝓛.H 𝓛.laws 𝓣) g known are.1.0 are.1.1.0)))

-- the same at a contract whose clauses are these, as a function's own
pub lent_as : {M : Type 1} {𝓤 : Ura M} (𝓛 : Logic 𝓤) (moves : Moves) (c : Clauses 𝓤 on.ended) → On 𝓤 moves ≡ c → (𝓣 : Tables 𝓤 𝓛.H) (g : Callee) → Triple 𝓤 (𝓣.C g) (FromOf 𝓛 moves)
    → Meets 𝓛 on.signature (WpFn 𝓤 𝓛.H 𝓣.C 𝓣.Λ (code_of g)) (closing 𝓛 on.ended c)
lent_as {𝓤 = 𝓤} 𝓛 moves c same 𝓣 g known = subst (λ (d : Clauses 𝓤 on.ended). Meets 𝓛 on.signature (WpFn 𝓤 𝓛.H 𝓣.C 𝓣.Λ (code_of g)) (closing 𝓛 on.ended d)) same (lent 𝓛 moves 𝓣 g known)

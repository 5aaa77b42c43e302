-- What a sheet is asked, over a system: where it is no map that passes, what the test answers is told, else the map replies.
-- Assumes nothing.
use mathlib.Core.Path.{◌≡◌, refl, sym, ap, ◌∙◌}
use mathlib.Core.Bool.{Bool, true, false, cond, true≢false}
use mathlib.Core.List.{List}
use Prim.Native.Nat.{ℕ, ◌+◌, ◌-◌, ◌/◌, ◌≤◌, ◌<◌}
use native.Mathlib.Omega.{arith}
use lib.ListN.{length, take, drop}
use borrow.Author.Tests.{lt-ltb, le-ltb}
use Rattle.std.specs.Prelude.{Result, Ok, Err}
use Rattle.refusals.specs.declared.Refusal.{Refusal}
use Rattle.refusals.specs.Reasons.{refusal_of}
use Rattle.meaning.specs.Evidence.{in_map}
use Rattle.meaning.specs.OneRow.{TraceStep, last_of}
use Rattle.meaning.specs.working.Conditions.{test_e}
use Rattle.sheets.specs.Sheets.{System, size, header_length, map_length}
use Rattle.sheets.specs.working.SheetReading.{map_in, sheet_of}
use Rattle.sheets.specs.working.Shapes.{shape_of}
use Rattle.sheets.specs.declared.shapes.Shape.{Shape}
use Rattle.sheets.proofs.SheetOpened.{map_found, eighths}
use Rattle.sheets.specs.declared.shapes.Shape.TheVariants.{Map, Trace}
use Rattle.conditions.specs.Outcomes.{Tested, declined}
use Rattle.conditions.specs.declared.outcome.Outcome.{Outcome}
use Rattle.conditions.specs.declared.outcome.Outcome.TheVariants.{TraceHolds, FailsD, FailsE, FailsF}
use Rattle.conditions.specs.declared.outcome.Declined.TheVariants as D
use Rattle.conditions.specs.working.Judging.{walk, trace_answer, outcome_of}
use Rattle.acceptance.proofs.TestWhole.{whole-refused, map-room, lent-map, whole-trace}
use Rattle.questions.specs.working.Asking.{map_passed, map_of, member_reply, asked_of}

-- No outcome for a trace is that of a map.
trace_chain : (a b c : Bool) → map_passed (Ok (cond a (cond b (cond c TraceHolds FailsF) FailsE) FailsD)) ≡ false
trace_chain true true true = refl
trace_chain true true false = refl
trace_chain true false c = refl
trace_chain false b c = refl

no-trace : (M : System) (s : ℕ) (xs : List TraceStep) → map_passed (Ok (trace_answer M s xs)) ≡ false
unfolding trace_answer walk
no-trace M s xs = trace_chain (M.starts s) (test_e M.step s xs) (M.breaks (last_of s xs))

-- Where a map passes, a map was found.
module _ (M : System) (b : List ℕ) (passed : map_passed (outcome_of M b) ≡ true) where
  other : (o : Tested) → o ≡ outcome_of M b → map_passed o ≡ false → Ok Map ≡ shape_of (sheet_of M b)
  other o e f = absurd (true≢false (sym passed ∙ ap map_passed (sym e) ∙ f))

  by_shape : (x : Result Shape Refusal) → x ≡ shape_of (sheet_of M b) → Ok Map ≡ shape_of (sheet_of M b)
  by_shape (Err r) e = other (Err r) (whole-refused M b r e) refl
  by_shape (Ok Map) e = e
  by_shape (Ok Trace) e = other _ (whole-trace M b e _ refl) (no-trace M _ _)

  pub passed_found : Ok Map ≡ shape_of (sheet_of M b)
  passed_found = by_shape (shape_of (sheet_of M b)) refl

-- The replies of a map.
module _ (states : ℕ) (map : List ℕ) (s : ℕ) where
  pub member_beyond : states ≤ s → member_reply states map s ≡ Err (D.Refused (refusal_of 10 0))
  unfolding member_reply
  member_beyond h = rw (le-ltb _ _ h)

  pub member_below : s < states → member_reply states map s ≡ Ok (in_map map s)
  unfolding member_reply
  member_below h = rw (lt-ltb _ _ h)

-- What is asked after what the test answers.
module _ (M : System) (b : List ℕ) (s : ℕ) where
  pub asked-not : map_passed (outcome_of M b) ≡ false → asked_of M b s ≡ Err (declined (outcome_of M b))
  unfolding asked_of
  asked-not e = rw e

  pub asked-map : map_passed (outcome_of M b) ≡ true → asked_of M b s ≡ member_reply (size M) (map_of M b) s
  unfolding asked_of
  asked-map e = rw e

  -- What the code replies: to a sheet that is refused, and to one of which it knows the outcome.
  pub asked_refused : (r : Refusal) → Err r ≡ outcome_of M b → asked_of M b s ≡ Err (D.Refused r)
  asked_refused r e = asked-not (ap map_passed (sym e)) ∙ ap (λ (t : Tested). Err (declined t)) (sym e)

  module _ (o : Outcome) (tested : Ok o ≡ outcome_of M b) where
    pub asked_told : map_passed (Ok o) ≡ false → asked_of M b s ≡ Err (D.Tested o)
    asked_told e = asked-not (ap map_passed (sym tested) ∙ e) ∙ ap (λ (t : Tested). Err (declined t)) (sym tested)

    module _ (passed : map_passed (Ok o) ≡ true) where
      pub is_passed : map_passed (outcome_of M b) ≡ true
      is_passed = ap map_passed (sym tested) ∙ passed

      pub asked_beyond : size M ≤ s → asked_of M b s ≡ Err (D.Refused (refusal_of 10 0))
      asked_beyond h = asked-map is_passed ∙ member_beyond (size M) (map_of M b) s h

      -- The map is the last of the sheet.
      pub stands : header_length M + 6 ≤ length b
      stands = map-room M b (passed_found M b is_passed)

      as_long : map_length (size M) ≡ length b - (header_length M + 6)
      as_long = let e = (map_found M b (passed_found M b is_passed)).stands.end in omega (arith, e)

      -- One of its bytes has the state's bit.
      pub has_bit : s < size M → header_length M + 6 + s / 8 < length b
      has_bit h =
          let e = (map_found M b (passed_found M b is_passed)).stands.end in
          omega (arith, h, e, eighths M.bits)

      pub asked_member : s < size M → asked_of M b s ≡ Ok (in_map (lent-map M b (passed_found M b is_passed)) s)
      unfolding map_in
      asked_member h =
          asked-map is_passed ∙ member_below (size M) (map_of M b) s h
          ∙ ap (λ (n : ℕ). Ok (in_map (take n (drop (header_length M + 6) b)) s)) as_long

-- `put_found` meets its contract: each arm puts the report that the search's answer stands for.
use mathlib.Core.Path.{◌≡◌, refl, sym, ap, ◌∙◌, subst}
use native.Mathlib.Omega.{arith}
use lib.ListN.{take}
use Rattle.std.specs.Prelude.{Ok}
use Rattle.std.specs.Result.{IsOk}
use Rattle.refusals.specs.Reasons.{number_of}
use Rattle.verdicts.specs.working.Searching.{search_of}
use Rattle.lines.specs.Lines.{refusal_line}
use Rattle.lines.specs.Writers.{HasRoom, Writes}
use Rattle.reporting.specs.working.Writing.{safe_report, void_report, trace_report, MapShown, Printable}
use Rattle.reporting.specs.working.Reporting.{report_of}
use Rattle.reporting.proofs.Reported.{MapTold, TraceTold, Told, told_left, code_known}
use Rattle.reporting.proofs.put_found.Goals as goal
use Rattle.reporting.proofs.put_found.Goals.{Start, In-Ok, In-Err, In-Safe, In-Void, In-Unsafe}

-- The tables and the sheet had room for every search, so the answer tells the report.
told : (start : Start) → let S = start.requires.0 in Told start.args.text.now (search_of start.args.text.now S.first S.second S.before)
told start = let S = start.requires.0 in told_left start.args.text.now S.first S.second S.before S.first_long S.second_long S.sheet_long

refused-told : (c : In-Err) → let r = c.in-Err.refusal in refusal_line (number_of r.reason) r.place ≡ report_of c.args.text.now
refused-told c =
    let start : Start = search in
    (told start).refusal _ (sym c.in-Err.is ∙ c.requires.0.answered)

pub put_refusal-requires : goal.put_refusal-requires
put_refusal-requires c = subst (HasRoom c.args.out.now) (sym (refused-told (goal.at.put_refusal-requires c).In-Err)) c.requires.1

pub returns-in-Err : goal.returns-in-Err
returns-in-Err c = subst (λ v. Writes c.args.out.now v c.put_refusal.new.self) (refused-told (goal.at.returns-in-Err c).In-Err) c.put_refusal.ensures

-- A finding is that of a text that was read.
pub unwrap-code-requires : goal.unwrap-code-requires
unwrap-code-requires c =
    let start : Start = search in
    let was_read = c.read.ensures ∙ (told start).found _ (sym c.in-Ok.is ∙ c.requires.0.answered) in
    subst IsOk (sym was_read) refl

-- What stands at the front of the sheet after safe, and after unsafe.
map-told : (c : In-Safe) → MapTold c.args.text.now c.in-Safe.length c.args.sheet.now
map-told c =
    let start : Start = search in
    (told start).safely _ _ c.args.sheet.now (sym (c.in-Ok.is ∙ ap (λ f. Ok f) c.in-Safe.is) ∙ c.requires.0.answered) c.requires.0.written

trace-told : (c : In-Unsafe) → TraceTold c.args.text.now c.in-Unsafe.length c.args.sheet.now
trace-told c =
    let start : Start = search in
    (told start).unsafely _ c.args.sheet.now (sym (c.in-Ok.is ∙ ap (λ f. Ok f) c.in-Unsafe.is) ∙ c.requires.0.answered) c.requires.0.written

safe-told : (c : In-Safe) → safe_report c.unwrap-code.result (take c.in-Safe.length c.args.sheet.now) ≡ report_of c.args.text.now
safe-told c =
    ap (λ code. safe_report code (take c.in-Safe.length c.args.sheet.now)) (code_known c.args.text.now c.unwrap-code.ensures c.read.ensures) ∙ (map-told c).lines

void-told : (c : In-Void) → void_report c.unwrap-code.result ≡ report_of c.args.text.now
void-told c =
    let start : Start = search in
    ap void_report (code_known c.args.text.now c.unwrap-code.ensures c.read.ensures) ∙ (told start).voidly _ (sym (c.in-Ok.is ∙ ap (λ f. Ok f) c.in-Void.is) ∙ c.requires.0.answered)

unsafe-told : (c : In-Unsafe) → trace_report c.args.text.now c.unwrap-code.result (take c.in-Unsafe.length c.args.sheet.now) ≡ report_of c.args.text.now
unsafe-told c =
    ap (λ code. trace_report c.args.text.now code (take c.in-Unsafe.length c.args.sheet.now)) (code_known c.args.text.now c.unwrap-code.ensures c.read.ensures) ∙ (trace-told c).lines

pub shared_ref_as_front-put_safe : goal.shared_ref_as_front-put_safe
shared_ref_as_front-put_safe c = omega (arith, (map-told (goal.at.shared_ref_as_front-put_safe c).In-Safe).within)

pub put_safe-requires : goal.put_safe-requires
put_safe-requires c =
    let arm : In-Safe = (goal.at.put_safe-requires c).In-Safe in (
      subst (λ code. MapShown code (take c.in-Safe.length c.args.sheet.now)) (sym (code_known c.args.text.now c.unwrap-code.ensures c.read.ensures)) (map-told arm).shown,
      subst (HasRoom c.args.out.now) (sym (safe-told arm)) c.requires.1,
    )

pub put_void-requires : goal.put_void-requires
put_void-requires c = subst (HasRoom c.args.out.now) (sym (void-told (goal.at.put_void-requires c).In-Void)) c.requires.1

pub shared_ref_as_front-put_unsafe : goal.shared_ref_as_front-put_unsafe
shared_ref_as_front-put_unsafe c = omega (arith, (trace-told (goal.at.shared_ref_as_front-put_unsafe c).In-Unsafe).within)

pub put_unsafe-requires : goal.put_unsafe-requires
put_unsafe-requires c =
    let arm : In-Unsafe = (goal.at.put_unsafe-requires c).In-Unsafe in (
      subst (λ code. Printable c.args.text.now code (take c.in-Unsafe.length c.args.sheet.now)) (sym (code_known c.args.text.now c.unwrap-code.ensures c.read.ensures)) (trace-told arm).shown,
      subst (HasRoom c.args.out.now) (sym (unsafe-told arm)) c.requires.1,
    )

pub returns-in-Safe : goal.returns-in-Safe
returns-in-Safe c = subst (λ v. Writes c.args.out.now v c.put_safe.new.out) (safe-told (goal.at.returns-in-Safe c).In-Safe) c.put_safe.ensures

pub returns-in-Void : goal.returns-in-Void
returns-in-Void c = subst (λ v. Writes c.args.out.now v c.put_void.new.out) (void-told (goal.at.returns-in-Void c).In-Void) c.put_void.ensures

pub returns-in-Unsafe : goal.returns-in-Unsafe
returns-in-Unsafe c = subst (λ v. Writes c.args.out.now v c.put_unsafe.new.out) (unsafe-told (goal.at.returns-in-Unsafe c).In-Unsafe) c.put_unsafe.ensures

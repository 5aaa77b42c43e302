-- `put_all` meets its contract: what is answered to the question for the steps settles what is written.
use mathlib.Core.Path.{◌≡◌, sym, ap, subst}
use Rattle.std.specs.Prelude.{Err}
use Rattle.std.proofs.Common.{rules}
use Rattle.windows.specs.declared.record.Reply.{Reply}
use Rattle.windows.specs.declared.record.Unanswered.TheVariants as U
use Rattle.lines.specs.Writers.{HasRoom, Writes}
use Rattle.bursts.proofs.LinesPut.{by_lines, by_refusal, by_declined}
use Rattle.bursts.proofs.put_all.Goals as goal

pub put_commands-requires : goal.put_commands-requires
put_commands-requires c =
    let a = c.args in
    let reply = c.survey_of-reply in (
      ap (λ (x : Reply). x.counts) reply.ensures.0,
      subst (HasRoom a.out.now) (sym (by_lines a.text.now a.sheet.now a.width reply.result reply.ensures.0 _ c.in-Ok.is)) c.requires,
    )

pub put_refusal-requires : goal.put_refusal-requires
put_refusal-requires c =
    let a = c.args in
    let reply = c.survey_of-reply in
    let is : reply.result.answer ≡ Err (U.Refused c.in-Err-Refused.reason) = search rules in
    subst (HasRoom a.out.now) (sym (by_refusal a.text.now a.sheet.now a.width reply.result reply.ensures.0 _ is _ c.at.ensures)) c.requires

pub put_declined-requires : goal.put_declined-requires
put_declined-requires c =
    let a = c.args in
    let reply = c.survey_of-reply in
    let is : reply.result.answer ≡ Err (U.Declined c.in-Err-Declined.declined) = search rules in
    subst (HasRoom a.out.now) (sym (by_declined a.text.now a.sheet.now a.width reply.result reply.ensures.0 _ is)) c.requires

pub returns-in-Ok : goal.returns-in-Ok
returns-in-Ok c =
    let a = c.args in
    let reply = c.survey_of-reply in
    let put = c.put_commands in
    (subst (λ v. Writes a.out.now v put.new.out) (by_lines a.text.now a.sheet.now a.width reply.result reply.ensures.0 _ c.in-Ok.is) put.ensures, reply.ensures.1)

pub returns-in-Err-Refused : goal.returns-in-Err-Refused
returns-in-Err-Refused c =
    let a = c.args in
    let reply = c.survey_of-reply in
    let put = c.put_refusal in
    let is : reply.result.answer ≡ Err (U.Refused c.in-Err-Refused.reason) = search rules in
    (subst (λ v. Writes a.out.now v put.new.self) (by_refusal a.text.now a.sheet.now a.width reply.result reply.ensures.0 _ is _ c.at.ensures) put.ensures, reply.ensures.1)

pub returns-in-Err-Declined : goal.returns-in-Err-Declined
returns-in-Err-Declined c =
    let a = c.args in
    let reply = c.survey_of-reply in
    let put = c.put_declined in
    let is : reply.result.answer ≡ Err (U.Declined c.in-Err-Declined.declined) = search rules in
    (subst (λ v. Writes a.out.now v put.new.out) (by_declined a.text.now a.sheet.now a.width reply.result reply.ensures.0 _ is) put.ensures, reply.ensures.1)

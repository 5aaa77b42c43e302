-- `put_report` meets its contract: there is room for every report.
use native.Mathlib.Omega.{arith}
use Rattle.lines.proofs.Writers.{front-room, front-put}
use Rattle.reporting.proofs.ReportShort.{reports_fit}
use Rattle.reporting.proofs.put_report.Goals as goal

pub put_found-requires : goal.put_found-requires
put_found-requires c = (c.requires, front-room _ c.new-report.ensures.room c.new-report.ensures.len (omega (arith, reports_fit c.args.text.now)))

pub returns : goal.returns
returns c =
    let put = front-put _ c.new-report.ensures.room c.new-report.ensures.len (omega (arith, reports_fit c.args.text.now)) c.put_found.ensures c.len.ensures in
    record { out_after = (put.0.stored, omega (arith, put.0.ends)); within = put.1 }

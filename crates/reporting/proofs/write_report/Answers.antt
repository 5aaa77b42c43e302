-- `write_report` meets its contract: the search has room for every text, and its answer and sheet make the report.
use native.Mathlib.Omega.{arith}
use Rattle.reporting.proofs.write_report.Goals as goal

pub put_report-requires : goal.put_report-requires
put_report-requires c =
    let s = c.search-found in
    record {
      first = c.args.first.now;
      second = c.args.second.now;
      before = c.args.sheet.now;
      first_long = omega arith;
      second_long = omega arith;
      sheet_long = omega arith;
      answered = s.ensures.value;
      written = s.ensures.left.2;
    }

-- `test_sheet` meets its contract: the first pass finds the sheet's kind, and its conditions decide.
use mathlib.Core.List.{[]}
use mathlib.Core.Path.{sym, ◌∙◌, ap}
use Rattle.std.specs.Prelude.{Ok}
use Rattle.std.proofs.lemmas.Result.{err_from_is_err_and}
use Rattle.sheets.specs.working.FlatSystem.{system_in}
use Rattle.acceptance.proofs.TestWhole.{whole-refused, map-room, map-bits, whole-map, trace-stands, trace-short, whole-trace}
use Rattle.acceptance.proofs.test_sheet.Goals as goal

pub returns-in_err-shape_of : goal.returns-in_err-shape_of
returns-in_err-shape_of c =
    let p = err_from_is_err_and c.from_residual.result c.from_residual.ensures.1 in
    rw (p.1, p.2) (whole-refused _ _ _ c.in_err-shape_of.ensures)

pub slice_bounds-test_map-count : goal.slice_bounds-test_map-count
slice_bounds-test_map-count c = map-room (system_in [] c.args.table.now.plan) _ (sym (ap Ok c.in-Map.is) ∙ c.in_ok-shape_of.ensures)

pub slice_bounds-test_map-start : goal.slice_bounds-test_map-start
slice_bounds-test_map-start c = map-room (system_in [] c.args.table.now.plan) _ (sym (ap Ok c.in-Map.is) ∙ c.in_ok-shape_of.ensures)

pub test_map-requires : goal.test_map-requires
test_map-requires c = map-bits (system_in [] c.args.table.now.plan) _ (sym (ap Ok c.in-Map.is) ∙ c.in_ok-shape_of.ensures)

pub test_trace-requires : goal.test_trace-requires
test_trace-requires c =
    let found = sym (ap Ok c.in-Trace.is) ∙ c.in_ok-shape_of.ensures in
    (trace-short (system_in [] c.args.table.now.plan) _ found, trace-stands (system_in [] c.args.table.now.plan) _ found)

pub returns-in-Map : goal.returns-in-Map
returns-in-Map c =
    whole-map _ _ (sym (ap Ok c.in-Map.is) ∙ c.in_ok-shape_of.ensures) _ c.test_map.ensures

pub returns-in-Trace : goal.returns-in-Trace
returns-in-Trace c =
    whole-trace _ _ (sym (ap Ok c.in-Trace.is) ∙ c.in_ok-shape_of.ensures) _ c.test_trace.ensures

-- `conclude` meets its contract: the header, and then the trace or the map, with both tables cleared.
use native.Mathlib.Omega.{arith}
use Rattle.search.proofs.SearchesLeft.{map-asked, length-small, second-room, count-few}
use Rattle.search.proofs.SearchesLeft.{last_within, unsafe_left, void_left, safe_left}
use Rattle.search.proofs.concluding.conclude.Goals as goal

pub offset_bounds-first-reach : goal.offset_bounds-first-reach
offset_bounds-first-reach c =
    omega (
      arith,
      count-few _ _ c.args.table.now.sound _ c.requires.0 _ c.requires.2 c.put_header.ensures c.requires.1 c.args.reach.trials,
    )

pub bounds-first-reach : goal.bounds-first-reach
bounds-first-reach c =
    last_within _ _ c.args.table.now.sound _ c.requires.0 _ c.requires.2 c.put_header.ensures c.requires.1 c.args.reach.trials c.if-reach.true

pub returns-then-reach : goal.returns-then-reach
returns-then-reach c =
    unsafe_left _ _ c.args.table.now.sound _ c.requires.0 c.args.sheet.now c.requires.2
    c.put_header.ensures c.requires.1 c.args.reach.trials c.clear_tables.ensures.0 c.clear_tables.ensures.1
    c.if-reach.true c.write_trace-length.ensures

pub write_map-requires : goal.write_map-requires
write_map-requires c =
    map-asked c.args.table.now.ops.now _ c.args.table.now.sound _ c.requires.0 _ c.requires.2
    c.put_header.ensures _ c.map_length-n.ensures _
    (second-room _ _ c.args.table.now.sound _ c.requires.0 _ c.requires.2 c.put_header.ensures c.requires.1 c.args.reach.trials) _
    c.put_head.ensures

pub overflow_add-length : goal.overflow_add-length
overflow_add-length c =
    omega (
      arith,
      length-small c.args.table.now.plan.bits c.args.states
          c.map_length-n.result c.args.table.now.sound.few_bits c.requires.0 c.map_length-n.ensures,
    )

pub returns-then-reach-eq0 : goal.returns-then-reach-eq0
returns-then-reach-eq0 c =
    void_left _ _ c.args.table.now.sound _ c.requires.0 c.args.sheet.now c.requires.2
    c.put_header.ensures c.requires.1 c.args.reach.trials c.clear_tables-2.ensures.0 c.clear_tables-2.ensures.1
    c.if-reach.false c.map_length-n.ensures c.put_head.ensures
    c.write_map.ensures c.if-reach-eq0.true

pub returns : goal.returns
returns c =
    safe_left _ _ c.args.table.now.sound _ c.requires.0 c.args.sheet.now c.requires.2
    c.put_header.ensures c.requires.1 c.args.reach.trials c.clear_tables-2.ensures.0 c.clear_tables-2.ensures.1
    c.if-reach.false c.map_length-n.ensures c.put_head.ensures
    c.write_map.ensures (omega (arith, c.if-reach-eq0.false))

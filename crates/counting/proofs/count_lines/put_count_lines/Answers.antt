-- `put_count_lines` meets its contract: the total, and then the counts of the table.
use native.Mathlib.Omega.{arith}
use lib.Pow.{pow_pos}
use Rattle.notation.specs.Bytes.{bytes}
use Rattle.counting.proofs.MapBytes.{few_bytes, all_in, few_settings}
use Rattle.counting.proofs.WholeLines.{counts-told, total-room, settings_room, all-put}
use Rattle.counting.proofs.count_lines.put_count_lines.Goals as goal

pub count_members-total-requires : goal.count_members-total-requires
count_members-total-requires c = few_bytes c.requires.0

pub put_number_line-requires : goal.put_number_line-requires
unfolding bytes
put_number_line-requires c = total-room c.requires.0 _ c.count_members-total.ensures c.requires.1

pub count_settings-counts-requires : goal.count_settings-counts-requires
count_settings-counts-requires c =
    let S = c.requires.0 in (
      few_bytes S,
      omega (arith, c.power.ensures, all_in S),
      omega (arith, c.power-settings.ensures, pow_pos c.args.shared),
      omega (arith, c.power-settings.ensures, few_settings S),
    )

pub put_settings-requires : goal.put_settings-requires
unfolding bytes
put_settings-requires c =
    settings_room c.requires.0 _ c.count_members-total.ensures c.put_number_line.ensures _
    c.power-settings.ensures _ (counts-told _ _ _ c.power.ensures c.count_settings-counts.ensures) c.requires.1

pub returns : goal.returns
unfolding bytes
returns c =
    all-put c.requires.0 _ c.count_members-total.ensures c.put_number_line.ensures _
    c.power-settings.ensures _ (counts-told _ _ _ c.power.ensures c.count_settings-counts.ensures) c.put_settings.ensures

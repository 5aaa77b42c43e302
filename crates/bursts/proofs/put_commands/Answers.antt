-- `put_commands` meets its contract: a width out of range is refused, and else the names are those of the text that is read.
use mathlib.Core.Path.{◌≡◌, sym, ◌∙◌, subst}
use native.Mathlib.Omega.{arith}
use lib.ListN.{length, take}
use lib.Seq.{length-take-le}
use Rattle.std.specs.Prelude.{Ok}
use Rattle.reader.specs.Read.{reading_of}
use Rattle.lines.specs.Writers.{HasRoom, Writes}
use Rattle.lines.proofs.Writers.{nothing}
use Rattle.bursts.specs.working.Writing.{Listed, table_of, table_in, with_width}
use Rattle.bursts.proofs.NamesListed.{few-listed, listed, table-read, no-table}
use Rattle.bursts.proofs.LinesPut.{width-refused, in_range_lem}
use Rattle.bursts.proofs.put_commands.Goals as goal
use Rattle.bursts.proofs.put_commands.Goals.{In-Ok, In_default}

pub put_refusal-requires : goal.put_refusal-requires
put_refusal-requires c =
    let a = c.args in
    subst (HasRoom a.out.now) (sym (width-refused a.width (table_of a.text.now a.sheet.now a.width) c.then-width-eq0.either _ c.at.ensures)) c.requires.1

pub returns-then-width-eq0 : goal.returns-then-width-eq0
returns-then-width-eq0 c =
    let a = c.args in
    subst (λ v. Writes a.out.now v c.put_refusal.new.self) (width-refused a.width (table_of a.text.now a.sheet.now a.width) c.then-width-eq0.either _ c.at.ensures) c.put_refusal.ensures

pub returns-in_default : goal.returns-in_default
returns-in_default c =
    let a = c.args in
    subst (λ v. Writes a.out.now v a.out.now)
    (no-table a.text.now a.sheet.now a.width _ (sym c.in_default.is ∙ c.read.ensures)
    ∙ in_range_lem a.width (table_of a.text.now a.sheet.now a.width) c.if-width-eq0.false c.if-width-gt4095.false)
    nothing

-- The text was read.
code-read : (c : In-Ok) → Ok c.in-Ok.code ≡ reading_of c.args.text.now
code-read c = sym c.in-Ok.is ∙ c.read.ensures

-- The table is what is to be written.
table-told : (c : In-Ok) →
    let a = c.args in
    let code = c.in-Ok.code in
    table_in a.text.now code (take code.commands a.counts.now) a.sheet.now a.width ≡ with_width a.width (table_of a.text.now a.sheet.now a.width)
table-told c =
    let a = c.args in
    table-read a.text.now c.in-Ok.code (code-read c) a.sheet.now a.width a.counts.now c.requires.0 (omega (arith, few-listed a.text.now c.in-Ok.code (code-read c)))
    ∙ in_range_lem a.width (table_of a.text.now a.sheet.now a.width) c.if-width-eq0.false c.if-width-gt4095.false

pub shared_ref_as_front-put_table : goal.shared_ref_as_front-put_table
shared_ref_as_front-put_table c = few-listed c.args.text.now c.in-Ok.code (code-read (goal.at.shared_ref_as_front-put_table c).In-Ok)

pub put_table-requires : goal.put_table-requires
put_table-requires c =
    let a = c.args in
    let code = c.in-Ok.code in
    let at : In-Ok = (goal.at.put_table-requires c).In-Ok in
    let long : length (take code.commands a.counts.now) ≡ code.commands = length-take-le code.commands a.counts.now (omega (arith, few-listed a.text.now code (code-read at))) in (
      subst (Listed a.text.now code) (sym long) (listed a.text.now code (code-read at)),
      subst (HasRoom a.out.now) (sym (table-told at)) c.requires.1,
    )

pub returns : goal.returns
returns c = subst (λ v. Writes c.args.out.now v c.put_table.new.out) (table-told (goal.at.returns c).In-Ok) c.put_table.ensures

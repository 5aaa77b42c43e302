-- `read_into` meets its contract: a text that is too long, one that was read into arrays of zeros, or one that is refused.
use mathlib.Core.Path.{sym, ◌∙◌}
use Rattle.reader.proofs.TextAnswers.{too_long_lem, was_told, was_refused_lem}
use Rattle.reader.proofs.read_into.Goals as goal

pub returns-then-text-gt-MAX_TEXT : goal.returns-then-text-gt-MAX_TEXT
returns-then-text-gt-MAX_TEXT c =
    let k = too_long_lem _ c.requires c.at.ensures c.if-text-gt-MAX_TEXT.true in
    record { told = k.told; stored = k.stored }

pub returns-then-is_err : goal.returns-then-is_err
returns-then-is_err c =
    let k = was_refused_lem _ c.if-text-gt-MAX_TEXT.false c.requires _ _ (sym c.is_err.ensures.value ∙ c.if-is_err.true) c.model-told.ensures in
    record { told = k.told; stored = k.stored }

pub returns-else-is_err : goal.returns-else-is_err
returns-else-is_err c =
    let k = was_told _ c.if-text-gt-MAX_TEXT.false c.requires _ _ (sym c.is_err.ensures.value ∙ c.if-is_err.false) c.model-told.ensures in
    record { told = k.told; stored = k.stored }

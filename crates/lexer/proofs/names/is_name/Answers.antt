-- Words of other lengths differ, and so do those whose last bytes differ; one of the same length that ends alike is a window of the text.
use mathlib.Core.Path.{◌∙◌}
use native.Mathlib.Omega.{arith}
use Rattle.lexer.proofs.Lookup.{other_name, this_name, ending-no, ending-inside}
use Rattle.lexer.proofs.names.is_name.Goals as goal

pub returns-then-e-s : goal.returns-then-e-s
returns-then-e-s c =
    let E = c.requires.1 in
    other_name _ _ _ _ _ _ _ (omega (arith, E.filled)) E.inside c.from-a.ensures c.from-n.ensures
    c.if-e-s.true

pub returns-then-y-upper : goal.returns-then-y-upper
returns-then-y-upper c =
    let E = c.requires.1 in
    ending-no E _ _ _ c.if-e-s.false c.byte_at-y.ensures c.if-y-lower.true c.if-y-upper.true
    ∙ this_name _ _ _ _ _ _ _ (omega (arith, E.filled)) E.inside c.from-a.ensures c.from-n.ensures c.if-e-s.false

pub same_bytes-requires : goal.same_bytes-requires
same_bytes-requires c =
    let E = c.requires.1 in
    let z = ending-inside E _ _ _ c.if-e-s.false c.byte_at-y.ensures c.else-y-lower.either in
    (z, omega (arith, E.filled, E.inside))

pub returns : goal.returns
returns c =
    let E = c.requires.1 in
    c.same_bytes.ensures
    ∙ this_name _ _ _ _ _ _ _ (omega (arith, E.filled)) E.inside c.from-a.ensures c.from-n.ensures c.if-e-s.false

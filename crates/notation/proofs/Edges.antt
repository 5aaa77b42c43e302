-- Facts at the edges of the definitions: tokens at a limit and one beyond it, the rules on names, and how operators group.
-- Assumes nothing.
use mathlib.Core.Path.{◌≡◌, refl}
use mathlib.Core.List.{List, [], ◌∷◌, ◌++◌, map}
use mathlib.Core.Option.{Option, none, some}
use Prim.Native.Nat.{ℕ, ◌-◌}
use lib.ListN.{replicate}
use Rattle.notation.specs.Bytes.{bytes, same_word}
use Rattle.notation.specs.Tokens.{Name, sign, name, COMMAND, FOR, SKIP, AND, OR, NOT, ZERO, ONE, STAR, DOT, OPEN}
use Rattle.notation.specs.Notation.{Kind, shared_name, row_name, command_name, Mode, fixed_shared, fixed_row, free_shared, free_row, Part, part, plain, declares, uses, constant, chance, joins, negates, opens, target, begins_item, begins_command, false', true', star', not', and', or', Whole, is_zero, is_one, is_star, is_not, is_factor, is_and, is_term, is_or}
use Rattle.notation.specs.Rules.{same_kind, allowed, name_counts, view, names, has, elem, count, this_command, total, over, breach}

-- Tokens in their roles.
abbrev word_m : Name
word_m = record { place = 7; word = bytes "m" }

abbrev word_w : Name
word_w = record { place = 14; word = bytes "w" }

abbrev word_c : Name
word_c = record { place = 58; word = bytes "c" }

abbrev zero_part : Part
zero_part = part constant (sign ZERO)

abbrev one_part : Part
one_part = part constant (sign ONE)

abbrev star_part : Part
star_part = part (chance free_shared) (sign STAR)

abbrev not_part : Part
not_part = part (negates 1) (sign NOT)

abbrev and_part : Part
and_part = part joins (sign AND)

abbrev or_part : Part
or_part = part joins (sign OR)

abbrev skip_part : Part
skip_part = part begins_item (sign SKIP)

abbrev for_part : Part
for_part = part begins_item (sign FOR)

abbrev command_part : Part
command_part = part begins_command (sign COMMAND)

abbrev use_part : Mode → Name → Part
use_part m w = part (uses m) (name w)

abbrev set_part : Kind → Name → Part
set_part s w = part (target s) (name w)

abbrev tell_part : Kind → Name → Part
tell_part s w = part (declares s) (name w)

-- A shared name, a row name and a command's name are declared.
abbrev known : List Part
known = tell_part shared_name word_m ∷ tell_part row_name word_w ∷ tell_part command_name word_c ∷ []

-- A limit: this token may stand after one less than so many of those, and after so many of those it is 7.
record Limit : Type 0 where
  most : ℕ
  those : Part
  this : Part

abbrev limit : ℕ → Part → Part → Limit
limit n p q = record { most = n; those = p; this = q }

unfoldable limit_table : List Limit
limit_table =
    limit 16 command_part command_part ∷
    limit 256 skip_part for_part ∷
    limit 256 for_part skip_part ∷
    limit 256 (set_part shared_name word_m) (set_part row_name word_w) ∷
    limit 256 (set_part row_name word_w) (set_part shared_name word_m) ∷
    limit 1024 zero_part one_part ∷
    limit 1024 one_part (use_part fixed_shared word_m) ∷
    limit 1024 (use_part free_row word_w) star_part ∷
    limit 1024 star_part not_part ∷
    limit 1024 not_part and_part ∷
    limit 1024 and_part or_part ∷
    limit 1024 or_part zero_part ∷
    limit 8 star_part star_part ∷
    []

abbrev judged_after : ℕ → Limit → Option ℕ
judged_after n l = breach (known ++ replicate n l.those) l.this

limits-reached : map (λ (l : Limit). judged_after (l.most - 1) l) limit_table ≡ map (λ (l : Limit). none) limit_table
unfolding bytes same_word same_kind allowed name_counts view names has elem count this_command total over breach limit_table
limits-reached = refl

limits_passed : map (λ (l : Limit). judged_after l.most l) limit_table ≡ map (λ (l : Limit). some 7) limit_table
unfolding bytes same_word same_kind allowed name_counts view names has elem count this_command total over breach limit_table
limits_passed = refl

-- A token after others, and the number of the rule that it breaks.
record Judged : Type 0 where
  before : List Part
  this : Part
  breaks : Option ℕ

abbrev judged : List Part → Part → Option ℕ → Judged
judged us p n = record { before = us; this = p; breaks = n }

unfoldable judged_table : List Judged
judged_table =
    -- full stops and parentheses count for nothing, and nodes, items and commands are counted apart
    judged (replicate 1024 zero_part) (plain DOT) none ∷
    judged (replicate 1024 zero_part) (part (opens 1) (sign OPEN)) none ∷
    judged (replicate 1024 zero_part) skip_part none ∷
    judged (replicate 256 skip_part) zero_part none ∷
    judged (replicate 256 skip_part) command_part none ∷
    -- a command has stars of its own
    judged (replicate 8 star_part ++ command_part ∷ []) star_part none ∷
    judged (command_part ∷ replicate 8 star_part) star_part (some 7) ∷
    -- depth, by parentheses and by `not`
    judged [] (part (opens 16) (sign OPEN)) none ∷
    judged [] (part (opens 17) (sign OPEN)) (some 7) ∷
    judged [] (part (negates 16) (sign NOT)) none ∷
    judged [] (part (negates 17) (sign NOT)) (some 7) ∷
    -- no name is declared twice, whatever the two kinds
    judged [] (tell_part command_name word_c) none ∷
    judged known (tell_part shared_name word_m) (some 4) ∷
    judged known (tell_part row_name word_m) (some 4) ∷
    judged known (tell_part row_name word_w) (some 4) ∷
    judged known (tell_part command_name word_m) (some 4) ∷
    judged known (tell_part command_name word_w) (some 4) ∷
    judged known (tell_part command_name word_c) (some 4) ∷
    -- the kind of a name, in expressions and in assignments
    judged known (use_part fixed_shared word_m) none ∷
    judged known (use_part fixed_shared word_w) (some 5) ∷
    judged known (use_part fixed_row word_m) none ∷
    judged known (use_part fixed_row word_w) none ∷
    judged known (use_part free_shared word_w) (some 5) ∷
    judged known (use_part free_row word_w) none ∷
    judged known (use_part free_row word_c) (some 5) ∷
    judged [] (use_part free_row word_m) (some 5) ∷
    judged known (set_part shared_name word_m) none ∷
    judged known (set_part shared_name word_w) (some 5) ∷
    judged known (set_part row_name word_w) none ∷
    judged known (set_part row_name word_m) (some 5) ∷
    judged known (set_part shared_name word_c) (some 5) ∷
    -- of several rules broken the lowest number
    judged (replicate 1024 zero_part) (use_part free_row word_m) (some 5) ∷
    judged (replicate 256 skip_part) (set_part row_name word_m) (some 5) ∷
    judged (replicate 1024 zero_part) (part (chance fixed_row) (sign STAR)) (some 6) ∷
    []

all_judged : map (λ (j : Judged). breach j.before j.this) judged_table ≡ map (λ (j : Judged). j.breaks) judged_table
unfolding bytes same_word same_kind allowed name_counts view names has elem count this_command total over breach judged_table
all_judged = refl

-- How expressions group, by the forms of the notation alone: each operator from the left, `not` before `and`, `and` before `or`.
and_groups_left : Whole free_shared (zero_part ∷ and_part ∷ one_part ∷ and_part ∷ star_part ∷ []) (and' (and' false' true') star')
and_groups_left = is_term (is_and (is_and (is_factor is_zero) is_one) is_star)

or_groups_left : Whole free_shared (zero_part ∷ or_part ∷ one_part ∷ or_part ∷ star_part ∷ []) (or' (or' false' true') star')
or_groups_left = is_or (is_or (is_term (is_factor is_zero)) (is_factor is_one)) (is_factor is_star)

and_binds_tighter : Whole free_shared (zero_part ∷ or_part ∷ one_part ∷ and_part ∷ star_part ∷ []) (or' false' (and' true' star'))
and_binds_tighter = is_or (is_term (is_factor is_zero)) (is_and (is_factor is_one) is_star)

not_binds_tightest : Whole free_shared (not_part ∷ zero_part ∷ and_part ∷ one_part ∷ []) (and' (not' false') true')
not_binds_tightest = is_term (is_and (is_factor (is_not is_zero)) is_one)

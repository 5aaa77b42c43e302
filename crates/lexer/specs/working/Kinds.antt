-- The kinds of pieces by their numbers, which of a sign is that of its token.
-- Assumes nothing.
use Rattle.std.specs.Prelude.{List, [], ◌∷◌, ℕ, get_or}
use Rattle.lexer.specs.declared.pieces.Kind.{Kind}
use Rattle.lexer.specs.declared.pieces.Kind.TheVariants.{Shared, Row, Start, Keep, Each, Command, If, Do, Else, For, End, Skip, And, Or, Not, Zero, One, Star, Dot, Semi, Assign, Open, Close, Other, Name, Bad, Finish}

abbrev pub kind_number : Kind → ℕ
kind_number Shared = 0
kind_number Row = 1
kind_number Start = 2
kind_number Keep = 3
kind_number Each = 4
kind_number Command = 5
kind_number If = 6
kind_number Do = 7
kind_number Else = 8
kind_number For = 9
kind_number End = 10
kind_number Skip = 11
kind_number And = 12
kind_number Or = 13
kind_number Not = 14
kind_number Zero = 15
kind_number One = 16
kind_number Star = 17
kind_number Dot = 18
kind_number Semi = 19
kind_number Assign = 20
kind_number Open = 21
kind_number Close = 22
kind_number Other = 23
kind_number Name = 24
kind_number Bad = 25
kind_number Finish = 26

-- In the order of their numbers.
abbrev pub kinds : List Kind
kinds =
    Shared ∷ Row ∷ Start ∷ Keep ∷ Each ∷ Command ∷ If ∷ Do ∷ Else ∷ For ∷ End ∷ Skip ∷ And ∷ Or ∷ Not ∷ Zero ∷ One ∷ Star ∷ Dot ∷ Semi ∷ Assign ∷ Open ∷ Close ∷ Other ∷ Name ∷
    Bad ∷ Finish ∷ []

-- The kind with a number; each number past the last is taken for the last.
unfoldable pub kind_of : ℕ → Kind
kind_of n = get_or kinds n Finish

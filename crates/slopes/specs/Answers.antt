-- What a derivative's answer says in the paper's words: its value. Definitions only.
use Rattle.std.specs.Prelude.{Option, Some, None, Result, Ok, Err, Float}

-- the quotient; a refusal has none
abbrev pub value_of : {E : Type 0} → Result Float E → Option Float
value_of (Ok q) = Some q
value_of (Err why) = None

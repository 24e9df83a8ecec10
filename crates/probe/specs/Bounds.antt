-- The size that the program's contracts speak of.
use Rattle.std.specs.Prelude.{ℕ}

-- The most bytes of an answer line: seven numbers of ten digits, each with a blank or the line feed behind it.
abbrev pub longest : ℕ
longest = 77

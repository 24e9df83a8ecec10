-- What a read may answer, and how many bytes of a chunk that is.
use Rattle.std.specs.Prelude.{◌≡◌, ℕ, ◌≤◌, min, Result, Ok, Err}
use Rattle.bench.specs.declared.standard.Failure.{Failure}
use Rattle.bench.specs.declared.standard.Failure.TheVariants.{Reading}

-- what a read of up to n bytes may answer: that reading failed, or how many bytes it moved, at
-- most n
abbrev pub Moved : ℕ → Result ℕ Failure → Type 0
Moved n (Ok k) = k ≤ n
Moved n (Err e) = e ≡ Reading

-- what a read answered, brought into 0 to most
abbrev pub clamp_len : Result ℕ Failure → ℕ → ℕ
clamp_len (Ok k) most = min k most
clamp_len (Err e) most = 0
